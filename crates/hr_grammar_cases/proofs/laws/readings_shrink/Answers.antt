use Rattle.hr_grammar_cases.proofs.Shrinks.{readings_shrink_lem}
use Rattle.hr_grammar_cases.proofs.laws.readings_shrink.Goals as goal

pub returns : goal.returns
returns c = readings_shrink_lem
