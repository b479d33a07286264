use Rattle.hr_grammar_cases.proofs.Endings.{parts_end_lem}
use Rattle.hr_grammar_cases.proofs.laws.parts_end.Goals as goal

pub returns : goal.returns
returns c = parts_end_lem
