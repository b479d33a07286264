use Rattle.hr_grammar_cases.proofs.Fronts.{fronts_close_lem}
use Rattle.hr_grammar_cases.proofs.laws.fronts_close.Goals as goal

pub returns : goal.returns
returns c = fronts_close_lem
