use Rattle.hr_grammar_cases.proofs.WideningModules.{levels_widen_lem}
use Rattle.hr_grammar_cases.proofs.laws.levels_widen.Goals as goal

pub returns : goal.returns
returns c = levels_widen_lem
