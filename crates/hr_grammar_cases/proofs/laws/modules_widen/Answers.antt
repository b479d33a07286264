use Rattle.hr_grammar_cases.proofs.WideningModules.{modules_widen_lem}
use Rattle.hr_grammar_cases.proofs.laws.modules_widen.Goals as goal

pub returns : goal.returns
returns c = modules_widen_lem
