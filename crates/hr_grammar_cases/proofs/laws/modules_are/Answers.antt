use Rattle.hr_grammar_cases.proofs.GrammaticalModules.{modules_are_lem}
use Rattle.hr_grammar_cases.proofs.laws.modules_are.Goals as goal

pub returns : goal.returns
returns c = modules_are_lem
