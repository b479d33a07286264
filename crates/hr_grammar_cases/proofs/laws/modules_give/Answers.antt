use Rattle.hr_grammar_cases.proofs.Modules.{modules_give_lem}
use Rattle.hr_grammar_cases.proofs.laws.modules_give.Goals as goal

pub returns : goal.returns
returns c = modules_give_lem
