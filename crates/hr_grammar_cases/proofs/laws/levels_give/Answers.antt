use Rattle.hr_grammar_cases.proofs.Modules.{levels_give_lem}
use Rattle.hr_grammar_cases.proofs.laws.levels_give.Goals as goal

pub returns : goal.returns
returns c = levels_give_lem
