use Rattle.hr_grammar_cases.proofs.GrammaticalModules.{levels_are_lem}
use Rattle.hr_grammar_cases.proofs.laws.levels_are.Goals as goal

pub returns : goal.returns
returns c = levels_are_lem
