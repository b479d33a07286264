use Rattle.hr_grammar.proofs.Worked.{worked_trees_lem}
use Rattle.hr_grammar.proofs.laws.worked_trees.Goals as goal

pub returns : goal.returns
returns c = worked_trees_lem
