use Rattle.hr_graph.proofs.LawProofs.{one_list}
use Rattle.hr_graph.proofs.laws.components_are_unique.Goals as goal

pub returns : goal.returns
returns c = one_list
