use Rattle.hr_graph.proofs.LawProofs.{one_order}
use Rattle.hr_graph.proofs.laws.order_is_unique.Goals as goal

pub returns : goal.returns
returns c = one_order
