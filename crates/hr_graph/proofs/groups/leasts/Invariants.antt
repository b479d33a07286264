use Rattle.hr_graph.proofs.GroupSteps.{AreFirsts}
use Rattle.hr_graph.proofs.groups.leasts.Given as goal

abbrev pub invariant-loop-node : goal.invariant-loop-node
invariant-loop-node l = AreFirsts l.labels l.node l.first.items l.leasts.items
