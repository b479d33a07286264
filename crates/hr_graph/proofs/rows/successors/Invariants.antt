use Rattle.std.proofs.Common.{take}
use Rattle.hr_graph.specs.Rows.{AreRows}
use Rattle.hr_graph.proofs.rows.successors.Given as goal

abbrev pub invariant-loop-from : goal.invariant-loop-from
invariant-loop-from l = AreRows l.nodes (take l.from-index l.edges) l.rows.items
