use Rattle.std.proofs.Common.{◌≡◌, take}
use Rattle.hr_graph.specs.Graph.{turned}
use Rattle.hr_graph.proofs.rows.reversed.Given as goal

abbrev pub invariant-loop-from : goal.invariant-loop-from
invariant-loop-from l = l.turned.items ≡ turned (take l.from-index l.edges)
