use Rattle.std.proofs.Common.{◌≡◌, take}
use Rattle.hr_graph.specs.Groups.{groups_of}
use Rattle.hr_graph.proofs.groups.filled_rows.Given as goal

abbrev pub invariant-loop-node : goal.invariant-loop-node
invariant-loop-node l = l.list.items ≡ groups_of l.rows (take l.node-index l.order)
