use Rattle.std.proofs.Common.{◌≡◌, take, length}
use Rattle.hr_graph.specs.Groups.{AreGathered}
use Rattle.hr_graph.proofs.groups.members.Given as goal

abbrev pub invariant-loop-node : goal.invariant-loop-node
invariant-loop-node l = record {
  members : AreGathered (take l.node l.leasts) l.rows.items;
  long : length l.rows.items ≡ length l.leasts;
}
