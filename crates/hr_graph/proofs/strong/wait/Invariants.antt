use Rattle.std.proofs.Common.{◌≡◌, ◌++◌, take}
use Rattle.hr_graph.specs.Strong.{waiting}
use Rattle.hr_graph.proofs.strong.wait.Given as goal

abbrev pub invariant-loop-target : goal.invariant-loop-target
invariant-loop-target l = l.pending.items ≡ l.initial.pending.items ++ waiting l.place (take l.target-index l.row)
