use Rattle.std.proofs.Common.{◌≡◌, ◌++◌, drop}
use Rattle.hr_step.specs.Kept.{counts_from}
use Rattle.hr_step.proofs.kept.counts_before.Given as goal

abbrev pub invariant-loop-mark : goal.invariant-loop-mark
invariant-loop-mark l = l.counts.items ++ counts_from l.count (drop l.mark-index l.marks) ≡ counts_from 0 l.marks
