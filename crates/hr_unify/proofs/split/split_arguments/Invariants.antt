use Rattle.std.proofs.Common.{◌≡◌, ◌≤◌, ◌++◌, drop, length}
use Rattle.hr_unify.specs.Tasks.{tasks}
use Rattle.hr_unify.specs.Working.{paired}
use Rattle.hr_unify.proofs.split.split_arguments.Given as goal

abbrev pub invariant-loop-left : goal.invariant-loop-left
invariant-loop-left l = record {
  within : l.left ≤ length l.lefts;
  pairs : tasks l.work.items ≡ tasks l.initial.work.items ++ paired (drop l.left l.lefts) (drop l.left l.rights);
}

abbrev pub decreases-loop-left : goal.decreases-loop-left
decreases-loop-left l = l.left
