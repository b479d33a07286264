use Rattle.std.proofs.Common.{◌≡◌, ◌≤◌, drop, length, reverse}
use Rattle.hr_unify.specs.Tasks.{seen_pairs}
use Rattle.hr_unify.proofs.unifier.copies.Given as goal

abbrev pub invariant-loop-left : goal.invariant-loop-left
invariant-loop-left l = record {
  within : l.left ≤ length l.fresh.entries;
  made : reverse l.found.items ≡ seen_pairs (drop l.left l.fresh.entries);
}

abbrev pub decreases-loop-left : goal.decreases-loop-left
decreases-loop-left l = l.left
