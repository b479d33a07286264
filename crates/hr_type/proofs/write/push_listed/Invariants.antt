use Rattle.std.proofs.Common.{◌≡◌, ◌<◌, ◌≤◌, ◌+◌, ◌*◌, ◌++◌, drop, length, map, take}
use Rattle.hr_type.specs.Jobs.{load, pending}
use Rattle.hr_type.specs.Sizes.{size, total}
use Rattle.hr_type.specs.Spelling as spec
use Rattle.hr_type.proofs.write.push_listed.Given as goal

abbrev pub invariant-loop-left : goal.invariant-loop-left
invariant-loop-left l = record {
  within : l.left ≤ length l.types;
  some : 0 < length l.types → 0 < l.left;
  text : pending l.scope l.jobs.items ≡ spec.bytes_of (spec.listed_rest (map (spec.written l.scope) (drop l.left l.types))) ++ pending l.scope l.initial.jobs.items;
  work : load l.jobs.items + 3 * total (map size (take l.left l.types)) ≡ load l.initial.jobs.items + 3 * total (map size l.types);
}

abbrev pub decreases-loop-left : goal.decreases-loop-left
decreases-loop-left l = l.left
