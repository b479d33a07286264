use Rattle.std.proofs.Common.{◌≡◌, ◌≤◌, true, length, drop}
use Rattle.hr_plain.specs.Form.{defined_by}
use Rattle.hr_plain.specs.Sets.{Holds, are_together}
use Rattle.hr_plain.proofs.scoping.top_level.Given as goal

-- the names of the last equations stand together, and are those of the set
abbrev pub invariant-loop-place : goal.invariant-loop-place
invariant-loop-place l =
    (l.place ≤ length l.equations) × ((are_together (defined_by (drop l.place l.equations)) ≡ true) × Holds l.names (defined_by (drop l.place l.equations)))

abbrev pub decreases-loop-place : goal.decreases-loop-place
decreases-loop-place l = l.place
