use Rattle.std.proofs.Common.{◌≡◌, ◌≤◌, true, length, drop}
use Rattle.hr_plain.specs.Form.{variables_in}
use Rattle.hr_plain.specs.Sets.{Holds, are_apart}
use Rattle.hr_plain.proofs.scoping.variables_of.Given as goal

-- the variables among the last patterns differ, and are those of the set
abbrev pub invariant-loop-place : goal.invariant-loop-place
invariant-loop-place l =
    (l.place ≤ length l.patterns) × ((are_apart (variables_in (drop l.place l.patterns)) ≡ true) × Holds l.names (variables_in (drop l.place l.patterns)))

abbrev pub decreases-loop-place : goal.decreases-loop-place
decreases-loop-place l = l.place
