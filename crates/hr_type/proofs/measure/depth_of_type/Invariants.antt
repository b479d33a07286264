use Rattle.std.proofs.Common.{◌≡◌, ◌≤◌, ◌-◌, ◌^◌, max, min}
use Rattle.hr_type.specs.Sizes.{depth}
use Rattle.hr_type.specs.Inside.{deepest_of, spread}
use Rattle.hr_type.proofs.measure.depth_of_type.Given as goal

abbrev pub invariant-loop-next : goal.invariant-loop-next
invariant-loop-next l = record { within : l.deepest ≤ 2 ^ 64 - 1; whole : min (max l.deepest (deepest_of l.left.items)) (2 ^ 64 - 1) ≡ min (depth l.ty) (2 ^ 64 - 1) }

abbrev pub decreases-loop-next : goal.decreases-loop-next
decreases-loop-next l = spread l.left.items
