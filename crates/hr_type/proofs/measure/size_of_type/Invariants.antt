use Rattle.std.proofs.Common.{◌≡◌, ◌≤◌, ◌+◌, ◌-◌, ◌^◌, map, min}
use Rattle.hr_type.specs.Sizes.{size, total}
use Rattle.hr_type.proofs.measure.size_of_type.Given as goal

abbrev pub invariant-loop-next : goal.invariant-loop-next
invariant-loop-next l = record { within : l.count ≤ 2 ^ 64 - 1; whole : min (l.count + total (map size (map (λ t. t.now) l.left.items))) (2 ^ 64 - 1) ≡ min (size l.ty) (2 ^ 64 - 1) }

abbrev pub decreases-loop-next : goal.decreases-loop-next
decreases-loop-next l = total (map size (map (λ t. t.now) l.left.items))
