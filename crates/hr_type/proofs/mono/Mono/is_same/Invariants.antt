use Rattle.std.proofs.Common.{◌≡◌, ◌↔◌, map}
use Rattle.hr_type.specs.Sizes.{size, total}
use Rattle.hr_type.proofs.mono.Mono.is_same.Given as goal

abbrev pub invariant-loop-left : goal.invariant-loop-left
invariant-loop-left l = (map (λ t. t.now) l.lefts.items ≡ map (λ t. t.now) l.rights.items) ↔ (l.self ≡ l.other)

abbrev pub decreases-loop-left : goal.decreases-loop-left
decreases-loop-left l = total (map size (map (λ t. t.now) l.lefts.items))
