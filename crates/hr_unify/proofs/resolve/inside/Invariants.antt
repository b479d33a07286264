use Rattle.std.proofs.Common.{◌≡◌, ◌++◌, ℕ, map, reverse}
use Rattle.hr_type.specs.declared.mono.Mono.{Mono}
use Rattle.hr_type.specs.Heads.{head_of, joined, posts}
use Rattle.hr_type.specs.Types.{replaced}
use Rattle.hr_unify.specs.Unifiers.{IsMeaning}
use Rattle.hr_unify.specs.Weights.{load, total}
use Rattle.hr_unify.proofs.resolve.inside.Given as goal

abbrev pub invariant-loop-next : goal.invariant-loop-next
invariant-loop-next l = (by : ℕ → Mono) → IsMeaning l.bindings.entries by
    → joined (map posts (map (replaced by) (map (λ t. t.now) l.left.items))) ++ reverse (map (λ t. head_of t.now) l.found.items) ≡ posts (replaced by l.ty)

abbrev pub decreases-loop-next : goal.decreases-loop-next
decreases-loop-next l = total (map (load l.bindings.entries) (map (λ t. t.now) l.left.items))
