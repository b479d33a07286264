use Rattle.std.proofs.Common.{◌≡◌, ◌++◌, map, reverse}
use Rattle.hr_type.specs.Heads.{head_of, joined, posts}
use Rattle.hr_type.specs.Sizes.{size, total}
use Rattle.hr_type.proofs.copy.inside.Given as goal

-- what is still to be looked into is built first
abbrev pub invariant-loop-next : goal.invariant-loop-next
invariant-loop-next l = joined (map posts (map (λ t. t.now) l.left.items)) ++ reverse (map (λ t. head_of t.now) l.found.items) ≡ posts l.ty

abbrev pub decreases-loop-next : goal.decreases-loop-next
decreases-loop-next l = total (map size (map (λ t. t.now) l.left.items))
