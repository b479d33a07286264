use Rattle.std.proofs.Common.{◌≡◌, map}
use Rattle.std.specs.List.{list_all}
use Rattle.hr_type.specs.Sizes.{size, total}
use Rattle.hr_type.specs.Spelling as spec
use Rattle.hr_type.proofs.arity.has_arities.Given as goal

-- the types still to come decide
abbrev pub invariant-loop-next : goal.invariant-loop-next
invariant-loop-next l = list_all (λ b. b) (map spec.has_arities (map (λ t. t.now) l.left.items)) ≡ spec.has_arities l.ty

abbrev pub decreases-loop-next : goal.decreases-loop-next
decreases-loop-next l = total (map size (map (λ t. t.now) l.left.items))
