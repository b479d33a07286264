use Rattle.std.proofs.Common.{◌≡◌, map}
use Rattle.std.specs.List.{list_all}
use Rattle.hr_type.specs.Sizes.{size, total}
use Rattle.hr_type.specs.Spelling as spec
use Rattle.hr_type.proofs.spell.is_spellable.Given as goal

-- the types still to come decide
abbrev pub invariant-loop-next : goal.invariant-loop-next
invariant-loop-next l = list_all (λ b. b) (map (spec.is_spellable l.scope) (map (λ t. t.now) l.left.items)) ≡ spec.is_spellable l.scope l.ty

abbrev pub decreases-loop-next : goal.decreases-loop-next
decreases-loop-next l = total (map size (map (λ t. t.now) l.left.items))
