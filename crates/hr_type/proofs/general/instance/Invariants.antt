use Rattle.std.proofs.Common.{map}
use Rattle.hr_type.specs.Sizes.{size, total}
use Rattle.hr_type.proofs.Matched.{Open}
use Rattle.hr_type.proofs.general.instance.Given as goal

abbrev pub invariant-loop-pattern : goal.invariant-loop-pattern
invariant-loop-pattern l = Open l.general.bound l.general.body l.special l.chosen.entries (map (λ t. t.now) l.generals.items) (map (λ t. t.now) l.specials.items)

abbrev pub decreases-loop-pattern : goal.decreases-loop-pattern
decreases-loop-pattern l = total (map size (map (λ t. t.now) l.generals.items))
