use Rattle.hr_type.specs.Sizes.{steps}
use Rattle.hr_type.proofs.mono.Mono.drop.Given as goal

abbrev pub invariant-loop-next : goal.invariant-loop-next
invariant-loop-next l = Unit {0}

abbrev pub decreases-loop-next : goal.decreases-loop-next
decreases-loop-next l = steps l.ty l.rest
