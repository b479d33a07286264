use Rattle.hr_type.proofs.Layers.{smaller}
use Rattle.hr_type.proofs.Reading.{popped, layers_tell}
use Rattle.hr_type.proofs.mono.Mono.is_same.Goals as goal

pub loop-left-smaller : goal.loop-left-smaller
loop-left-smaller c = smaller _ _ _ _ (popped (λ t. t.now) _ _ _ c.in-Some.ensures.items) c.in_ok-push_parts.ensures

pub loop-left-preserved : goal.loop-left-preserved
loop-left-preserved c =
    layers_tell _ _ _ _ _ _ _ _ _ (popped (λ t. t.now) _ _ _ c.in-Some.ensures.items) (popped (λ t. t.now) _ _ _ c.in-Some-pop.ensures.items) c.loop-left.invariant
    c.in_ok-push_parts.ensures c.in_ok-push_parts-2.ensures (c.have_same_head.ensures.0 c.if-not-have_same_head.false)
