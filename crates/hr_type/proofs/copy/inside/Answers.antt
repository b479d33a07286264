use Rattle.std.proofs.Common.{◌++◌, map, ap, ◌∙◌}
use Rattle.hr_type.specs.Heads.{head_of, joined, posts}
use Rattle.hr_type.proofs.Layers.{smaller, posts_more}
use Rattle.hr_type.proofs.Reading.{popped, turned_popped}
use Rattle.hr_type.proofs.copy.inside.Goals as goal

pub loop-next-smaller : goal.loop-next-smaller
loop-next-smaller c = smaller _ _ _ _ (popped (λ t. t.now) _ _ _ c.in-Some.ensures.items) c.in_ok-push_parts.ensures

pub loop-next-preserved : goal.loop-next-preserved
loop-next-preserved c =
    ap (λ hs. joined (map posts (map (λ t. t.now) c.push_parts.new.stack.items)) ++ hs) (turned_popped (λ t. head_of t.now) _ _ _ c.in_ok-push-2.ensures.items)
    ∙ posts_more _ _ _ _ (popped (λ t. t.now) _ _ _ c.in-Some.ensures.items) c.in_ok-push_parts.ensures _ ∙ c.loop-next.invariant
