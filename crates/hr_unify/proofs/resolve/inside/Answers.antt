use Rattle.std.proofs.Common.{◌++◌, map, ap, ◌∙◌}
use Rattle.hr_type.specs.Heads.{head_of, joined, posts}
use Rattle.hr_type.specs.Types.{replaced}
use Rattle.hr_type.proofs.Reading.{popped, turned_popped}
use Rattle.hr_unify.proofs.Resolving as resolving
use Rattle.hr_unify.proofs.resolve.inside.Goals as goal

pub loop-next-smaller-in-Some-type_behind : goal.loop-next-smaller-in-Some-type_behind
loop-next-smaller-in-Some-type_behind c =
    resolving.behind_smaller _ c.requires _ _ _ _ (popped (λ t. t.now) _ _ _ c.in-Some.ensures.items) _ c.in-Some-type_behind.ensures (popped (λ t. t.now) _ _ _ c.in_ok-push-2.ensures.items)

pub loop-next-preserved-in-Some-type_behind : goal.loop-next-preserved-in-Some-type_behind
loop-next-preserved-in-Some-type_behind c = λ by m.
    resolving.goes_behind _ by m _ _ _ _ (popped (λ t. t.now) _ _ _ c.in-Some.ensures.items) _ _ c.in-Some-type_behind.ensures (popped (λ t. t.now) _ _ _ c.in_ok-push-2.ensures.items) ∙ c.loop-next.invariant by m

pub loop-next-smaller : goal.loop-next-smaller
loop-next-smaller c = resolving.inside_smaller _ c.requires _ _ _ _ (popped (λ t. t.now) _ _ _ c.in-Some.ensures.items) c.in_ok-push_parts.ensures

pub loop-next-preserved : goal.loop-next-preserved
loop-next-preserved c = λ by m.
    ap (λ hs. joined (map posts (map (replaced by) (map (λ t. t.now) c.push_parts.new.stack.items))) ++ hs) (turned_popped (λ t. head_of t.now) _ _ _ c.in_ok-push-3.ensures.items)
    ∙ resolving.goes_inside _ by m _ _ _ _ (popped (λ t. t.now) _ _ _ c.in-Some.ensures.items) _ c.in_default-type_behind.ensures c.in_ok-push_parts.ensures ∙ c.loop-next.invariant by m
