use Rattle.std.proofs.Common.{◌≡◌, [], ap, map, arith, rules}
use Rattle.hr_type.specs.Sizes.{size, total}
use Rattle.hr_type.proofs.Layers.{smaller, counted}
use Rattle.hr_type.proofs.Reading.{popped, counted_more}
use Rattle.hr_type.proofs.measure.size_of_type.Goals as goal

pub loop-next-smaller : goal.loop-next-smaller
loop-next-smaller c = smaller _ _ _ _ (popped (λ t. t.now) _ _ _ c.in-Some.ensures.items) c.in_ok-push_parts.ensures

pub loop-next-preserved : goal.loop-next-preserved
loop-next-preserved c = record {
  within = omega (arith, c.saturating_add-count.ensures, c.loop-next.invariant.within);
  whole = counted_more _ _ _ _ _ _ c.saturating_add-count.ensures (counted _ _ _ _ (popped (λ t. t.now) _ _ _ c.in-Some.ensures.items) c.in_ok-push_parts.ensures) c.loop-next.invariant.whole;
}

pub returns : goal.returns
returns c =
    let none : c.loop-next.left.items ≡ [] = search rules in
    omega (arith, c.loop-next.invariant.within, c.loop-next.invariant.whole, ap (λ ts. total (map size (map (λ t. t.now) ts))) none)
