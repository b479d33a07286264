use Rattle.std.proofs.Common.{◌≡◌, [], ap, arith, rules}
use Rattle.hr_type.specs.Inside.{deepest_of}
use Rattle.hr_type.proofs.Reading.{deeper, narrower}
use Rattle.hr_type.proofs.measure.depth_of_type.Goals as goal

pub loop-next-smaller : goal.loop-next-smaller
loop-next-smaller c = narrower 0 0 0 0 0 _ _ _ _ 0 c.in-Some.ensures.items c.in_ok-push_inner.ensures.wide

pub loop-next-preserved : goal.loop-next-preserved
loop-next-preserved c = record {
  within = omega (arith, c.saturating_add-here.ensures, c.max-deepest.ensures, c.loop-next.invariant.within);
  whole = deeper _ _ 0 _ _ _ _ _ _ _ c.in-Some.ensures.items c.saturating_add-here.ensures c.max-deepest.ensures c.in_ok-push_inner.ensures.deep c.loop-next.invariant.whole;
}

pub returns : goal.returns
returns c =
    let none : c.loop-next.left.items ≡ [] = search rules in
    omega (arith, c.loop-next.invariant.within, c.loop-next.invariant.whole, ap deepest_of none)
