use Rattle.std.proofs.Common.{◌≡◌, ◌+◌, ◌-◌, arith}
use Rattle.hr_unify.proofs.Lists.{copied_more}
use Rattle.hr_unify.proofs.unifier.copies.Goals as goal

pub loop-left-preserved : goal.loop-left-preserved
loop-left-preserved c =
    let next : c.loop-left.left ≡ (c.loop-left.left - 1) + 1 = omega arith in
    record {
      within = omega (arith, c.loop-left.invariant.within);
      made = copied_more c.args.fresh.now.entries (c.loop-left.left - 1) c.loop-left.left _ _ _ _ next c.in-Some.ensures.entry c.in_ok-copied.ensures c.in_ok-push.ensures.items c.loop-left.invariant.made;
    }
