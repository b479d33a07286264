use Rattle.std.proofs.Common.{◌≡◌, ◌<◌, ◌+◌, ◌-◌, length, arith}
use Rattle.hr_unify.proofs.Keeping.{paired_pushed}
use Rattle.hr_unify.proofs.split.split_arguments.Goals as goal

pub loop-left-preserved : goal.loop-left-preserved
loop-left-preserved c =
    let inside : c.loop-left.left - 1 < length c.args.lefts.now = omega (arith, c.loop-left.invariant.within) in
    let beside : c.loop-left.left - 1 < length c.args.rights.now = omega (arith, c.loop-left.invariant.within, c.requires) in
    let next : c.loop-left.left ≡ (c.loop-left.left - 1) + 1 = omega arith in
    record {
      within = omega (arith, c.loop-left.invariant.within);
      pairs = paired_pushed c.args.lefts.now c.args.rights.now (c.loop-left.left - 1) c.loop-left.left _ _ next inside beside c.index-lefts-left.is c.index-rights-left.is _ _ _ c.loop-left.invariant.pairs c.in_ok-push_equation.ensures;
    }
