use Rattle.std.proofs.Common.{◌≡◌, ◌+◌, ◌-◌, ◌<◌, length, arith}
use Rattle.hr_type.proofs.Jobbing.{argument_pushed, less_left}
use Rattle.hr_type.proofs.write.push_arguments.Goals as goal

pub loop-left-preserved : goal.loop-left-preserved
loop-left-preserved c =
    let inside : c.loop-left.left - 1 < length c.args.types.now = omega (arith, c.loop-left.invariant.within) in
    let next : c.loop-left.left ≡ (c.loop-left.left - 1) + 1 = omega arith in
    record {
      within = omega (arith, c.loop-left.invariant.within);
      text = argument_pushed c.args.scope.now c.args.types.now (c.loop-left.left - 1) _ inside c.index-types-left.is _ next _ _ _ c.loop-left.invariant.text c.in_ok-push_type.ensures.text;
      work = less_left c.args.scope.now c.args.types.now (c.loop-left.left - 1) _ inside c.index-types-left.is _ _ _ _ next c.loop-left.invariant.work c.in_ok-push_type.ensures.work;
    }
