use Rattle.std.proofs.Common.{◌<◌, length, arith}
use Rattle.hr_type.proofs.Reading.{each_deeper, each_wider}
use Rattle.hr_type.proofs.measure.push_each.Goals as goal

pub loop-ty-preserved : goal.loop-ty-preserved
loop-ty-preserved c =
    let within : c.loop-ty.ty-index < length c.args.types.now = omega arith in
    record {
      deep = each_deeper c.args.types.now c.loop-ty.ty-index c.ty-item.result within c.ty-item.is _ _ _ _ c.loop-ty.invariant.deep c.in_ok-push_one.ensures.deep;
      wide = each_wider c.args.types.now c.loop-ty.ty-index c.ty-item.result within c.ty-item.is _ _ _ c.loop-ty.invariant.wide c.in_ok-push_one.ensures.wide;
    }
