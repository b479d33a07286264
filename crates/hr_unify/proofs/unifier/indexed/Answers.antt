use Rattle.std.proofs.Common.{◌<◌, length, ap, ◌∙◌, arith}
use Rattle.hr_type.specs.Types.{first_for}
use Rattle.hr_unify.proofs.Lists.{distinct_front}
use Rattle.hr_unify.proofs.unifier.indexed.Goals as goal

pub add-requires : goal.add-requires
add-requires c =
    let within : c.loop-variable.variable-index < length c.args.pairs.now = omega arith in
    ap (first_for c.loop-variable-item.result.0) c.loop-variable.invariant ∙ distinct_front c.args.pairs.now c.loop-variable.variable-index c.loop-variable-item.result within c.loop-variable-item.is c.requires.distinct
