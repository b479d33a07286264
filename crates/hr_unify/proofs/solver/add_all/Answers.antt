use Rattle.std.proofs.Common.{ap, sym, subst, ◌∙◌}
use Rattle.hr_unify.proofs.Lists.{added_apart, reversed_more}
use Rattle.hr_unify.proofs.solver.add_all.Goals as goal

pub add-requires : goal.add-requires
add-requires c = added_apart c.args.bindings.now.entries _ c.args.fresh.items _ _ _ _ c.in-Some.ensures.items c.loop-variable.invariant.0 c.requires
