use Rattle.std.proofs.Common.{sym, subst, All, ◌<◌}
use Rattle.hr_check.proofs.Within.{within_more}
use Rattle.hr_check.proofs.imports.add_edges.Goals as goal

pub loop-target-preserved : goal.loop-target-preserved
loop-target-preserved c = λ count less all.
    subst (All (λ one. one.from < count)) (sym c.in_ok-keep.ensures) (within_more count _ _ (c.loop-target.invariant count less all) less)
