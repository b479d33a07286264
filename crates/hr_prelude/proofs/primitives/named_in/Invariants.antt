use Rattle.std.proofs.Common.{◌≡◌, map, drop}
use Rattle.hr_prelude.specs.Primitives.{named_in}
use Rattle.hr_prelude.proofs.primitives.named_in.Given as goal

abbrev pub invariant-loop-spelled : goal.invariant-loop-spelled
invariant-loop-spelled l =
    named_in (map (λ row. (row.0.now, row.1)) (drop l.spelled-index l.table)) l.name
    ≡ named_in (map (λ row. (row.0.now, row.1)) l.table) l.name
