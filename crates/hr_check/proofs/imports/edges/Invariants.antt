use Rattle.std.proofs.Common.{◌<◌, length, All}
use Rattle.hr_check.proofs.imports.edges.Given as goal

abbrev pub invariant-loop-from : goal.invariant-loop-from
invariant-loop-from l = All (λ one. one.from < length l.names) l.edges.items
