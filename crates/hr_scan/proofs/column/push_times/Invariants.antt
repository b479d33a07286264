-- As many copies as turns are put behind what was there.
use Rattle.std.proofs.Common.{◌≡◌, ◌++◌, replicate}
use Rattle.hr_scan.proofs.column.push_times.Given as goal

abbrev pub invariant-loop : goal.invariant-loop
invariant-loop l = l.columns.items ≡ l.initial.columns.items ++ replicate l.counter l.column
