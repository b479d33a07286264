-- The columns so far, and those of the cells that are left, are all of them.
use Rattle.std.proofs.Common.{◌≡◌, ◌++◌, ◌-◌, length, drop}
use Rattle.hr_scan.specs.Characters.{cells}
use Rattle.hr_scan.specs.Columns.{columns_of, columns_from}
use Rattle.hr_scan.proofs.column.columns.Given as goal

abbrev pub invariant-loop-place : goal.invariant-loop-place
invariant-loop-place l = l.columns.items ++ columns_from l.next (cells (drop l.place l.line)) ≡ columns_of l.line

abbrev pub decreases-loop-place : goal.decreases-loop-place
decreases-loop-place l = length l.line - l.place
