-- The position behind what is left is that behind the whole.
use Rattle.std.proofs.Common.{◌≡◌, ◌-◌, ◌≤◌, length, drop}
use Rattle.hr_rules.specs.Counted.{counted, greatest, pos_of}
use Rattle.hr_rules.specs.Positions.{behind}
use Rattle.hr_rules.proofs.positions.Reached.behind.Given as goal

abbrev pub invariant-loop-place : goal.invariant-loop-place
invariant-loop-place l = record {
  line_fits : l.reached.line ≤ greatest;
  col_fits : l.reached.col ≤ greatest;
  same : counted (behind (pos_of l.reached) (drop l.place l.bytes)) ≡ counted (behind (pos_of l.fn.self) l.bytes);
}

abbrev pub decreases-loop-place : goal.decreases-loop-place
decreases-loop-place l = length l.bytes - l.place
