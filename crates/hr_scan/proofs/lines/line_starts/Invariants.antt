-- The starts so far, and those behind the newlines that are left, are all of them.
use Rattle.std.proofs.Common.{◌≡◌, ◌++◌, drop}
use Rattle.hr_scan.specs.Lines.{behind_newlines, starts_of_lines}
use Rattle.hr_scan.proofs.lines.line_starts.Given as goal

abbrev pub invariant-loop-place : goal.invariant-loop-place
invariant-loop-place l = l.starts.items ++ behind_newlines l.place (drop l.place l.bytes) ≡ starts_of_lines l.bytes
