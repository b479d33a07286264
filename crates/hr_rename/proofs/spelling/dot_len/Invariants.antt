use Rattle.std.proofs.Common.{◌≡◌, drop}
use Rattle.hr_rename.specs.Spelling.{dot_from}
use Rattle.hr_rename.proofs.spelling.dot_len.Given as goal

abbrev pub invariant-loop-place : goal.invariant-loop-place
invariant-loop-place l = dot_from l.place (drop l.place l.bytes) ≡ dot_from 0 l.bytes
