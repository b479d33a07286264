use Rattle.std.proofs.Common.{take}
use Rattle.hr_plain.proofs.Respelling.{SoFar}
use Rattle.hr_plain.proofs.writing.respelled.Given as goal

-- the items so far are those of the target
abbrev pub invariant-loop-place : goal.invariant-loop-place
invariant-loop-place l = SoFar l.new (take l.place l.marks) (take l.place l.olds) l.list.items l.before
