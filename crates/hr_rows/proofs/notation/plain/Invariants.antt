use Rattle.std.proofs.Common.{length}
use Rattle.hr_rows.proofs.notation.plain.Given as goal

abbrev pub decreases-loop-byte : goal.decreases-loop-byte
decreases-loop-byte l = length l.rest
