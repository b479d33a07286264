use Rattle.std.proofs.Common.{length}
use Rattle.hr_rows.proofs.notation.decoded.Given as goal

abbrev pub decreases-loop-piece : goal.decreases-loop-piece
decreases-loop-piece l = length l.rest
