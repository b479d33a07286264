use Rattle.std.proofs.Common.{length}
use Rattle.hr_parse_pattern.proofs.level.first.Given as goal

abbrev pub decreases-loop-left : goal.decreases-loop-left
decreases-loop-left l = length l.cursor.rest
