use Rattle.std.proofs.Common.{length}
use Rattle.hr_parse_pattern.proofs.level.behind_pattern.Given as goal

abbrev pub decreases-loop-kind : goal.decreases-loop-kind
decreases-loop-kind l = length l.cursor.rest
