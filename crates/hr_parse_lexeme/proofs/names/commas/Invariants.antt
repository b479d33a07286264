use Rattle.std.proofs.Common.{◌-◌, length}
use Rattle.hr_parse_lexeme.proofs.Separators.{AreTaken}
use Rattle.hr_parse_lexeme.proofs.names.commas.Given as goal

abbrev pub invariant-loop-cursor : goal.invariant-loop-cursor
invariant-loop-cursor l = AreTaken l.list.items l.fn.cursor l.cursor

abbrev pub decreases-loop-cursor : goal.decreases-loop-cursor
decreases-loop-cursor l = 14 - length l.list.items
