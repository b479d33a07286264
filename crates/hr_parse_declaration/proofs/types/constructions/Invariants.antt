use Rattle.std.proofs.Common.{◌+◌, ◌≤◌, length}
use Rattle.hr_grammar.specs.Words.{IsBar}
use Rattle.hr_grammar_cases.specs.Declarations.{construction_reading}
use Rattle.hr_parse_lexeme.specs.Reads.{ReadsParts}
use Rattle.hr_parse_declaration.proofs.types.constructions.Given as goal

abbrev pub invariant-loop-bar : goal.invariant-loop-bar
invariant-loop-bar l = record {
  reads : ReadsParts l.height IsBar construction_reading l.list.items l.last l.fn.cursor l.cursor;
  fits : l.depth + l.height ≤ 256;
}

abbrev pub decreases-loop-bar : goal.decreases-loop-bar
decreases-loop-bar l = length l.cursor.rest
