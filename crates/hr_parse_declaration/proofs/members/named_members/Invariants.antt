use Rattle.std.proofs.Common.{length}
use Rattle.hr_grammar.specs.Words.{IsComma}
use Rattle.hr_grammar_cases.specs.Imports.{member_reading}
use Rattle.hr_parse_lexeme.specs.Reads.{ReadsParts}
use Rattle.hr_parse_declaration.proofs.members.named_members.Given as goal

abbrev pub invariant-loop-comma : goal.invariant-loop-comma
invariant-loop-comma l = ReadsParts 0 IsComma (λ below n. member_reading n) l.list.items l.last l.fn.cursor l.cursor

abbrev pub decreases-loop-comma : goal.decreases-loop-comma
decreases-loop-comma l = length l.cursor.rest
