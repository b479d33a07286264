use Rattle.std.proofs.Common.{length}
use Rattle.hr_layout.specs.Standing.{Standing}
use Rattle.hr_grammar.specs.Words.{IsComma, IsLeftParen}
use Rattle.hr_grammar_cases.specs.Imports.{imported_reading}
use Rattle.hr_parse_lexeme.specs.Reads.{Takes, ReadsParts}
use Rattle.hr_parse_declaration.proofs.imports.imported_names.Given as goal

abbrev pub invariant-loop-comma : goal.invariant-loop-comma
invariant-loop-comma l = (opened : Standing) × Takes IsLeftParen l.left l.fn.cursor opened × ReadsParts 0 IsComma (λ below n. imported_reading n) l.list.items l.last opened l.cursor

abbrev pub decreases-loop-comma : goal.decreases-loop-comma
decreases-loop-comma l = length l.cursor.rest
