use Rattle.std.proofs.Common.{length}
use Rattle.hr_tree.specs.Names.{operator_items}
use Rattle.hr_grammar.specs.Words.{IsComma}
use Rattle.hr_grammar.specs.Spelled.{IsOwnOperator}
use Rattle.hr_grammar_cases.specs.Readings.{spelled}
use Rattle.hr_parse_lexeme.specs.Reads.{ReadsParts}
use Rattle.hr_parse_declaration.proofs.lists.operators.Given as goal

abbrev pub invariant-loop-comma : goal.invariant-loop-comma
invariant-loop-comma l = ReadsParts 0 IsComma (λ below n. spelled n IsOwnOperator operator_items) l.list.items l.last l.fn.cursor l.cursor

abbrev pub decreases-loop-comma : goal.decreases-loop-comma
decreases-loop-comma l = length l.cursor.rest
