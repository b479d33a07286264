use Rattle.std.proofs.Common.{length}
use Rattle.hr_layout.specs.Standing.{Standing}
use Rattle.hr_tree.specs.Names.{variable_items}
use Rattle.hr_grammar.specs.Words.{IsComma}
use Rattle.hr_grammar.specs.Spelled.{IsVariable}
use Rattle.hr_grammar_cases.specs.Readings.{spelled}
use Rattle.hr_parse_lexeme.specs.Reads.{Spells, ReadsParts}
use Rattle.hr_parse_declaration.proofs.lists.variables.Given as goal

abbrev pub invariant-loop-comma : goal.invariant-loop-comma
invariant-loop-comma l =
    (before : Standing) → Spells IsVariable variable_items l.fn.first before l.fn.cursor
    → ReadsParts 0 IsComma (λ below n. spelled n IsVariable variable_items) l.list.items l.last before l.cursor

abbrev pub decreases-loop-comma : goal.decreases-loop-comma
decreases-loop-comma l = length l.cursor.rest
