-- What the parser of patterns has read (Haskell 98 Report, section 3.17).
use Rattle.std.specs.Prelude.{ℕ, ◌≡◌, List, None}
use Rattle.hr_base.specs.declared.lexeme.Item.{Item}
use Rattle.hr_layout.specs.Standing.{Standing}
use Rattle.hr_tree.specs.declared.lists.Listed.{Listed}
use Rattle.hr_tree.specs.declared.lists.Operand.{Operand}
use Rattle.hr_tree.specs.declared.names.Constructor.{Constructor}
use Rattle.hr_tree.specs.declared.names.Variable.{Variable}
use Rattle.hr_tree.specs.declared.patterns.Pat.{Pat}
use Rattle.hr_tree.specs.Names.{constructor_items, operator_items, variable_items}
use Rattle.hr_grammar.specs.Words.{IsComma, IsLeftParen, IsLeftSquare, IsMinus}
use Rattle.hr_grammar.specs.Spelled.{IsConstructor, IsConstructorOperator, IsVariable}
use Rattle.hr_grammar.specs.Nodes.{PatPlace}
use Rattle.hr_grammar_cases.specs.Readings.{◌▷◌, given, one, spelled, there}
use Rattle.hr_parse_lexeme.specs.declared.mark.Mark.{Mark}
use Rattle.hr_parse_lexeme.specs.Marks.{IsMark}
use Rattle.hr_parse_lexeme.specs.Reads.{Phrase, Trees, Consumes, Takes, Spells, ReadsEach, with_separator}
use Rattle.hr_parse_pattern.specs.declared.bound.Signed.{Signed}
use Rattle.hr_parse_pattern.specs.declared.brackets.Bracketed.{Bracketed}
use Rattle.hr_parse_pattern.specs.declared.brackets.Start.{Start}
use Rattle.hr_parse_pattern.specs.declared.brackets.Head.{Head}
use Rattle.hr_parse_pattern.specs.declared.many.Many.{Many}
use Rattle.hr_parse_pattern.specs.declared.many.Parts.{Parts}
use Rattle.hr_parse_pattern.specs.declared.part.Operands.{Operands}
use Rattle.hr_parse_pattern.specs.declared.part.Part.{Part}

-- a pattern of the height, at its place
abbrev pub ReadsPat : PatPlace → Part Pat → Standing → Standing → Type 0
ReadsPat place part = Consumes part.height (λ below n. below.pat n place part.tree)

abbrev pub ReadsArguments : Many Pat → Standing → Standing → Type 0
ReadsArguments many = ReadsEach many.height (λ below n. below.pat n PatPlace.Atomic) many.list

-- each of a list is read, and then something else: each with its own height
pub record ReadsThen {T : Type 0} (height : ℕ) (of : Trees T) (list : List T) (last_height : ℕ) (end : Phrase) (before after : Standing) : Type 0 where
  pub middle : Standing
  pub others : ReadsEach height of list before middle
  pub last : Consumes last_height end middle after

-- a pattern and the comma behind it
abbrev pub with_comma : Trees (Listed Pat)
with_comma below n = with_separator (one n IsComma) (below.pat n PatPlace.Whole)

-- patterns with a comma behind each, and one more
abbrev pub ReadsPatterns : Parts Pat → Part Pat → Standing → Standing → Type 0
ReadsPatterns others last = ReadsThen others.height with_comma others.list last.height (λ below n. below.pat n PatPlace.Whole last.tree)

-- an operand and the operator behind it
abbrev pub with_operator : Trees (Operand Pat)
with_operator below n operand =
    given (operand.minus ≡ None) (below.pat n PatPlace.Operand operand.part ▷ there (spelled n IsConstructorOperator operator_items) operand.operator)

-- operands with an operator behind each, and one more
abbrev pub ReadsOperands : Operands Pat → Part Pat → Standing → Standing → Type 0
ReadsOperands others last = ReadsThen others.height with_operator others.list last.height (λ below n. below.pat n PatPlace.Operand last.tree)

-- an opening bracket, and then patterns
pub record OpensPatterns (mark : Mark) (bracket : Item) (others : Parts Pat) (last : Part Pat) (before after : Standing) : Type 0 where
  pub behind : Standing
  pub left : Takes (IsMark mark) bracket before behind
  pub parts : ReadsPatterns others last behind after

-- a variable in parentheses, or a parenthesis and a minus
abbrev pub ReadsSigned : Signed → Standing → Standing → Type 0
ReadsSigned (Signed.Variable bound) before after = Spells IsVariable variable_items bound before after
ReadsSigned (Signed.Number left minus) before after = (behind : Standing) × Takes IsLeftParen left before behind × Takes IsMinus minus behind after

-- an opening bracket, or a parenthesis and a negative integer
abbrev pub ReadsBracketed : Bracketed → Standing → Standing → Type 0
ReadsBracketed (Bracketed.Parenthesis left) before after = Takes IsLeftParen left before after
ReadsBracketed (Bracketed.Number left number) before after = (behind : Standing) × Takes IsLeftParen left before behind × ReadsPat PatPlace.Operand number behind after
ReadsBracketed (Bracketed.Square left) before after = Takes IsLeftSquare left before after

-- an atomic pattern, a constructor, or what stands before a pattern in an atomic one
abbrev pub ReadsStart : Start → Standing → Standing → Type 0
ReadsStart (Start.Atom part) before after = ReadsPat PatPlace.Atomic part before after
ReadsStart (Start.Named named) before after = Spells IsConstructor constructor_items named before after
ReadsStart (Start.As bound mark) before after = (behind : Standing) × Spells IsVariable variable_items bound before behind × Takes (IsMark Mark.At) mark behind after
ReadsStart (Start.Lazy mark) before after = Takes (IsMark Mark.Tilde) mark before after
ReadsStart (Start.Bracketed bracketed) before after = ReadsBracketed bracketed before after

-- the pattern as a whole is one node
abbrev pub start_height : Start → ℕ
start_height (Start.Atom part) = part.height
start_height _ = 0

abbrev pub ReadsHead : Head → Standing → Standing → Type 0
ReadsHead (Head.Named named) before after = Spells IsConstructor constructor_items named before after
ReadsHead (Head.Atom part) before after = ReadsPat PatPlace.Atomic part before after

abbrev pub head_height : Head → ℕ
head_height (Head.Named named) = 1
head_height (Head.Atom part) = part.height
