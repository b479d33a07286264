-- Patterns: the Haskell 98 Report, section 3.17, without n+k patterns and labelled fields.
use Rattle.std.specs.Prelude.{◌≡◌, ◌≢◌, Bool, true, false, List, [], ◌∷◌, length, Some, None}
use Rattle.std.specs.List.{AllByRecursion}
use lib.Chars.{codes}
use Rattle.hr_tree.specs.declared.lists.Operand.{Operand}
use Rattle.hr_tree.specs.declared.names.Operator.{Operator}
use Rattle.hr_tree.specs.declared.patterns.Pat.{Pat, out-Pat}
use Rattle.hr_tree.specs.declared.patterns.Pat.TheOpen.{Pat-F}
use Rattle.hr_grammar.specs.Words.{IsWord, IsReserved, IsLiteral, IsMinus, IsInteger, IsLeftParen, IsRightParen, IsLeftSquare, IsRightSquare, IsComma}
use Rattle.hr_grammar.specs.Spelled.{IsVariable, IsConstructor, IsConstructorOperator, AreParts}
use Rattle.hr_grammar.specs.Separated.{AreSeparated}
use Rattle.hr_grammar.specs.Nodes.{Nodes, PatPlace}

-- a constructor with patterns, and a negative literal, are operands
abbrev pub takes_operand : PatPlace → Bool
takes_operand PatPlace.Atomic = false
takes_operand _ = true

abbrev pub takes_infix : PatPlace → Bool
takes_infix PatPlace.Whole = true
takes_infix _ = false

-- two operands or more with constructor operators between them
abbrev pub ArePatOperands : Nodes → List (Operand Pat) → Type 0
ArePatOperands below [] = ⊥
ArePatOperands below (operand ∷ []) = (operand.minus ≡ None) × below.pat PatPlace.Operand operand.part × (operand.operator ≡ None)
ArePatOperands below (operand ∷ (next ∷ rest)) =
    (operand.minus ≡ None) × below.pat PatPlace.Operand operand.part
    × ((operator : Operator) × (operand.operator ≡ Some operator) × IsConstructorOperator operator) × ArePatOperands below (next ∷ rest)

abbrev pub HasTwo : {T : Type 0} → List T → Type 0
HasTwo [] = ⊥
HasTwo (x ∷ []) = ⊥
HasTwo (x ∷ (y ∷ rest)) = Unit {0}

-- the productions: what a pattern at the place is, by its outermost node
abbrev pub PatProduction : Nodes → PatPlace → Pat-F Pat → Type 0
PatProduction below place (Pat-F.Variable bound) = IsVariable bound
PatProduction below place (Pat-F.Wildcard word) = IsWord (codes "_") word
PatProduction below place (Pat-F.Literal literal) = IsLiteral literal
PatProduction below place (Pat-F.Constructor named) = IsConstructor named
PatProduction below place (Pat-F.As bound mark part) = IsVariable bound × IsReserved (codes "@") mark × below.pat PatPlace.Atomic part
PatProduction below place (Pat-F.Lazy mark part) = IsReserved (codes "~") mark × below.pat PatPlace.Atomic part
PatProduction below place (Pat-F.Tuple left parts right) =
    IsLeftParen left × AreSeparated IsComma (below.pat PatPlace.Whole) parts × AreParts (length parts) × IsRightParen right
PatProduction below place (Pat-F.List left parts right) =
    IsLeftSquare left × AreSeparated IsComma (below.pat PatPlace.Whole) parts × (parts ≢ []) × IsRightSquare right
PatProduction below place (Pat-F.Group left part right) = IsLeftParen left × below.pat PatPlace.Whole part × IsRightParen right
PatProduction below place (Pat-F.Negative minus number) = (takes_operand place ≡ true) × IsMinus minus × IsInteger number
PatProduction below place (Pat-F.Apply named arguments) =
    (takes_operand place ≡ true) × IsConstructor named × (arguments ≢ []) × AllByRecursion (below.pat PatPlace.Atomic) arguments
PatProduction below place (Pat-F.Infix operands) = (takes_infix place ≡ true) × HasTwo operands × ArePatOperands below operands
PatProduction below place (Pat-F.Fields named left fields right) = ⊥

abbrev pub IsPatOver : Nodes → PatPlace → Pat → Type 0
IsPatOver below place pat = PatProduction below place (out-Pat pat)
