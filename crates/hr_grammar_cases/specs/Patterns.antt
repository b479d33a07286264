-- How patterns are read: the Haskell 98 Report, section 3.17.
use Rattle.std.specs.Prelude.{ℕ, ◌≡◌, ◌≢◌, true, List, [], ◌∷◌, length, None}
use lib.Chars.{codes}
use Rattle.hr_tree.specs.declared.lists.Operand.{Operand}
use Rattle.hr_tree.specs.declared.patterns.Pat.{Pat, out-Pat}
use Rattle.hr_tree.specs.declared.patterns.Pat.TheOpen.{Pat-F}
use Rattle.hr_tree.specs.Names.{variable_items, constructor_items, operator_items}
use Rattle.hr_grammar.specs.Words.{IsWord, IsReserved, IsLiteral, IsMinus, IsInteger, IsLeftParen, IsRightParen, IsLeftSquare, IsRightSquare, IsComma}
use Rattle.hr_grammar.specs.Spelled.{IsVariable, IsConstructor, IsConstructorOperator, AreParts}
use Rattle.hr_grammar.specs.Nodes.{PatPlace}
use Rattle.hr_grammar.specs.Patterns.{takes_operand, takes_infix, HasTwo}
use Rattle.hr_grammar_cases.specs.Readings.{Reading, never, ◌▷◌, given, one, spelled, there, in_turn, separated}
use Rattle.hr_grammar_cases.specs.Derivations.{Derivations}

-- operands with constructor operators between them
abbrev pub pat_operands : Derivations → ℕ → List (Operand Pat) → Reading
pat_operands below n [] = never
pat_operands below n (operand ∷ []) = given ((operand.minus ≡ None) × (operand.operator ≡ None)) (below.pat n PatPlace.Operand operand.part)
pat_operands below n (operand ∷ (next ∷ rest)) =
    given (operand.minus ≡ None) (below.pat n PatPlace.Operand operand.part ▷ there (spelled n IsConstructorOperator operator_items) operand.operator ▷ pat_operands below n (next ∷ rest))

-- the productions, by the outermost node
abbrev pub pat_reading : Derivations → ℕ → PatPlace → Pat-F Pat → Reading
pat_reading below n place (Pat-F.Variable bound) = spelled n IsVariable variable_items bound
pat_reading below n place (Pat-F.Wildcard word) = one n (IsWord (codes "_")) word
pat_reading below n place (Pat-F.Literal literal) = one n IsLiteral literal
pat_reading below n place (Pat-F.Constructor named) = spelled n IsConstructor constructor_items named
pat_reading below n place (Pat-F.As bound mark part) =
    spelled n IsVariable variable_items bound ▷ one n (IsReserved (codes "@")) mark ▷ below.pat n PatPlace.Atomic part
pat_reading below n place (Pat-F.Lazy mark part) = one n (IsReserved (codes "~")) mark ▷ below.pat n PatPlace.Atomic part
pat_reading below n place (Pat-F.Tuple left parts right) =
    given (AreParts (length parts)) (one n IsLeftParen left ▷ separated (one n IsComma) (below.pat n PatPlace.Whole) parts ▷ one n IsRightParen right)
pat_reading below n place (Pat-F.List left parts right) =
    given (parts ≢ []) (one n IsLeftSquare left ▷ separated (one n IsComma) (below.pat n PatPlace.Whole) parts ▷ one n IsRightSquare right)
pat_reading below n place (Pat-F.Group left part right) = one n IsLeftParen left ▷ below.pat n PatPlace.Whole part ▷ one n IsRightParen right
pat_reading below n place (Pat-F.Negative minus number) = given (takes_operand place ≡ true) (one n IsMinus minus ▷ one n IsInteger number)
pat_reading below n place (Pat-F.Apply named arguments) =
    given ((takes_operand place ≡ true) × (arguments ≢ [])) (spelled n IsConstructor constructor_items named ▷ in_turn (below.pat n PatPlace.Atomic) arguments)
pat_reading below n place (Pat-F.Infix operands) = given ((takes_infix place ≡ true) × HasTwo operands) (pat_operands below n operands)
pat_reading below n place (Pat-F.Fields named left fields right) = never

abbrev pub pat_over : Derivations → ℕ → PatPlace → Pat → Reading
pat_over below n place pat = pat_reading below n place (out-Pat pat)
