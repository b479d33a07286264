-- Expressions: the Haskell 98 Report, sections 3.2 to 3.13 and 3.16, without `do`, fields and floats.
use Rattle.std.specs.Prelude.{◌≡◌, ◌≢◌, Bool, true, false, List, [], ◌∷◌, length, Some, None, IsSome}
use Rattle.std.specs.List.{AllByRecursion}
use lib.Chars.{codes}
use Rattle.hr_tree.specs.declared.lists.Operand.{Operand}
use Rattle.hr_tree.specs.declared.names.Operator.{Operator}
use Rattle.hr_tree.specs.declared.expressions.Exp.{Exp, out-Exp}
use Rattle.hr_tree.specs.declared.expressions.Decl.{Decl}
use Rattle.hr_tree.specs.declared.expressions.Alt.{Alt}
use Rattle.hr_tree.specs.declared.expressions.Qualifier.{Qualifier, out-Qualifier}
use Rattle.hr_tree.specs.declared.expressions.Decl.TheOpen.{Exp-F, Qualifier-F}
use Rattle.hr_grammar.specs.Words.{IsWord, IsReserved, IsLiteral, IsMinus, IsLeftParen, IsRightParen, IsLeftSquare, IsRightSquare, IsComma, IsBar, IsDots, IsArrow, IsBackArrow, IsDoubleColon}
use Rattle.hr_grammar.specs.Spelled.{Maybe, IsNamedVariable, IsConstructor, IsOperator, IsNoMinus, AreParts}
use Rattle.hr_grammar.specs.Separated.{AreSeparated}
use Rattle.hr_grammar.specs.Nodes.{Nodes, Colons, TyPlace, PatPlace, ExpPlace, DeclPlace}
use Rattle.hr_grammar.specs.Patterns.{HasTwo}

-- an application and a `case` are operands
abbrev pub takes_operand : ExpPlace → Bool
takes_operand ExpPlace.Atom = false
takes_operand _ = true

-- a lambda, `let` or `if` extends as far right as possible: it is the last operand of its sequence, and no
-- `::` follows it
abbrev pub takes_open : ExpPlace → Bool
takes_open ExpPlace.LastOperand = true
takes_open ExpPlace.Sequence = true
takes_open ExpPlace.Whole = true
takes_open _ = false

-- an infix sequence is no operand of another one
abbrev pub takes_infix : ExpPlace → Bool
takes_infix ExpPlace.Annotated = true
takes_infix ExpPlace.Sequence = true
takes_infix ExpPlace.Whole = true
takes_infix _ = false

abbrev pub takes_annotation : ExpPlace → Bool
takes_annotation ExpPlace.Whole = true
takes_annotation _ = false

-- the place of the last operand of a sequence
abbrev pub last_operand : ExpPlace → ExpPlace
last_operand ExpPlace.Annotated = ExpPlace.Operand
last_operand _ = ExpPlace.LastOperand

-- operands with operators between them, each with a minus before it or none
abbrev pub AreExpOperands : Nodes → Colons → ExpPlace → List (Operand Exp) → Type 0
AreExpOperands below free last [] = ⊥
AreExpOperands below free last (operand ∷ []) = Maybe IsMinus operand.minus × below.exp free last operand.part × (operand.operator ≡ None)
AreExpOperands below free last (operand ∷ (next ∷ rest)) =
    Maybe IsMinus operand.minus × below.exp free ExpPlace.Operand operand.part
    × ((operator : Operator) × (operand.operator ≡ Some operator) × IsOperator operator) × AreExpOperands below free last (next ∷ rest)

-- a sequence has two operands or more, or one with a minus
abbrev pub IsSequence : List (Operand Exp) → Type 0
IsSequence [] = ⊥
IsSequence (operand ∷ []) = IsSome operand.minus
IsSequence (operand ∷ (next ∷ rest)) = Unit {0}

-- the qualifiers of a comprehension
abbrev pub QualifierProduction : Nodes → Qualifier-F Decl Exp Qualifier Alt → Type 0
QualifierProduction below (Qualifier-F.Generator pattern arrow part) = below.pat PatPlace.Whole pattern × IsBackArrow arrow × below.exp Colons.Allowed ExpPlace.Whole part
QualifierProduction below (Qualifier-F.Locals word block) = IsWord (codes "let") word × below.declarations DeclPlace.Local block
QualifierProduction below (Qualifier-F.Test part) = below.exp Colons.Allowed ExpPlace.Whole part

abbrev pub IsQualifierOver : Nodes → Qualifier → Type 0
IsQualifierOver below qualifier = QualifierProduction below (out-Qualifier qualifier)

-- the productions: what an expression at the place is, by its outermost node. What stands in brackets may be
-- any expression; what does not has the mark of the whole
abbrev pub ExpProduction : Nodes → Colons → ExpPlace → Exp-F Decl Exp Qualifier Alt → Type 0
ExpProduction below free place (Exp-F.Variable used) = IsNamedVariable used
ExpProduction below free place (Exp-F.Constructor named) = IsConstructor named
ExpProduction below free place (Exp-F.Literal literal) = IsLiteral literal
ExpProduction below free place (Exp-F.Group left part right) = IsLeftParen left × below.exp Colons.Allowed ExpPlace.Whole part × IsRightParen right
ExpProduction below free place (Exp-F.Tuple left parts right) =
    IsLeftParen left × AreSeparated IsComma (below.exp Colons.Allowed ExpPlace.Whole) parts × AreParts (length parts) × IsRightParen right
ExpProduction below free place (Exp-F.List left parts right) =
    IsLeftSquare left × AreSeparated IsComma (below.exp Colons.Allowed ExpPlace.Whole) parts × (parts ≢ []) × IsRightSquare right
ExpProduction below free place (Exp-F.From left first dots right) =
    IsLeftSquare left × below.exp Colons.Allowed ExpPlace.Whole first × IsDots dots × IsRightSquare right
ExpProduction below free place (Exp-F.FromThen left first comma second dots right) =
    IsLeftSquare left × below.exp Colons.Allowed ExpPlace.Whole first × IsComma comma × below.exp Colons.Allowed ExpPlace.Whole second × IsDots dots × IsRightSquare right
ExpProduction below free place (Exp-F.FromTo left first dots last right) =
    IsLeftSquare left × below.exp Colons.Allowed ExpPlace.Whole first × IsDots dots × below.exp Colons.Allowed ExpPlace.Whole last × IsRightSquare right
ExpProduction below free place (Exp-F.FromThenTo left first comma second dots last right) =
    IsLeftSquare left × below.exp Colons.Allowed ExpPlace.Whole first × IsComma comma × below.exp Colons.Allowed ExpPlace.Whole second
    × IsDots dots × below.exp Colons.Allowed ExpPlace.Whole last × IsRightSquare right
ExpProduction below free place (Exp-F.Comprehension left part bar qualifiers right) =
    IsLeftSquare left × below.exp Colons.Allowed ExpPlace.Whole part × IsBar bar
    × AreSeparated IsComma (IsQualifierOver below) qualifiers × (qualifiers ≢ []) × IsRightSquare right
ExpProduction below free place (Exp-F.LeftSection left part operator right) =
    IsLeftParen left × below.exp Colons.Allowed ExpPlace.Sequence part × IsOperator operator × IsRightParen right
ExpProduction below free place (Exp-F.RightSection left operator part right) =
    IsLeftParen left × IsOperator operator × IsNoMinus operator × below.exp Colons.Allowed ExpPlace.Sequence part × IsRightParen right
ExpProduction below free place (Exp-F.Apply atoms) =
    (takes_operand place ≡ true) × HasTwo atoms × AllByRecursion (below.exp free ExpPlace.Atom) atoms
ExpProduction below free place (Exp-F.Case word part of_word block) =
    (takes_operand place ≡ true) × IsWord (codes "case") word × below.exp free ExpPlace.Whole part × IsWord (codes "of") of_word × below.alternatives block
ExpProduction below free place (Exp-F.Lambda mark patterns arrow body) =
    (takes_open place ≡ true) × IsReserved (codes "\\") mark × (patterns ≢ []) × AllByRecursion (below.pat PatPlace.Atomic) patterns
    × IsArrow arrow × below.exp free ExpPlace.Whole body
ExpProduction below free place (Exp-F.Let word block in_word body) =
    (takes_open place ≡ true) × IsWord (codes "let") word × below.declarations DeclPlace.Local block × IsWord (codes "in") in_word × below.exp free ExpPlace.Whole body
ExpProduction below free place (Exp-F.If word test then_word first else_word second) =
    (takes_open place ≡ true) × IsWord (codes "if") word × below.exp free ExpPlace.Whole test × IsWord (codes "then") then_word
    × below.exp free ExpPlace.Whole first × IsWord (codes "else") else_word × below.exp free ExpPlace.Whole second
ExpProduction below free place (Exp-F.Infix operands) =
    (takes_infix place ≡ true) × IsSequence operands × AreExpOperands below free (last_operand place) operands
ExpProduction below free place (Exp-F.Annotated part colons ty) =
    (takes_annotation place ≡ true) × (free ≡ Colons.Allowed) × below.exp Colons.Allowed ExpPlace.Annotated part × IsDoubleColon colons × below.ty TyPlace.Whole ty
ExpProduction below free place (Exp-F.Fields part left fields right) = ⊥

abbrev pub IsExpOver : Nodes → Colons → ExpPlace → Exp → Type 0
IsExpOver below free place exp = ExpProduction below free place (out-Exp exp)
