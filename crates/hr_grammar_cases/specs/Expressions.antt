-- How expressions are read: the Haskell 98 Report, sections 3.2 to 3.13 and 3.16.
use Rattle.std.specs.Prelude.{ℕ, ◌≡◌, ◌≢◌, true, false, List, [], ◌∷◌, length, None}
use lib.Chars.{codes}
use Rattle.hr_base.specs.declared.lexeme.Ending.{Ending}
use Rattle.hr_tree.specs.declared.lists.Operand.{Operand}
use Rattle.hr_tree.specs.declared.expressions.Exp.{Exp, out-Exp}
use Rattle.hr_tree.specs.declared.expressions.Decl.{Decl}
use Rattle.hr_tree.specs.declared.expressions.Alt.{Alt}
use Rattle.hr_tree.specs.declared.expressions.Qualifier.{Qualifier, out-Qualifier}
use Rattle.hr_tree.specs.declared.expressions.Decl.TheOpen.{Exp-F, Qualifier-F}
use Rattle.hr_tree.specs.Names.{variable_items, constructor_items, operator_items}
use Rattle.hr_grammar.specs.Words.{IsWord, IsReserved, IsLiteral, IsMinus, IsLeftParen, IsRightParen, IsLeftSquare, IsRightSquare, IsComma, IsBar, IsDots, IsArrow, IsBackArrow, IsDoubleColon}
use Rattle.hr_grammar.specs.Spelled.{IsNamedVariable, IsConstructor, IsOperator, IsNoMinus, AreParts}
use Rattle.hr_grammar.specs.Nodes.{Colons, TyPlace, PatPlace, ExpPlace, DeclPlace}
use Rattle.hr_grammar.specs.Patterns.{HasTwo}
use Rattle.hr_grammar.specs.Expressions.{takes_operand, takes_open, takes_infix, takes_annotation, last_operand, IsSequence}
use Rattle.hr_grammar_cases.specs.Readings.{Reading, never, ◌▷◌, given, one, spelled, maybe, there, in_turn, separated, inside}
use Rattle.hr_grammar_cases.specs.Derivations.{Derivations}

-- the endings of expressions: in an atom, in a block of alternatives, in `::` and a type
abbrev pub applied : Ending
applied = Ending.Applied true false

abbrev pub closed : Ending
closed = Ending.Closed true false

abbrev pub annotated : Ending
annotated = Ending.Annotated true false

-- any expression, where no block ends with it
abbrev pub whole : Derivations → ℕ → Colons → Exp → Reading
whole below n free part = inside (below.exp n free ExpPlace.Whole part)

-- operands with operators between them, each with a minus before it or none: they end as the last one does
abbrev pub exp_operands : Derivations → ℕ → Colons → ExpPlace → List (Operand Exp) → Ending → Reading
exp_operands below n free last [] ending = never
exp_operands below n free last (operand ∷ []) ending =
    given (operand.operator ≡ None) (maybe (one n IsMinus) operand.minus ▷ below.exp n free last operand.part ending)
exp_operands below n free last (operand ∷ (next ∷ rest)) ending =
    maybe (one n IsMinus) operand.minus ▷ inside (below.exp n free ExpPlace.Operand operand.part)
    ▷ there (spelled n IsOperator operator_items) operand.operator ▷ exp_operands below n free last (next ∷ rest) ending

-- the qualifiers of a comprehension
abbrev pub qualifier_reading : Derivations → ℕ → Qualifier-F Decl Exp Qualifier Alt → Reading
qualifier_reading below n (Qualifier-F.Generator pattern arrow part) = below.pat n PatPlace.Whole pattern ▷ one n IsBackArrow arrow ▷ whole below n Colons.Allowed part
qualifier_reading below n (Qualifier-F.Locals word block) = one n (IsWord (codes "let")) word ▷ below.declarations n DeclPlace.Local block
qualifier_reading below n (Qualifier-F.Test part) = whole below n Colons.Allowed part

abbrev pub qualifier_over : Derivations → ℕ → Qualifier → Reading
qualifier_over below n qualifier = qualifier_reading below n (out-Qualifier qualifier)

-- atoms, which all end alike
abbrev pub atom_reading : Derivations → ℕ → Exp-F Decl Exp Qualifier Alt → Reading
atom_reading below n (Exp-F.Variable used) = spelled n IsNamedVariable variable_items used
atom_reading below n (Exp-F.Constructor named) = spelled n IsConstructor constructor_items named
atom_reading below n (Exp-F.Literal literal) = one n IsLiteral literal
atom_reading below n (Exp-F.Group left part right) = one n IsLeftParen left ▷ whole below n Colons.Allowed part ▷ one n IsRightParen right
atom_reading below n (Exp-F.Tuple left parts right) =
    given (AreParts (length parts)) (one n IsLeftParen left ▷ separated (one n IsComma) (whole below n Colons.Allowed) parts ▷ one n IsRightParen right)
atom_reading below n (Exp-F.List left parts right) =
    given (parts ≢ []) (one n IsLeftSquare left ▷ separated (one n IsComma) (whole below n Colons.Allowed) parts ▷ one n IsRightSquare right)
atom_reading below n (Exp-F.From left first dots right) = one n IsLeftSquare left ▷ whole below n Colons.Allowed first ▷ one n IsDots dots ▷ one n IsRightSquare right
atom_reading below n (Exp-F.FromThen left first comma second dots right) =
    one n IsLeftSquare left ▷ whole below n Colons.Allowed first ▷ one n IsComma comma ▷ whole below n Colons.Allowed second ▷ one n IsDots dots ▷ one n IsRightSquare right
atom_reading below n (Exp-F.FromTo left first dots last right) =
    one n IsLeftSquare left ▷ whole below n Colons.Allowed first ▷ one n IsDots dots ▷ whole below n Colons.Allowed last ▷ one n IsRightSquare right
atom_reading below n (Exp-F.FromThenTo left first comma second dots last right) =
    one n IsLeftSquare left ▷ whole below n Colons.Allowed first ▷ one n IsComma comma ▷ whole below n Colons.Allowed second ▷ one n IsDots dots ▷ whole below n Colons.Allowed last
    ▷ one n IsRightSquare right
atom_reading below n (Exp-F.Comprehension left part bar qualifiers right) =
    given (qualifiers ≢ [])
    (one n IsLeftSquare left ▷ whole below n Colons.Allowed part ▷ one n IsBar bar ▷ separated (one n IsComma) (qualifier_over below n) qualifiers ▷ one n IsRightSquare right)
atom_reading below n (Exp-F.LeftSection left part operator right) =
    one n IsLeftParen left ▷ inside (below.exp n Colons.Allowed ExpPlace.Sequence part) ▷ spelled n IsOperator operator_items operator ▷ one n IsRightParen right
atom_reading below n (Exp-F.RightSection left operator part right) =
    given (IsNoMinus operator)
    (one n IsLeftParen left ▷ spelled n IsOperator operator_items operator ▷ inside (below.exp n Colons.Allowed ExpPlace.Sequence part) ▷ one n IsRightParen right)
atom_reading below n _ = never

-- the productions, by the outermost node. What stands in brackets may be any expression; what does not has the mark
-- of the whole
abbrev pub exp_reading : Derivations → ℕ → Colons → ExpPlace → Exp-F Decl Exp Qualifier Alt → Ending → Reading
exp_reading below n free place (Exp-F.Apply atoms) ending =
    given ((ending ≡ applied) × ((takes_operand place ≡ true) × HasTwo atoms)) (in_turn (λ atom. inside (below.exp n free ExpPlace.Atom atom)) atoms)
exp_reading below n free place (Exp-F.Case word part of_word block) ending =
    given ((ending ≡ closed) × (takes_operand place ≡ true))
    (one n (IsWord (codes "case")) word ▷ whole below n free part ▷ one n (IsWord (codes "of")) of_word ▷ below.alternatives n block)
exp_reading below n free place (Exp-F.Lambda mark patterns arrow body) ending =
    given ((takes_open place ≡ true) × (patterns ≢ []))
    (one n (IsReserved (codes "\\")) mark ▷ in_turn (below.pat n PatPlace.Atomic) patterns ▷ one n IsArrow arrow ▷ below.exp n free ExpPlace.Whole body ending)
exp_reading below n free place (Exp-F.Let word block in_word body) ending =
    given (takes_open place ≡ true)
    (one n (IsWord (codes "let")) word ▷ below.declarations n DeclPlace.Local block ▷ one n (IsWord (codes "in")) in_word ▷ below.exp n free ExpPlace.Whole body ending)
exp_reading below n free place (Exp-F.If word test then_word first else_word second) ending =
    given (takes_open place ≡ true)
    (one n (IsWord (codes "if")) word ▷ whole below n free test ▷ one n (IsWord (codes "then")) then_word ▷ whole below n free first
    ▷ one n (IsWord (codes "else")) else_word ▷ below.exp n free ExpPlace.Whole second ending)
exp_reading below n free place (Exp-F.Infix operands) ending =
    given ((takes_infix place ≡ true) × IsSequence operands) (exp_operands below n free (last_operand place) operands ending)
exp_reading below n free place (Exp-F.Annotated part colons ty) ending =
    given ((ending ≡ annotated) × ((takes_annotation place ≡ true) × (free ≡ Colons.Allowed)))
    (inside (below.exp n Colons.Allowed ExpPlace.Annotated part) ▷ one n IsDoubleColon colons ▷ below.ty n TyPlace.Whole ty)
exp_reading below n free place (Exp-F.Fields part left fields right) ending = never
exp_reading below n free place atom ending = given (ending ≡ applied) (atom_reading below n atom)

abbrev pub exp_over : Derivations → ℕ → Colons → ExpPlace → Exp → Ending → Reading
exp_over below n free place exp ending = exp_reading below n free place (out-Exp exp) ending
