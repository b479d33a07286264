-- The ways to begin with an expression, each with its ending.
use Rattle.std.specs.Prelude.{ℕ, zero, suc, Bool, true, false, List, [], ◌∷◌, length, Option, Some, None}
use lib.Chars.{codes}
use Rattle.hr_base.specs.declared.lexeme.Ending.{Ending}
use Rattle.hr_base.specs.declared.lexeme.Item.{Item}
use Rattle.hr_tree.specs.declared.lists.Operand.{Operand}
use Rattle.hr_tree.specs.declared.names.Operator.{Operator}
use Rattle.hr_tree.specs.declared.expressions.Exp.{Exp, roll-Exp}
use Rattle.hr_tree.specs.declared.expressions.Decl.{Decl}
use Rattle.hr_tree.specs.declared.expressions.Alt.{Alt}
use Rattle.hr_tree.specs.declared.expressions.Qualifier.{Qualifier, roll-Qualifier}
use Rattle.hr_tree.specs.declared.expressions.Decl.TheOpen.{Exp-F, Qualifier-F}
use Rattle.hr_grammar.specs.Nodes.{Colons, TyPlace, PatPlace, ExpPlace, DeclPlace}
use Rattle.hr_grammar.specs.Expressions.{takes_operand, takes_open, takes_infix, takes_annotation, last_operand}
use Rattle.hr_grammar_cases.specs.Expressions.{applied, closed, annotated}
use Rattle.hr_grammar_finder_laws.specs.Ways.{Finder, any_of, none, ◌⊕◌, on, passing, made_by, ◌▶◌, one, maybe, in_turn, separated, inside, ending_in}
use Rattle.hr_grammar_finder_laws.specs.Tests.{is_word, is_reserved, is_special, is_literal, is_minus, is_no_minus, has_one, has_two, are_parts, is_sequence}
use Rattle.hr_grammar_finder_laws.specs.Names.{named_variables, constructors, operators}
use Rattle.hr_grammar_finder_laws.specs.Finders.{Finders}

-- any expression
abbrev pub whole : Finders → ℕ → Colons → Finder Exp
whole below n free = inside (below.exp n free ExpPlace.Whole)

-- an operand that is the last one, and one with its operator before others, each with its minus or none
abbrev pub last_alone : Option Item × (Exp × Ending) → List (Operand Exp) × Ending
last_alone p = (record { minus = p.0; part = p.1.0; operator = None } ∷ [], p.1.1)

abbrev pub operand_then : Option Item × (Exp × (Operator × (List (Operand Exp) × Ending))) → List (Operand Exp) × Ending
operand_then p = (record { minus = p.0; part = p.1.0; operator = Some p.1.1.0 } ∷ p.1.1.1.0, p.1.1.1.1)

-- one operand or more, and no more than so many
abbrev pub operands_by : Finders → ℕ → Colons → ExpPlace → ℕ → Finder (List (Operand Exp) × Ending)
operands_by below n free last zero = none
operands_by below n free last (suc fuel) =
    made_by last_alone (maybe (one n is_minus) ▶ below.exp n free last)
    ⊕ made_by operand_then (maybe (one n is_minus) ▶ inside (below.exp n free ExpPlace.Operand) ▶ operators n ▶ operands_by below n free last fuel)

abbrev pub exp_operands_found : Finders → ℕ → Colons → ExpPlace → Finder (List (Operand Exp) × Ending)
exp_operands_found below n free last ts = operands_by below n free last (length ts) ts

-- the qualifiers of a comprehension
abbrev pub qualifier_ways : Finders → ℕ → List (Finder (Qualifier-F Decl Exp Qualifier Alt))
qualifier_ways below n =
    made_by (λ p. Qualifier-F.Generator p.0 p.1.0 p.1.1) (below.pat n PatPlace.Whole ▶ one n (is_reserved (codes "<-")) ▶ whole below n Colons.Allowed)
    ∷ made_by (λ p. Qualifier-F.Locals p.0 p.1) (one n (is_word (codes "let")) ▶ below.declarations n DeclPlace.Local)
    ∷ made_by Qualifier-F.Test (whole below n Colons.Allowed)
    ∷ []

abbrev pub qualifier_layers : Finders → ℕ → Finder (Qualifier-F Decl Exp Qualifier Alt)
qualifier_layers below n = any_of (qualifier_ways below n)

abbrev pub qualifier_found : Finders → ℕ → Finder Qualifier
qualifier_found below n = made_by roll-Qualifier (qualifier_layers below n)

-- atoms: names, literals and what stands in brackets
abbrev pub atom_ways : Finders → ℕ → List (Finder (Exp-F Decl Exp Qualifier Alt))
atom_ways below n =
    made_by Exp-F.Variable (named_variables n)
    ∷ made_by Exp-F.Constructor (constructors n)
    ∷ made_by Exp-F.Literal (one n is_literal)
    ∷ made_by (λ p. Exp-F.Group p.0 p.1.0 p.1.1) (one n (is_special (codes "(")) ▶ whole below n Colons.Allowed ▶ one n (is_special (codes ")")))
    ∷ made_by (λ p. Exp-F.Tuple p.0 p.1.0 p.1.1) (passing (λ p. are_parts p.1.0)
    (one n (is_special (codes "(")) ▶ separated (one n (is_special (codes ","))) (whole below n Colons.Allowed) ▶ one n (is_special (codes ")"))))
    ∷ made_by (λ p. Exp-F.List p.0 p.1.0 p.1.1) (passing (λ p. has_one p.1.0)
    (one n (is_special (codes "[")) ▶ separated (one n (is_special (codes ","))) (whole below n Colons.Allowed) ▶ one n (is_special (codes "]"))))
    ∷ made_by (λ p. Exp-F.From p.0 p.1.0 p.1.1.0 p.1.1.1)
    (one n (is_special (codes "[")) ▶ whole below n Colons.Allowed ▶ one n (is_reserved (codes "..")) ▶ one n (is_special (codes "]")))
    ∷ made_by (λ p. Exp-F.FromThen p.0 p.1.0 p.1.1.0 p.1.1.1.0 p.1.1.1.1.0 p.1.1.1.1.1)
    (one n (is_special (codes "[")) ▶ whole below n Colons.Allowed ▶ one n (is_special (codes ",")) ▶ whole below n Colons.Allowed ▶ one n (is_reserved (codes ".."))
    ▶ one n (is_special (codes "]")))
    ∷ made_by (λ p. Exp-F.FromTo p.0 p.1.0 p.1.1.0 p.1.1.1.0 p.1.1.1.1)
    (one n (is_special (codes "[")) ▶ whole below n Colons.Allowed ▶ one n (is_reserved (codes "..")) ▶ whole below n Colons.Allowed ▶ one n (is_special (codes "]")))
    ∷ made_by (λ p. Exp-F.FromThenTo p.0 p.1.0 p.1.1.0 p.1.1.1.0 p.1.1.1.1.0 p.1.1.1.1.1.0 p.1.1.1.1.1.1)
    (one n (is_special (codes "[")) ▶ whole below n Colons.Allowed ▶ one n (is_special (codes ",")) ▶ whole below n Colons.Allowed ▶ one n (is_reserved (codes ".."))
    ▶ whole below n Colons.Allowed ▶ one n (is_special (codes "]")))
    ∷ made_by (λ p. Exp-F.Comprehension p.0 p.1.0 p.1.1.0 p.1.1.1.0 p.1.1.1.1) (passing (λ p. has_one p.1.1.1.0)
    (one n (is_special (codes "[")) ▶ whole below n Colons.Allowed ▶ one n (is_reserved (codes "|")) ▶ separated (one n (is_special (codes ","))) (qualifier_found below n)
    ▶ one n (is_special (codes "]"))))
    ∷ made_by (λ p. Exp-F.LeftSection p.0 p.1.0 p.1.1.0 p.1.1.1)
    (one n (is_special (codes "(")) ▶ inside (below.exp n Colons.Allowed ExpPlace.Sequence) ▶ operators n ▶ one n (is_special (codes ")")))
    ∷ made_by (λ p. Exp-F.RightSection p.0 p.1.0 p.1.1.0 p.1.1.1) (passing (λ p. is_no_minus p.1.0)
    (one n (is_special (codes "(")) ▶ operators n ▶ inside (below.exp n Colons.Allowed ExpPlace.Sequence) ▶ one n (is_special (codes ")"))))
    ∷ []

abbrev pub atom_layers : Finders → ℕ → Finder (Exp-F Decl Exp Qualifier Alt)
atom_layers below n = any_of (atom_ways below n)

-- whether `::` may stand there
abbrev pub are_allowed : Colons → Bool
are_allowed Colons.Allowed = true
are_allowed Colons.Barred = false

-- what ends in an expression ends as that does
abbrev pub exp_ways : Finders → ℕ → Colons → ExpPlace → List (Finder (Exp-F Decl Exp Qualifier Alt × Ending))
exp_ways below n free place =
    ending_in applied (atom_layers below n)
    ∷ on (takes_operand place) (made_by (λ atoms. (Exp-F.Apply atoms, applied)) (passing has_two (in_turn (inside (below.exp n free ExpPlace.Atom)))))
    ∷ on (takes_operand place) (made_by (λ p. (Exp-F.Case p.0 p.1.0 p.1.1.0 p.1.1.1, closed))
    (one n (is_word (codes "case")) ▶ whole below n free ▶ one n (is_word (codes "of")) ▶ below.alternatives n))
    ∷ on (takes_open place) (made_by (λ p. (Exp-F.Lambda p.0 p.1.0 p.1.1.0 p.1.1.1.0, p.1.1.1.1)) (passing (λ p. has_one p.1.0)
    (one n (is_reserved (codes "\\")) ▶ in_turn (below.pat n PatPlace.Atomic) ▶ one n (is_reserved (codes "->")) ▶ below.exp n free ExpPlace.Whole)))
    ∷ on (takes_open place) (made_by (λ p. (Exp-F.Let p.0 p.1.0 p.1.1.0 p.1.1.1.0, p.1.1.1.1))
    (one n (is_word (codes "let")) ▶ below.declarations n DeclPlace.Local ▶ one n (is_word (codes "in")) ▶ below.exp n free ExpPlace.Whole))
    ∷ on (takes_open place) (made_by (λ p. (Exp-F.If p.0 p.1.0 p.1.1.0 p.1.1.1.0 p.1.1.1.1.0 p.1.1.1.1.1.0, p.1.1.1.1.1.1))
    (one n (is_word (codes "if")) ▶ whole below n free ▶ one n (is_word (codes "then")) ▶ whole below n free ▶ one n (is_word (codes "else"))
    ▶ below.exp n free ExpPlace.Whole))
    ∷ on (takes_infix place) (made_by (λ p. (Exp-F.Infix p.0, p.1)) (passing (λ p. is_sequence p.0) (exp_operands_found below n free (last_operand place))))
    ∷ on (takes_annotation place) (on (are_allowed free) (made_by (λ p. (Exp-F.Annotated p.0 p.1.0 p.1.1, annotated))
    (inside (below.exp n Colons.Allowed ExpPlace.Annotated) ▶ one n (is_reserved (codes "::")) ▶ below.ty n TyPlace.Whole)))
    ∷ []

abbrev pub exp_layers : Finders → ℕ → Colons → ExpPlace → Finder (Exp-F Decl Exp Qualifier Alt × Ending)
exp_layers below n free place = any_of (exp_ways below n free place)

abbrev pub exp_found : Finders → ℕ → Colons → ExpPlace → Finder (Exp × Ending)
exp_found below n free place = made_by (λ p. (roll-Exp p.0, p.1)) (exp_layers below n free place)
