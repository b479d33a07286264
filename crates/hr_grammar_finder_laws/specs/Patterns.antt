-- The ways to begin with a pattern.
use Rattle.std.specs.Prelude.{ℕ, zero, suc, List, [], ◌∷◌, length, Some, None}
use lib.Chars.{codes}
use Rattle.hr_tree.specs.declared.lists.Operand.{Operand}
use Rattle.hr_tree.specs.declared.names.Operator.{Operator}
use Rattle.hr_tree.specs.declared.patterns.Pat.{Pat, roll-Pat}
use Rattle.hr_tree.specs.declared.patterns.Pat.TheOpen.{Pat-F}
use Rattle.hr_base.specs.declared.lexeme.Class.{Class}
use Rattle.hr_grammar.specs.Nodes.{PatPlace}
use Rattle.hr_grammar.specs.Patterns.{takes_operand, takes_infix}
use Rattle.hr_grammar_finder_laws.specs.Ways.{Finder, any_of, none, ◌⊕◌, on, passing, made_by, ◌▶◌, one, in_turn, separated}
use Rattle.hr_grammar_finder_laws.specs.Tests.{is_of, is_word, is_reserved, is_special, is_literal, is_minus, has_one, has_two, are_parts}
use Rattle.hr_grammar_finder_laws.specs.Names.{variables, constructors, constructor_operators}
use Rattle.hr_grammar_finder_laws.specs.Finders.{Finders}

-- an operand that is the last one, and one with its operator before others
abbrev pub last_operand : Pat → List (Operand Pat)
last_operand part = record { minus = None; part = part; operator = None } ∷ []

abbrev pub operand_then : Pat × (Operator × List (Operand Pat)) → List (Operand Pat)
operand_then p = record { minus = None; part = p.0; operator = Some p.1.0 } ∷ p.1.1

-- one operand or more, and no more than so many
abbrev pub operands_by : Finders → ℕ → ℕ → Finder (List (Operand Pat))
operands_by below n zero = none
operands_by below n (suc fuel) =
    made_by last_operand (below.pat n PatPlace.Operand)
    ⊕ made_by operand_then (below.pat n PatPlace.Operand ▶ constructor_operators n ▶ operands_by below n fuel)

abbrev pub pat_operands_found : Finders → ℕ → Finder (List (Operand Pat))
pat_operands_found below n ts = operands_by below n (length ts) ts

abbrev pub pat_ways : Finders → ℕ → PatPlace → List (Finder (Pat-F Pat))
pat_ways below n place =
    made_by Pat-F.Variable (variables n)
    ∷ made_by Pat-F.Wildcard (one n (is_word (codes "_")))
    ∷ made_by Pat-F.Literal (one n is_literal)
    ∷ made_by Pat-F.Constructor (constructors n)
    ∷ made_by (λ p. Pat-F.As p.0 p.1.0 p.1.1) (variables n ▶ one n (is_reserved (codes "@")) ▶ below.pat n PatPlace.Atomic)
    ∷ made_by (λ p. Pat-F.Lazy p.0 p.1) (one n (is_reserved (codes "~")) ▶ below.pat n PatPlace.Atomic)
    ∷ made_by (λ p. Pat-F.Tuple p.0 p.1.0 p.1.1) (passing (λ p. are_parts p.1.0)
    (one n (is_special (codes "(")) ▶ separated (one n (is_special (codes ","))) (below.pat n PatPlace.Whole) ▶ one n (is_special (codes ")"))))
    ∷ made_by (λ p. Pat-F.List p.0 p.1.0 p.1.1) (passing (λ p. has_one p.1.0)
    (one n (is_special (codes "[")) ▶ separated (one n (is_special (codes ","))) (below.pat n PatPlace.Whole) ▶ one n (is_special (codes "]"))))
    ∷ made_by (λ p. Pat-F.Group p.0 p.1.0 p.1.1) (one n (is_special (codes "(")) ▶ below.pat n PatPlace.Whole ▶ one n (is_special (codes ")")))
    ∷ on (takes_operand place) (made_by (λ p. Pat-F.Negative p.0 p.1) (one n is_minus ▶ one n (is_of Class.Integer)))
    ∷ on (takes_operand place) (made_by (λ p. Pat-F.Apply p.0 p.1) (passing (λ p. has_one p.1) (constructors n ▶ in_turn (below.pat n PatPlace.Atomic))))
    ∷ on (takes_infix place) (made_by Pat-F.Infix (passing has_two (pat_operands_found below n)))
    ∷ []

abbrev pub pat_layers : Finders → ℕ → PatPlace → Finder (Pat-F Pat)
pat_layers below n place = any_of (pat_ways below n place)

abbrev pub pat_found : Finders → ℕ → PatPlace → Finder Pat
pat_found below n place = made_by roll-Pat (pat_layers below n place)
