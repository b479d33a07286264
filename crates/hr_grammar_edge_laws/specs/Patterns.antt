-- What no pattern has (Haskell 98 Report, section 3.17): a mark that parts it from what is behind it.
use Rattle.std.specs.Prelude.{ℕ, ◌≡◌, Bool, false, List, [], ◌∷◌}
use Rattle.std.specs.List.{AllByRecursion}
use lib.Chars.{codes}
use Rattle.hr_base.specs.declared.lexeme.Class.{Class}
use Rattle.hr_base.specs.declared.lexeme.Item.{Item}
use Rattle.hr_rules.specs.Names.{is_one_of}
use Rattle.hr_tree.specs.declared.patterns.Pat.{Pat}
use Rattle.hr_tree.specs.Yields.{pat_items}
use Rattle.hr_grammar.specs.Nodes.{PatPlace}
use Rattle.hr_grammar.specs.Yields.{nodes}

-- the reserved operators that stand between a pattern and what is behind it
abbrev pub parting_marks : List (List ℕ)
parting_marks = codes "<-" ∷ codes "=" ∷ codes "|" ∷ codes "->" ∷ []

abbrev pub is_parting_mark : Class → List ℕ → Bool
is_parting_mark Class.ReservedOp text = is_one_of parting_marks text
is_parting_mark _ text = false

-- no item of a pattern is one of these
abbrev pub PatternsHaveNoBar : Type 0
PatternsHaveNoBar = (levels : ℕ) (place : PatPlace) (pat : Pat) → (nodes levels).pat place pat
    → AllByRecursion (λ (item : Item). is_parting_mark item.lexeme.class item.lexeme.text ≡ false) (pat_items pat)
