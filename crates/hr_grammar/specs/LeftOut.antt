-- What is left out of the language that is read: classes, instances, defaults, `deriving`, `do`, contexts, and
-- floats (Haskell 98 Report, sections 2.5, 3.14 and 4.3).
use Rattle.std.specs.Prelude.{ℕ, ◌≡◌, Bool, true, false, List, [], ◌∷◌}
use Rattle.std.specs.List.{AllByRecursion}
use lib.Chars.{codes}
use Rattle.hr_base.specs.declared.lexeme.Class.{Class}
use Rattle.hr_base.specs.declared.lexeme.Item.{Item}
use Rattle.hr_rules.specs.Names.{is_one_of, is_spelled}
use Rattle.hr_tree.specs.declared.modules.Module.{Module}
use Rattle.hr_tree.specs.Yields.{module_items}
use Rattle.hr_grammar.specs.Yields.{IsModule}

abbrev pub words_left_out : List (List ℕ)
words_left_out = codes "class" ∷ codes "instance" ∷ codes "default" ∷ codes "deriving" ∷ codes "do" ∷ []

abbrev pub left_out : Class → List ℕ → Bool
left_out Class.ReservedId text = is_one_of words_left_out text
left_out Class.ReservedOp text = is_spelled (codes "=>") text
left_out Class.Float text = true
left_out _ text = false

abbrev pub IsKept : Item → Type 0
IsKept item = left_out item.lexeme.class item.lexeme.text ≡ false

abbrev pub AreKept : List Item → Type 0
AreKept = AllByRecursion IsKept

-- no lexeme of a tree is left out, however deep its nodes nest
abbrev pub LeftOutStandsNowhere : Type 0
LeftOutStandsNowhere = (levels : ℕ) (tree : Module) → IsModule levels tree → AreKept (module_items tree)
