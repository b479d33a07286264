-- Short texts, all of them: `a =` and three lexemes of eight kinds.
use Rattle.std.specs.Prelude.{ℕ, zero, suc, ◌≡◌, List, [], ◌∷◌, map}
use Rattle.std.specs.List.{flat_map}
use lib.Chars.{codes}
use Rattle.hr_base.specs.declared.lexeme.Class.{Class}
use Rattle.hr_base.specs.declared.lexeme.Item.{Item}
use Rattle.hr_tree.specs.declared.modules.Module.{Module}
use Rattle.hr_grammar.specs.Yields.{nesting_limit}
use Rattle.hr_grammar.specs.Worked.{item, reserved, bracket}
use Rattle.hr_grammar_cases.specs.Modules.{Derives}
use Rattle.hr_grammar_finder_laws.specs.Ways.{Among}

-- a variable, a constructor, an operator, a minus, parentheses, a comma and `::`
abbrev pub lexemes : List Item
lexemes =
    item Class.VarId (codes " ") (codes "x") ∷ item Class.ConId (codes " ") (codes "C") ∷ item Class.VarSym (codes " ") (codes "+") ∷ item Class.VarSym (codes " ") (codes "-")
    ∷ bracket (codes "(") ∷ bracket (codes ")") ∷ bracket (codes ",") ∷ reserved (codes "::") ∷ []

-- all lists of so many of them
abbrev pub lists_of : ℕ → List (List Item)
lists_of zero = [] ∷ []
lists_of (suc n) = flat_map (λ lexeme. map (λ rest. lexeme ∷ rest) (lists_of n)) lexemes

-- `a =`, and then the items
abbrev pub after_a : List Item → List Item
after_a items = item Class.VarId [] (codes "a") ∷ reserved (codes "=") ∷ items

-- none of the 512 texts is read as two trees
abbrev pub ShortTextsHaveOneTree : Type 0
ShortTextsHaveOneTree = (items : List Item) → Among items (lists_of 3) → (tree other : Module)
    → Derives nesting_limit tree (after_a items) → Derives nesting_limit other (after_a items) → tree.tail ≡ other.tail → tree ≡ other
