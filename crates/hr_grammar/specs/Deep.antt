-- Deep trees: those of the grammar that stand as the layout rule says, however deep their nodes nest. By them it is
-- told where a text that has no tree is refused.
use Rattle.std.specs.Prelude.{ℕ, suc, ◌≡◌, ◌<◌, ◌≤◌, List, ◌++◌, length, take}
use Rattle.hr_base.specs.declared.lexeme.Item.{Item}
use Rattle.hr_base.specs.declared.lexeme.Items.{Items}
use Rattle.hr_tree.specs.declared.modules.Module.{Module}
use Rattle.hr_tree.specs.Yields.{items_of, module_items}
use Rattle.hr_grammar.specs.Yields.{IsModule, Yields}
use Rattle.hr_grammar.specs.Offside.{Offside}

-- the tree is a deep one
pub record IsDeep (tree : Module) : Type 0 where
  pub grammar : (levels : ℕ) × IsModule levels tree
  pub offside : Offside tree

-- and its lexemes from left to right, with their trivia, are the items
pub record DeepYields (tree : Module) (items : Items) : Type 0 where
  pub deep : IsDeep tree
  pub items_are : items_of tree ≡ items

-- the tree begins with the items
abbrev pub BeginsWith : Module → List Item → Type 0
BeginsWith tree items = (rest : List Item) × (module_items tree ≡ items ++ rest)

-- some deep tree begins with the items
abbrev pub CanGoOn : List Item → Type 0
CanGoOn items = (tree : Module) × IsDeep tree × BeginsWith tree items

-- among the items the first lexeme with which no deep tree goes on is that of the number, or it is their end, where
-- there is none
pub record IsStuckAt (items : List Item) (number : ℕ) : Type 0 where
  pub within : number ≤ length items
  pub before : CanGoOn (take number items)
  pub at_lexeme : number < length items → CanGoOn (take (suc number) items) → ⊥

-- there is one such place at most
abbrev pub StuckAtOnePlace : Type 0
StuckAtOnePlace = (items : List Item) (first second : ℕ) → IsStuckAt items first → IsStuckAt items second → first ≡ second

-- a tree within the limit on nesting that stands as the layout rule says is a deep one
abbrev pub WithinIsDeep : Type 0
WithinIsDeep = (tree : Module) (items : Items) → Yields tree items → Offside tree → DeepYields tree items
