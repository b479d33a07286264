-- The relation by cases is the promise.
use Rattle.std.specs.Prelude.{ℕ, ◌≡◌, ◌↔◌, List}
use Rattle.hr_base.specs.declared.lexeme.Item.{Item}
use Rattle.hr_tree.specs.declared.modules.Module.{Module}
use Rattle.hr_tree.specs.Yields.{module_items}
use Rattle.hr_grammar.specs.Offside.{Offside}
use Rattle.hr_grammar.specs.Yields.{IsModule}
use Rattle.hr_grammar_cases.specs.Modules.{Derives}

-- items are read as a tree exactly where it is one of the grammar on that level, its blocks stand as the layout rule
-- says, and the items are its own
abbrev pub RelationIsPromise : Type 0
RelationIsPromise = (levels : ℕ) (tree : Module) (items : List Item) → Derives levels tree items ↔ (IsModule levels tree × Offside tree × (items ≡ module_items tree))
