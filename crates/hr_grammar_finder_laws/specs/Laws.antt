-- Laws of the plain reader.
use Rattle.std.specs.Prelude.{ℕ, ◌≡◌, [], length}
use Rattle.hr_base.specs.declared.lexeme.Items.{Items}
use Rattle.hr_tree.specs.declared.modules.Module.{Module}
use Rattle.hr_grammar.specs.Yields.{nesting_limit, Yields}
use Rattle.hr_grammar.specs.Offside.{Offside}
use Rattle.hr_grammar_cases.specs.Modules.{Derives}
use Rattle.hr_grammar_finder_laws.specs.Ways.{Among}
use Rattle.hr_grammar_finder_laws.specs.Modules.{trees_of}

-- what is found is a tree of the items by the relation, with what is behind the last item
pub record FoundAreDerived : Type 0 where
  pub derived : (levels : ℕ) (items : Items) (tree : Module) → Among tree (trees_of levels items) → Derives levels tree items.list
  pub tail : (levels : ℕ) (items : Items) (tree : Module) → Among tree (trees_of levels items) → tree.tail ≡ items.tail

-- what is found within the limit on nesting yields the items, and its blocks stand as the layout rule says
abbrev pub FoundAreRead : Type 0
FoundAreRead = (items : Items) (tree : Module) → Among tree (trees_of nesting_limit items) → Yields tree items × Offside tree

-- each tree of the items by the relation is found: so where none is found there is none, and where one is found no
-- two differ
pub record DerivedAreFound : Type 0 where
  pub found : (levels : ℕ) (items : Items) (tree : Module) → Derives levels tree items.list → tree.tail ≡ items.tail → Among tree (trees_of levels items)
  pub none : (levels : ℕ) (items : Items) → trees_of levels items ≡ [] → (tree : Module) → Derives levels tree items.list → tree.tail ≡ items.tail → ⊥
  pub alone : (levels : ℕ) (items : Items) → length (trees_of levels items) ≡ 1 → (tree other : Module) → Derives levels tree items.list → Derives levels other items.list
      → tree.tail ≡ items.tail → other.tail ≡ items.tail → tree ≡ other
