-- What the reader says of the promise: of trees within the limit on nesting that yield the items and whose blocks
-- stand as the layout rule says.
use Rattle.std.specs.Prelude.{ℕ, ◌≡◌, List, [], length}
use Rattle.hr_base.specs.declared.lexeme.Item.{Item}
use Rattle.hr_base.specs.declared.lexeme.Items.{Items}
use Rattle.hr_tree.specs.declared.modules.Module.{Module}
use Rattle.hr_grammar.specs.Yields.{nesting_limit, Yields}
use Rattle.hr_grammar.specs.Offside.{Offside}
use Rattle.hr_grammar.specs.Worked.{annotated_in_let, section_of_lambda, case_in_if, sum_behind_case, case_in_tuple, case_in_comprehension, case_in_sequence, case_in_case, where_in_let}
use Rattle.hr_grammar_cases.specs.Worked.{annotated_in_let_items, section_of_lambda_items, case_in_if_items, sum_behind_case_items, defines_a}
use Rattle.hr_grammar_finder_laws.specs.Ways.{Among}
use Rattle.hr_grammar_finder_laws.specs.Modules.{trees_of}
use Rattle.hr_grammar_finder_laws.specs.Worked.{case_in_tuple_items, case_in_comprehension_items, case_in_sequence_items, case_in_case_items, where_in_let_items, unopened_items, unclosed_items, class_items, let_without_in_items, then_at_margin_items, twice_annotated_items, case_or_comprehension_items}

-- the tree yields the items, and its blocks stand
pub record IsTreeOf (items : Items) (tree : Module) : Type 0 where
  pub yields : Yields tree items
  pub offside : Offside tree

-- each such tree is found: so where none is found the items have none, and where one is found they have no other
pub record ReadAreFound : Type 0 where
  pub found : (items : Items) (tree : Module) → IsTreeOf items tree → Among tree (trees_of nesting_limit items)
  pub none : (items : Items) → trees_of nesting_limit items ≡ [] → (tree : Module) → IsTreeOf items tree → ⊥
  pub alone : (items : Items) → length (trees_of nesting_limit items) ≡ 1 → (tree other : Module) → IsTreeOf items tree → IsTreeOf items other → tree ≡ other

-- it is the one tree of the items
pub record IsOnlyTree (tree : Module) (items : List Item) : Type 0 where
  pub is_one : IsTreeOf (record { list = items; tail = tree.tail }) tree
  pub only : (other : Module) → IsTreeOf (record { list = items; tail = tree.tail }) other → other ≡ tree

-- the items have none, whatever stands behind them
abbrev pub HaveNoTree : List Item → Type 0
HaveNoTree items = (tail : List ℕ) (tree : Module) → IsTreeOf (record { list = items; tail = tail }) tree → ⊥

pub record WorkedTextsAreRead : Type 0 where
  pub annotated_in_let : IsOnlyTree (defines_a annotated_in_let) annotated_in_let_items
  pub section_of_lambda : IsOnlyTree (defines_a section_of_lambda) section_of_lambda_items
  pub case_in_if : IsOnlyTree (defines_a case_in_if) case_in_if_items
  pub sum_behind_case : IsOnlyTree (defines_a sum_behind_case) sum_behind_case_items
  pub case_in_tuple : IsOnlyTree (defines_a case_in_tuple) case_in_tuple_items
  pub case_in_comprehension : IsOnlyTree (defines_a case_in_comprehension) case_in_comprehension_items
  pub case_in_sequence : IsOnlyTree (defines_a case_in_sequence) case_in_sequence_items
  pub case_in_case : IsOnlyTree (defines_a case_in_case) case_in_case_items
  pub where_in_let : IsOnlyTree (defines_a where_in_let) where_in_let_items
  pub unopened : HaveNoTree unopened_items
  pub unclosed : HaveNoTree unclosed_items
  pub class_word : HaveNoTree class_items
  pub let_without_in : HaveNoTree let_without_in_items
  pub then_at_margin : HaveNoTree then_at_margin_items
  pub twice_annotated : HaveNoTree twice_annotated_items
  pub case_or_comprehension : HaveNoTree case_or_comprehension_items
