-- The relation by cases is the promise: both ways.
use Rattle.std.proofs.Common.{◌≡◌, ℕ, List, sym, ap, subst}
use Rattle.hr_base.specs.declared.lexeme.Item.{Item}
use Rattle.hr_base.specs.declared.lexeme.Items.{Items}
use Rattle.hr_tree.specs.declared.modules.Module.{Module}
use Rattle.hr_tree.specs.Yields.{module_items}
use Rattle.hr_grammar.specs.Offside.{Offside}
use Rattle.hr_grammar.specs.Yields.{nesting_limit, IsModule, Yields}
use Rattle.hr_grammar_cases.specs.Modules.{Derives}
use Rattle.hr_grammar_cases.proofs.Modules.{modules_give_lem}
use Rattle.hr_grammar_cases.proofs.GrammaticalModules.{modules_are_lem}
use Rattle.hr_grammar_cases.proofs.StandingModules.{modules_stand_lem}
use Rattle.hr_grammar_cases_laws.specs.Laws.{RelationIsPromise}
use Rattle.hr_grammar_cases_laws.proofs.RegainingModules.{derived}

there : (levels : ℕ) (tree : Module) (items : List Item) → Derives levels tree items → IsModule levels tree × Offside tree × (items ≡ module_items tree)
there levels tree items read = (modules_are_lem.grammar levels tree items read, modules_stand_lem levels tree items read, modules_give_lem levels tree items read)

back : (levels : ℕ) (tree : Module) (items : List Item) → IsModule levels tree × Offside tree × (items ≡ module_items tree) → Derives levels tree items
back levels tree items is = subst (Derives levels tree) (sym is.2) (derived levels tree is.0 is.1)

pub relation_is_promise_lem : RelationIsPromise
relation_is_promise_lem levels tree items = (there levels tree items, back levels tree items)

-- what a tree within the limit on nesting yields is read as it, if its blocks stand
pub yielded_is_derived_lem : (tree : Module) (items : Items) → Yields tree items → Offside tree → Derives nesting_limit tree items.list
yielded_is_derived_lem tree items y stands = back nesting_limit tree items.list (y.grammar, stands, ap (λ (i : Items). i.list) (sym y.items_are))
