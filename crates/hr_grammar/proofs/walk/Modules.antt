-- What goes over from the parts of trees to the whole is true of the items of each module.
use Rattle.std.proofs.Common.{ℕ, List}
use Rattle.hr_base.specs.declared.lexeme.Item.{Item}
use Rattle.hr_tree.specs.declared.modules.Module.{Module}
use Rattle.hr_tree.specs.Lists.{block_items}
use Rattle.hr_tree.specs.Yields.{decl_items, header_items, module_items}
use Rattle.hr_grammar.specs.Nodes.{DeclPlace}
use Rattle.hr_grammar.specs.Yields.{IsModule}
use Rattle.hr_grammar.proofs.walk.Rules.{InTrees, TreesKeep}
use Rattle.hr_grammar.proofs.walk.Imports.{header_keeps}
use Rattle.hr_grammar.proofs.walk.Declarations.{levels_keep}

pub modules_keep : {P Q : List Item → Type 0} → InTrees P Q → (levels : ℕ) (tree : Module) → IsModule levels tree → P (module_items tree)
modules_keep h levels tree is =
    h.joins.join (header_items tree.header) (block_items decl_items tree.body) (header_keeps h tree.header is.0) ((levels_keep h levels).declarations DeclPlace.Top tree.body is.1)

pub trees_keep_lem : TreesKeep
trees_keep_lem P Q h = (λ levels free place exp is. (levels_keep h levels).exp free place exp is, modules_keep h)
