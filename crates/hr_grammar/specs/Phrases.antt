-- Properties of the items of expressions and of trees.
use Rattle.std.specs.Prelude.{ℕ, List}
use Rattle.hr_base.specs.declared.lexeme.Item.{Item}
use Rattle.hr_tree.specs.declared.expressions.Exp.{Exp}
use Rattle.hr_tree.specs.declared.modules.Module.{Module}
use Rattle.hr_tree.specs.Yields.{exp_items, module_items}
use Rattle.hr_grammar.specs.Nodes.{Colons, ExpPlace}
use Rattle.hr_grammar.specs.Yields.{nodes, IsModule}

-- the property is true of the items of each expression, at any place
abbrev pub InExpressions : (List Item → Type 0) → Type 0
InExpressions P = (levels : ℕ) (free : Colons) (place : ExpPlace) (exp : Exp) → (nodes levels).exp free place exp → P (exp_items exp)

-- and of each tree, however deep its nodes nest
abbrev pub InModules : (List Item → Type 0) → Type 0
InModules P = (levels : ℕ) (tree : Module) → IsModule levels tree → P (module_items tree)

abbrev pub Everywhere : (List Item → Type 0) → Type 0
Everywhere P = InExpressions P × InModules P
