-- The items that a tree yields, from left to right, and how deep it nests (Haskell 98 Report, section 3).
use Rattle.std.specs.Prelude.{ℕ, ◌+◌, List, [], ◌∷◌, ◌++◌, max}
use Rattle.std.specs.List.{flat_map}
use Rattle.hr_base.specs.declared.lexeme.Item.{Item}
use Rattle.hr_base.specs.declared.lexeme.Items.{Items}
use Rattle.hr_plain_tree.specs.declared.tree.Exp.{Exp}
use Rattle.hr_plain_tree.specs.declared.tree.Exp.TheOpen.{Exp-F}
use Rattle.hr_plain_tree.specs.declared.tree.Exp.TheFolds.{fold-Exp}
use Rattle.hr_plain_tree.specs.declared.tree.Equation.{Equation}
use Rattle.hr_plain_tree.specs.declared.tree.Module.{Module}

-- of one node, from those of its parts
abbrev pub yield_layer : Exp-F (List Item) → List Item
yield_layer (Exp-F.Variable item) = item ∷ []
yield_layer (Exp-F.Integer item) = item ∷ []
yield_layer (Exp-F.Group left inner right) = left ∷ (inner ++ (right ∷ []))
yield_layer (Exp-F.Apply atoms) = flat_map (λ items. items) atoms

-- the items of an expression
abbrev pub yield_of : Exp → List Item
yield_of = fold-Exp (List Item) yield_layer

-- the items of an equation
abbrev pub equation_items : Equation → List Item
equation_items equation = equation.name ∷ (equation.patterns ++ (equation.equals ∷ yield_of equation.body))

-- the items of a module
abbrev pub module_items : Module → List Item
module_items tree = flat_map equation_items tree.equations

-- the items of a module and what is behind the last one
abbrev pub items_of : Module → Items
items_of tree = record { list = module_items tree; tail = tree.tail }

abbrev pub greatest : List ℕ → ℕ
greatest [] = 0
greatest (n ∷ ns) = max n (greatest ns)

abbrev pub height_layer : Exp-F ℕ → ℕ
height_layer (Exp-F.Variable item) = 1
height_layer (Exp-F.Integer item) = 1
height_layer (Exp-F.Group left inner right) = inner + 1
height_layer (Exp-F.Apply atoms) = greatest atoms + 1

-- how many nodes stand in one another in an expression, itself counted
abbrev pub height_of : Exp → ℕ
height_of = fold-Exp ℕ height_layer
