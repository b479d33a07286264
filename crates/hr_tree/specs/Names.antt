-- The items of names and operators, from left to right.
use Rattle.std.specs.Prelude.{List, [], ◌∷◌, ◌++◌, Option, Some, None}
use Rattle.hr_base.specs.declared.lexeme.Item.{Item}
use Rattle.hr_tree.specs.declared.names.Variable.{Variable}
use Rattle.hr_tree.specs.declared.names.Constructor.{Constructor}
use Rattle.hr_tree.specs.declared.names.Operator.{Operator}

-- of an item that may be there
abbrev pub maybe_item : Option Item → List Item
maybe_item None = []
maybe_item (Some item) = item ∷ []

abbrev pub variable_items : Variable → List Item
variable_items (Variable.Name name) = name ∷ []
variable_items (Variable.Symbol left symbol right) = left ∷ symbol ∷ right ∷ []

abbrev pub constructor_items : Constructor → List Item
constructor_items (Constructor.Name name) = name ∷ []
constructor_items (Constructor.Symbol left symbol right) = left ∷ symbol ∷ right ∷ []
constructor_items (Constructor.Unit left right) = left ∷ right ∷ []
constructor_items (Constructor.EmptyList left right) = left ∷ right ∷ []
constructor_items (Constructor.Tuple left commas right) = left ∷ (commas ++ right ∷ [])

abbrev pub operator_items : Operator → List Item
operator_items (Operator.Symbol symbol) = symbol ∷ []
operator_items (Operator.Quoted left name right) = left ∷ name ∷ right ∷ []

-- of an operator that may be there
abbrev pub maybe_operator : Option Operator → List Item
maybe_operator None = []
maybe_operator (Some operator) = operator_items operator
