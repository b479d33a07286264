-- Lists of parts, of which a property goes over to the whole.
use Rattle.std.proofs.Common.{◌≡◌, List, [], ◌∷◌, Option, Some, None}
use Rattle.std.specs.List.{AllByRecursion, flat_map}
use Rattle.hr_base.specs.declared.lexeme.Item.{Item}
use Rattle.hr_tree.specs.declared.names.Operator.{Operator}
use Rattle.hr_tree.specs.declared.lists.Listed.{Listed}
use Rattle.hr_tree.specs.Names.{maybe_item, maybe_operator}
use Rattle.hr_tree.specs.Lists.{listed_items}
use Rattle.hr_grammar.specs.Spelled.{Maybe}
use Rattle.hr_grammar.specs.Separated.{AreSeparated, There}
use Rattle.hr_grammar.proofs.walk.Rules.{Joins}

-- an item before others
pub put : {P : List Item → Type 0} → Joins P → (item : Item) (items : List Item) → P (item ∷ []) → P items → P (item ∷ items)
put joins item items p q = joins.join (item ∷ []) items p q

-- an item that may be there
pub maybe : {P : List Item → Type 0} → Joins P → (Is : Item → Type 0) → ((item : Item) → Is item → P (item ∷ [])) → (item : Option Item) → Maybe Is item → P (maybe_item item)
maybe joins Is each None is = joins.nothing
maybe joins Is each (Some item) is = each item is

pub there : {P : List Item → Type 0} → Joins P → (Is : Item → Type 0) → ((item : Item) → Is item → P (item ∷ [])) → (item : Option Item) → There Is item → P (maybe_item item)
there joins Is each None is = elim is [ ]
there joins Is each (Some item) is = each item is

pub absent : {P : List Item → Type 0} → Joins P → (item : Option Item) → item ≡ None → P (maybe_item item)
absent joins None e = joins.nothing
absent joins (Some item) e = let no : ⊥ = cc in elim no [ ]

pub no_operator : {P : List Item → Type 0} → Joins P → (operator : Option Operator) → operator ≡ None → P (maybe_operator operator)
no_operator joins None e = joins.nothing
no_operator joins (Some operator) e = let no : ⊥ = cc in elim no [ ]

pub all_items : {P : List Item → Type 0} → Joins P → (Is : Item → Type 0) → ((item : Item) → Is item → P (item ∷ [])) → (items : List Item) → AllByRecursion Is items → P items
all_items joins Is each [] is = joins.nothing
all_items joins Is each (item ∷ items) is = put joins item items (each item is.0) (all_items joins Is each items is.1)

pub all_of : {P : List Item → Type 0} → Joins P → {T : Type 0} (of : T → List Item) (Is : T → Type 0) → ((part : T) → Is part → P (of part)) → (parts : List T) → AllByRecursion Is parts → P (flat_map of parts)
all_of joins of Is each [] is = joins.nothing
all_of joins of Is each (part ∷ parts) is = joins.join (of part) (flat_map of parts) (each part is.0) (all_of joins of Is each parts is.1)

-- parts with separators
pub separated : {P : List Item → Type 0} → Joins P → {T : Type 0} (of : T → List Item) (Separates : Item → Type 0) (Is : T → Type 0) → ((item : Item) → Separates item → P (item ∷ [])) → ((part : T) → Is part → P (of part))
    → (parts : List (Listed T)) → AreSeparated Separates Is parts → P (flat_map (listed_items of) parts)
separated joins of Separates Is mark each [] is = joins.nothing
separated joins of Separates Is mark each (listed ∷ []) is =
    joins.join (listed_items of listed) [] (joins.join (of listed.part) (maybe_item listed.separator) (each listed.part is.0) (absent joins listed.separator is.1)) joins.nothing
separated joins of Separates Is mark each (listed ∷ (next ∷ rest)) is =
    joins.join (listed_items of listed) (flat_map (listed_items of) (next ∷ rest))
    (joins.join (of listed.part) (maybe_item listed.separator) (each listed.part is.0) (there joins Separates mark listed.separator is.1.0)) (separated joins of Separates Is mark each (next ∷ rest) is.1.1)
