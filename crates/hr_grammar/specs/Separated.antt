-- Lists with separators.
use Rattle.std.specs.Prelude.{◌≡◌, List, [], ◌∷◌, Option, Some, None}
use Rattle.hr_base.specs.declared.lexeme.Item.{Item}
use Rattle.hr_tree.specs.declared.lists.Listed.{Listed}

-- an item that is there
abbrev pub There : (Item → Type 0) → Option Item → Type 0
There Is None = ⊥
There Is (Some item) = Is item

-- parts with a separator behind each but the last one
abbrev pub AreSeparated : {T : Type 0} → (Item → Type 0) → (T → Type 0) → List (Listed T) → Type 0
AreSeparated Separates Is [] = Unit {0}
AreSeparated Separates Is (listed ∷ []) = Is listed.part × (listed.separator ≡ None)
AreSeparated Separates Is (listed ∷ (next ∷ rest)) = Is listed.part × (There Separates listed.separator × AreSeparated Separates Is (next ∷ rest))
