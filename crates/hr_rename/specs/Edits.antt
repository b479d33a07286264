-- What the edits of a rename do.
use Rattle.std.specs.Prelude.{ℕ, ◌+◌, Bool, ◌==◌, List, [], ◌∷◌, slice_get, map, Option, Some, None, if◌then◌else◌}
use Rattle.std.specs.List.{list_any}
use Rattle.hr_base.specs.declared.lexeme.Item.{Item}
use Rattle.hr_base.specs.declared.place.Spot.{Spot}
use Rattle.hr_tree.specs.declared.modules.Module.{Module}
use Rattle.hr_tree.specs.Yields.{items_of}
use Rattle.hr_edit.specs.declared.edit.Edit.{Edit}
use Rattle.hr_rename.specs.Spelling.{respelled}

abbrev pub item_in : Option (List Item) → ℕ → Option Item
item_in None item = None
item_in (Some items) item = slice_get items item

-- the item of a lexeme
abbrev pub item_at : List (List Item) → Spot → Option Item
item_at modules spot = item_in (slice_get modules spot.«module») spot.item

abbrev pub respelled_as : List ℕ → Spot → Option Item → Option Edit
respelled_as new spot None = None
respelled_as new spot (Some item) = Some (Edit.Respell spot (respelled item.lexeme new))

-- the edit that gives the lexeme at the spot the new text behind its qualifier
abbrev pub respelled_at : List (List Item) → List ℕ → Spot → Option Edit
respelled_at modules new spot = respelled_as new spot (item_at modules spot)

abbrev pub has_spot : List Spot → ℕ → Bool
has_spot spots «module» = list_any (λ spot. spot.«module» == «module») spots

abbrev pub list_of : Module → Bool → List Item
list_of tree is_wanted = if is_wanted then (items_of tree).list else []

-- the items of each module in which one of the spots is; none of the others, the first of which has the number
abbrev pub lists_from : ℕ → List Spot → List Module → List (List Item)
lists_from «module» spots [] = []
lists_from «module» spots (tree ∷ trees) = list_of tree (has_spot spots «module») ∷ lists_from («module» + 1) spots trees

-- the edits that respell the lexemes at the spots; none for a spot that names no lexeme of the modules
abbrev pub all_respelled : List Module → List ℕ → List Spot → List (Option Edit)
all_respelled modules new spots = map (respelled_at (lists_from 0 spots modules) new) spots
