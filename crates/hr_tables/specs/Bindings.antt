-- The lexemes that are bound to a binder, in the order of the modules and of the text.
use Rattle.std.specs.Prelude.{ℕ, ◌+◌, ◌&&◌, ◌==◌, Bool, true, false, nat_eq, List, [], ◌∷◌, ◌++◌, if◌then◌else◌, Option, Some, None}
use Rattle.std.specs.Cmp.Lexicographic.{pointwise}
use Rattle.hr_base.specs.declared.bind.Binder.{Binder}
use Rattle.hr_base.specs.declared.bind.Entity.{Entity}
use Rattle.hr_base.specs.declared.bind.Space.{Space}
use Rattle.hr_base.specs.declared.place.Spot.{Spot}

abbrev pub same_space : Space → Space → Bool
same_space Space.Value Space.Value = true
same_space Space.Constructor Space.Constructor = true
same_space Space.TypeName Space.TypeName = true
same_space _ _ = false

abbrev pub same_entity : Entity → Entity → Bool
same_entity a b = same_space a.space b.space && (pointwise nat_eq a.text b.text && pointwise nat_eq a.«module» b.«module»)

abbrev pub same_binder : Binder → Binder → Bool
same_binder (Binder.Global a) (Binder.Global b) = same_entity a b
same_binder (Binder.Local a) (Binder.Local b) = a.«module» == b.«module» && a.item == b.item
same_binder _ _ = false

abbrev pub is_bound_to : Option Binder → Binder → Bool
is_bound_to None binder = false
is_bound_to (Some bound) binder = same_binder bound binder

-- of the module of that number, from the lexeme of that number on
abbrev pub module_spots : Binder → ℕ → ℕ → List (Option Binder) → List Spot
module_spots binder «module» item [] = []
module_spots binder «module» item (entry ∷ rest) =
    (if is_bound_to entry binder then record { «module» = «module»; item = item } ∷ [] else []) ++ module_spots binder «module» (item + 1) rest

abbrev pub all_spots : Binder → ℕ → List (List (Option Binder)) → List Spot
all_spots binder «module» [] = []
all_spots binder «module» (entries ∷ rest) = module_spots binder «module» 0 entries ++ all_spots binder («module» + 1) rest
