-- What it is for the names of a target to be bound as meant: each kept lexeme to the image of its old binder. The image
-- of a top-level thing is the one that has its place, that of a local variable the lexeme of the target that its
-- declaring lexeme is.
use Rattle.std.specs.Prelude.{ℕ, ◌+◌, Bool, true, false, ◌==◌, nat_lt, List, [], ◌∷◌, length, replicate, set, slice_get, Option, Some, None, if◌then◌else◌}
use Rattle.hr_base.specs.declared.bind.Binder.{Binder}
use Rattle.hr_base.specs.declared.bind.Entity.{Entity}
use Rattle.hr_base.specs.declared.place.Spot.{Spot}
use Rattle.hr_draft.specs.declared.draft.Draft.{Draft}
use Rattle.hr_draft.specs.declared.draft.Drafted.{Drafted}
use Rattle.hr_tables.specs.Bindings.{same_entity}
use Rattle.hr_step.specs.declared.names.Rebound.{Rebound}
use Rattle.hr_step.specs.Kept.{kept_number}

-- the thing that takes the place of this one, which is itself where no other does
abbrev pub partner : List (Entity × Entity) → Entity → Entity
partner [] entity = entity
partner (pair ∷ pairs) entity = if same_entity pair.0 entity then pair.1 else partner pairs entity

-- the thing whose place this one takes, which is itself where it takes no other's
abbrev pub origin : List (Entity × Entity) → Entity → Entity
origin [] entity = entity
origin (pair ∷ pairs) entity = if same_entity pair.1 entity then pair.0 else origin pairs entity

abbrev pub entry_of : Option (Option Binder) → Option Binder
entry_of None = None
entry_of (Some entry) = entry

abbrev pub entry_in : Option (List (Option Binder)) → ℕ → Option Binder
entry_in None item = None
entry_in (Some entries) item = entry_of (slice_get entries item)

-- what a lexeme is bound to
abbrev pub binder_at : List (List (Option Binder)) → Spot → Option Binder
binder_at modules spot = entry_in (slice_get modules spot.«module») spot.item

-- the numbers with that of the old lexeme set to its number in the draft, if it is kept
abbrev pub numbered : List (Option ℕ) → ℕ → Option ℕ → List (Option ℕ)
numbered numbers number None = numbers
numbered numbers number (Some item) = if nat_lt item (length numbers) then set numbers item (Some number) else numbers

abbrev pub numbered_by : List (Option ℕ) → ℕ → List Drafted → List (Option ℕ)
numbered_by numbers number [] = numbers
numbered_by numbers number (drafted ∷ draft) = numbered_by (numbered numbers number (kept_number drafted)) (number + 1) draft

-- of each of so many old lexemes its number in the draft
abbrev pub target_numbers : ℕ → List Drafted → List (Option ℕ)
target_numbers lexemes draft = numbered_by (replicate lexemes None) 0 draft

abbrev pub is_of : Draft → ℕ → Bool
is_of draft «module» = draft.«module» == «module»

-- the drafts, which are in the order of the modules, behind that of the module, if it has one
abbrev pub drafts_behind : List Draft → ℕ → List Draft
drafts_behind [] «module» = []
drafts_behind (draft ∷ drafts) «module» = if is_of draft «module» then drafts else draft ∷ drafts

-- the numbers of a module that has a draft
abbrev pub numbers_in : ℕ → List Draft → ℕ → Option (List (Option ℕ))
numbers_in «module» [] lexemes = None
numbers_in «module» (draft ∷ drafts) lexemes = if is_of draft «module» then Some (target_numbers lexemes draft.lexemes) else None

abbrev pub targets_from : ℕ → List Draft → List (List (Option Binder)) → List (Option (List (Option ℕ)))
targets_from «module» drafts [] = []
targets_from «module» drafts (entries ∷ old) =
    numbers_in «module» drafts (length entries) ∷ targets_from («module» + 1) (drafts_behind drafts «module») old

abbrev pub number_at : Option (Option ℕ) → Option ℕ
number_at None = None
number_at (Some number) = number

abbrev pub in_module : ℕ → Option ℕ → Option Spot
in_module «module» None = None
in_module «module» (Some item) = Some record { «module» = «module»; item = item }

abbrev pub target_by : Spot → Option (Option (List (Option ℕ))) → Option Spot
target_by spot None = Some spot
target_by spot (Some None) = Some spot
target_by spot (Some (Some numbers)) = in_module spot.«module» (number_at (slice_get numbers spot.item))

-- where an old lexeme stands in the target
abbrev pub target_spot : List (Option (List (Option ℕ))) → Spot → Option Spot
target_spot targets spot = target_by spot (slice_get targets spot.«module»)

abbrev pub is_spot : Option Spot → Spot → Bool
is_spot None new = false
is_spot (Some spot) new = if spot.«module» == new.«module» then spot.item == new.item else false

-- the new binder is the image of the old one
abbrev pub is_image : List (Option (List (Option ℕ))) → List (Entity × Entity) → Binder → Binder → Bool
is_image targets pairs (Binder.Global old) (Binder.Global new) = same_entity (partner pairs old) new
is_image targets pairs (Binder.Global old) (Binder.Local new) = false
is_image targets pairs (Binder.Local old) (Binder.Global new) = false
is_image targets pairs (Binder.Local old) (Binder.Local new) = is_spot (target_spot targets old) new

abbrev pub has_image : List (Option (List (Option ℕ))) → List (Entity × Entity) → Binder → Option Binder → Bool
has_image targets pairs old None = false
has_image targets pairs old (Some new) = is_image targets pairs old new

-- What lexemes are held against: where those of the old text stand in the target, which things have others in their
-- place, what is bound to what before the step and in the target, and what names are bound to beside that.
pub record Judged : Type 0 where
  pub targets : List (Option (List (Option ℕ)))
  pub pairs : List (Entity × Entity)
  pub old : List (List (Option Binder))
  pub new : List (List (Option Binder))
  pub also : List (List (Option Binder))

abbrev pub judged : List (Option (List (Option ℕ))) → List (Entity × Entity) → List (List (Option Binder)) → List (List (Option Binder)) → List (List (Option Binder)) → Judged
judged targets pairs old new also = record { targets = targets; pairs = pairs; old = old; new = new; also = also }

abbrev pub meant_by : Judged → Spot → Option Binder → Bool
meant_by judged spot None = true
meant_by judged spot (Some old) =
    if has_image judged.targets judged.pairs old (binder_at judged.new spot) then true
    else has_image judged.targets judged.pairs old (binder_at judged.also spot)

-- the lexeme is bound to the image of its old binder; for one that had none nothing is meant
abbrev pub is_meant : Judged → Rebound → Bool
is_meant judged lexeme = meant_by judged lexeme.new (binder_at judged.old lexeme.old)

abbrev pub lexeme_at : ℕ → ℕ → ℕ → Rebound
lexeme_at «module» number item =
    record { old = record { «module» = «module»; item = number }; new = record { «module» = «module»; item = item } }

abbrev pub is_kept_as_meant : Judged → ℕ → Option ℕ → ℕ → Bool
is_kept_as_meant judged «module» None item = true
is_kept_as_meant judged «module» (Some number) item = is_meant judged (lexeme_at «module» number item)

abbrev pub shown : ℕ → Option ℕ → ℕ → Option Rebound
shown «module» None item = None
shown «module» (Some number) item = Some (lexeme_at «module» number item)

-- the first lexeme of a module with a draft that isn't bound as meant
abbrev pub first_in_draft : Judged → ℕ → ℕ → List Drafted → Option Rebound
first_in_draft judged «module» item [] = None
first_in_draft judged «module» item (drafted ∷ draft) =
    if is_kept_as_meant judged «module» (kept_number drafted) item
    then first_in_draft judged «module» (item + 1) draft
    else shown «module» (kept_number drafted) item

-- the same in a module that no edit changes, for the entries of its lexemes
abbrev pub first_in_place : Judged → ℕ → ℕ → List (Option Binder) → Option Rebound
first_in_place judged «module» item [] = None
first_in_place judged «module» item (entry ∷ entries) =
    if is_meant judged (lexeme_at «module» item item)
    then first_in_place judged «module» (item + 1) entries
    else Some (lexeme_at «module» item item)

abbrev pub first_in_module : Judged → ℕ → List Draft → List (Option Binder) → Option Rebound
first_in_module judged «module» [] entries = first_in_place judged «module» 0 entries
first_in_module judged «module» (draft ∷ drafts) entries =
    if is_of draft «module» then first_in_draft judged «module» 0 draft.lexemes else first_in_place judged «module» 0 entries

abbrev pub or_else : Option Rebound → Option Rebound → Option Rebound
or_else None next = next
or_else (Some found) next = Some found

abbrev pub first_from : Judged → ℕ → List Draft → List (List (Option Binder)) → Option Rebound
first_from judged «module» drafts [] = None
first_from judged «module» drafts (entries ∷ new) =
    or_else (first_in_module judged «module» drafts entries) (first_from judged («module» + 1) (drafts_behind drafts «module») new)

-- the first kept lexeme, in the order of the target, that isn't bound to the image of its old binder
abbrev pub first_rebound : List Draft → List (Entity × Entity) → List (List (Option Binder)) → List (List (Option Binder)) → List (List (Option Binder)) → Option Rebound
first_rebound drafts pairs old new also = first_from (judged (targets_from 0 drafts old) pairs old new also) 0 drafts new
