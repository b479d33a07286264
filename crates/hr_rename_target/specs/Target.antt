-- The target of a rename: the lexemes of a module, each where it stood, and every occurrence of the binder respelled.
use Rattle.std.specs.Prelude.{ℕ, ◌+◌, false, List, [], ◌∷◌, slice_get, Option, None, if◌then◌else◌}
use Rattle.hr_base.specs.declared.bind.Binder.{Binder}
use Rattle.hr_base.specs.declared.bind.Entity.{Entity}
use Rattle.hr_base.specs.declared.lexeme.Item.{Item}
use Rattle.hr_base.specs.declared.lexeme.Lexeme.{Lexeme}
use Rattle.hr_base.specs.declared.place.Spot.{Spot}
use Rattle.hr_draft.specs.declared.draft.Drafted.{Drafted}
use Rattle.hr_draft.specs.declared.draft.Origin.{Origin}
use Rattle.hr_tables.specs.Bindings.{is_bound_to}
use Rattle.hr_step.specs.Names.{binder_at}
use Rattle.hr_rename.specs.Spelling.{respelled}

-- a lexeme with this entry, in the target: an occurrence of the binder has the new text behind its qualifier, and any
-- other one stays
abbrev pub lexeme_of : Binder → List ℕ → Lexeme → Option Binder → Lexeme
lexeme_of binder new lexeme entry = if is_bound_to entry binder then respelled lexeme new else lexeme

abbrev pub drafted_at : Binder → List ℕ → List (List (Option Binder)) → Spot → Item → Drafted
drafted_at binder new bindings spot item =
    record { lexeme = lexeme_of binder new item.lexeme (binder_at bindings spot); origin = Origin.Kept spot; manner = None; first = false }

-- the target of a module's items, the first of which has the number
abbrev pub target_from : Binder → List ℕ → List (List (Option Binder)) → ℕ → ℕ → List Item → List Drafted
target_from binder new bindings «module» number [] = []
target_from binder new bindings «module» number (item ∷ items) =
    drafted_at binder new bindings (record { «module» = «module»; item = number }) item ∷ target_from binder new bindings «module» (number + 1) items

-- the thing under another name
abbrev pub named : Entity → List ℕ → Entity
named entity new = record { «module» = entity.«module»; space = entity.space; text = new }

-- a top-level thing has its place taken by the one of its new name
abbrev pub pairs_of : Binder → List ℕ → List (Entity × Entity)
pairs_of (Binder.Global entity) new = (entity, named entity new) ∷ []
pairs_of (Binder.Local spot) new = []
