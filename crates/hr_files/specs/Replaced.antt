-- Files that change, and what becomes of them where they are replaced one after another.
use Rattle.std.specs.Prelude.{ℕ, ◌+◌, ◌<◌, List, [], ◌∷◌, ◌++◌, length, Option, Some, None, if◌then◌else◌, slice_get, slice_index_or}
use Rattle.std.specs.Str.{bytes_eq}
use Rattle.hr_shelf.specs.Outside.{Files, IsReady, replaced}
use Rattle.hr_files.specs.declared.replacing.Change.{Change}

-- the name of a change's file
abbrev pub name_of : List (List ℕ) → Change → List ℕ
name_of names change = slice_index_or names change.file []

-- the files after these changes, one after another
abbrev pub after_changes : List (List ℕ) → Option Files → List Change → Option Files
after_changes names told [] = told
after_changes names told (change ∷ rest) = after_changes names (replaced told (name_of names change) change.bytes) rest

-- a change of a file among these, which is ready
abbrev pub IsReadyChange : List (List ℕ) → List (List ℕ) → Change → Type 0
IsReadyChange ready names change = (change.file < length names) × IsReady ready (name_of names change)

-- the file of this number changes where its new text differs
abbrev pub change_at : ℕ → List ℕ → Option (List ℕ) → List Change
change_at file old None = []
change_at file old (Some new) = if bytes_eq old new then [] else record { file = file; bytes = new } ∷ []

-- the files from this number on whose texts differ, with their new texts
abbrev pub changes_from : List (List ℕ) → ℕ → List (List ℕ) → List Change
changes_from news file [] = []
changes_from news file (old ∷ olds) = change_at file old (slice_get news file) ++ changes_from news (file + 1) olds
