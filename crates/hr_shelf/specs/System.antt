-- What is known of the shelf over the system's files: the names that are ready, and its counts.
use Rattle.std.specs.Prelude.{ℕ, if◌then◌else◌, List, [], ◌∷◌, ◌++◌, Result, Ok, Err}
use Rattle.std.specs.List.{list_any}
use Rattle.std.specs.Str.{bytes_eq}
use Rattle.hr_shelf.specs.Memory.{raised}
use Rattle.hr_shelf.specs.declared.outside.ReadError.{ReadError}

pub record FileState : Type 0 where
  pub ready : List (List ℕ)
  pub calls : ℕ
  pub read_faults : ℕ
  pub replace_faults : ℕ

-- the names with one more, each once
abbrev pub with_name : List (List ℕ) → List ℕ → List (List ℕ)
with_name names name = if list_any (bytes_eq name) names then names else names ++ name ∷ []

-- the shelf after a read of the name: each refusal is counted
abbrev pub after_read : {T : Type 0} → Result T ReadError → FileState → List ℕ → FileState
after_read (Ok bytes) shelf name = record shelf { calls = raised shelf.calls; ready = with_name shelf.ready name }
after_read (Err error) shelf name = record shelf { calls = raised shelf.calls; read_faults = raised shelf.read_faults }

-- a count of faults after a call that answered so
abbrev pub count_after : {T E : Type 0} → Result T E → ℕ → ℕ
count_after (Ok value) count = count
count_after (Err error) count = raised count

-- the shelf after a replace
abbrev pub after_replace : {T E : Type 0} → Result T E → FileState → FileState
after_replace result shelf = record shelf { calls = raised shelf.calls; replace_faults = count_after result shelf.replace_faults }

-- the standard output, by its counts
pub record StdState : Type 0 where
  pub faults : ℕ
  pub pieces : ℕ

-- it after a piece was offered
abbrev pub after_write : {T E : Type 0} → Result T E → StdState → StdState
after_write result out = record { faults = count_after result out.faults; pieces = raised out.pieces }
