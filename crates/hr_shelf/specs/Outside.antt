-- What a shelf of files and a sink mean: contents that may be told, and counts of faults and calls.
use Rattle.std.specs.Prelude.{◌≡◌, ℕ, ◌+◌, ◌-◌, ◌^◌, ◌<◌, ◌≤◌, List, ◌++◌, length, min, Option, Some, None, IfSome, Contains}
use Rattle.std.specs.Option.{option_map}
use Rattle.std.specs.Ordering.{nat_cmp}
use Rattle.std.specs.Cmp.Lexicographic.{slice_cmp}
use Rattle.std.specs.FinMap.{FinMap, get, insert}
use Rattle.hr_shelf.specs.declared.outside.ReadError.{ReadError}
use Rattle.hr_shelf.specs.declared.outside.ReadError.TheVariants.{Absent, TooLong, Failed, Memory}

-- the files of a shelf: bytes under the bytes of names
abbrev pub Files : Type 0
Files = FinMap (slice_cmp nat_cmp) (List ℕ)

-- a shelf: its files, where it tells them; how often a read of each name was refused (one count may serve all names),
-- and how often a replace was; the names that are ready; and the calls, if it counts them
pub record Store : Type 0 where
  pub told : Option Files
  pub read_faults : List ℕ → ℕ
  pub replace_faults : ℕ
  pub ready : List (List ℕ)
  pub calls : ℕ

-- a sink: what was written, where it tells that; how often a piece was refused; and the pieces offered, if it counts them
pub record Output : Type 0 where
  pub written : Option (List ℕ)
  pub faults : ℕ
  pub pieces : ℕ

-- a count of faults has risen; one that stands at its type's end counts as risen by any number
abbrev pub Rose : ℕ → ℕ → Type 0
Rose before now = min (before + 1) (2 ^ 64 - 1) ≤ now

-- a read gave what a told shelf holds for the name
abbrev pub HasBytes : Option Files → List ℕ → List ℕ → Type 0
HasBytes told name bytes = IfSome told (λ files. get files name ≡ Some bytes)

-- a told shelf holds more bytes for the name than the limit
abbrev pub HoldsMore : Files → List ℕ → ℕ → Type 0
HoldsMore files name limit = (bytes : List ℕ) × (get files name ≡ Some bytes) × (limit < length bytes)

-- of a shelf that tells its contents the first fact, of another one the second
abbrev pub ToldOr : Option Files → (Files → Type 0) → Type 0 → Type 0
ToldOr None of_files otherwise = otherwise
ToldOr (Some files) of_files otherwise = of_files files

-- when a read may be refused with this error; `risen` says that the count of read faults rose
abbrev pub MayRefuse : ReadError → Option Files → List ℕ → ℕ → Type 0 → Type 0
MayRefuse Absent told name limit risen = ToldOr told (λ files. get files name ≡ None) risen
MayRefuse TooLong told name limit risen = ToldOr told (λ files. HoldsMore files name limit) risen
MayRefuse Failed told name limit risen = risen
MayRefuse Memory told name limit risen = Unit {0}

-- no count of read faults has fallen
abbrev pub NoneFalls : (List ℕ → ℕ) → (List ℕ → ℕ) → Type 0
NoneFalls before now = (name : List ℕ) → before name ≤ now name

-- the files after the bytes of a name were replaced
abbrev pub replaced : Option Files → List ℕ → List ℕ → Option Files
replaced told name bytes = option_map (λ files. insert files name bytes) told

-- a name of which a replace is ready
abbrev pub IsReady : List (List ℕ) → List ℕ → Type 0
IsReady ready name = Contains ready name

-- each ready name is ready still
abbrev pub StaysReady : List (List ℕ) → List (List ℕ) → Type 0
StaysReady before now = (name : List ℕ) → IsReady before name → IsReady now name

-- what a sink holds after a piece
abbrev pub appended : Option (List ℕ) → List ℕ → Option (List ℕ)
appended written piece = option_map (λ bytes. bytes ++ piece) written

-- what a sink holds after a refused piece: what was appended is a prefix of the piece
abbrev pub AppendsPrefix : Option (List ℕ) → Option (List ℕ) → List ℕ → Type 0
AppendsPrefix before now piece = (front : List ℕ) × (back : List ℕ) × (piece ≡ front ++ back) × (now ≡ appended before front)
