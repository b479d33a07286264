-- Files that get their old bytes again, from the last change to the first, whatever becomes of each.
use Rattle.std.specs.Prelude.{◌≡◌, ℕ, ◌+◌, ◌-◌, ◌^◌, ◌≤◌, List, [], ◌∷◌, ◌++◌, Option, map, min, slice_index_or}
use Rattle.hr_shelf.specs.Outside.{Files, replaced}
use Rattle.hr_files.specs.Replaced.{name_of}
use Rattle.hr_files.specs.declared.replacing.Change.{Change}

-- a count of faults has risen by so many; one that stands at its type's end counts as risen by any number
abbrev pub RoseBy : ℕ → ℕ → ℕ → Type 0
RoseBy times before now = min (before + times) (2 ^ 64 - 1) ≤ now

-- the changes that give the files of these changes their old texts again
abbrev pub backs : List (List ℕ) → List Change → List Change
backs olds changes = map (λ change. record { file = change.file; bytes = slice_index_or olds change.file [] }) changes

-- each change was tried, the last one first: the files then, and the numbers of those that were refused, in the order of the
-- tries
pub data RollsBack (names : List (List ℕ)) : Option Files → List Change → List ℕ → Option Files → Type 0 where
  nothing : (told : Option Files) → RollsBack names told [] [] told
  back : (told after : Option Files) (all front : List Change) (change : Change) (stayed : List ℕ) → all ≡ front ++ change ∷ []
      → RollsBack names (replaced told (name_of names change) change.bytes) front stayed after → RollsBack names told all stayed after
  stays : (told after : Option Files) (all front : List Change) (change : Change) (stayed : List ℕ) → all ≡ front ++ change ∷ []
      → RollsBack names told front stayed after → RollsBack names told all (change.file ∷ stayed) after
