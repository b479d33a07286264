-- Files that are read in the order of their names, each within a limit, and all together within another one.
use Rattle.std.specs.Prelude.{◌≡◌, ℕ, ◌≤◌, ◌<◌, List, [], length, map, take, All, Option, Some, None, IfSome, ◌⊎◌, slice_index_or}
use Rattle.std.specs.List.{sum_by}
use Rattle.std.specs.FinMap.{get}
use Rattle.hr_base.specs.Limits.{module_limit}
use Rattle.hr_shelf.specs.Outside.{Files, Store, HoldsMore, IsReady, NoneFalls, Rose, StaysReady, ToldOr}
use Rattle.hr_shelf.specs.declared.outside.ReadError.{ReadError}
use Rattle.hr_files.specs.declared.reading.Unread.{Unread}

-- the bytes of all modules together, at most
abbrev pub project_limit : ℕ
project_limit = 8388608

abbrev pub total : List (List ℕ) → ℕ
total texts = sum_by length texts

-- a told shelf has these texts under the names
abbrev pub HasTexts : Option Files → List (List ℕ) → List (List ℕ) → Type 0
HasTexts told names texts = IfSome told (λ files. map (λ name. get files name) names ≡ map Some texts)

-- reads alone: no file and no count of replaces changed, and no count of reads fell
pub record OnlyReads (before after : Store) : Type 0 where
  pub told : after.told ≡ before.told
  pub replaces : after.replace_faults ≡ before.replace_faults
  pub ready : StaysReady before.ready after.ready
  pub reads : NoneFalls before.read_faults after.read_faults

-- each name is ready
abbrev pub AreReady : List (List ℕ) → List (List ℕ) → Type 0
AreReady ready names = All (λ name. IsReady ready name) names

-- the texts of the files with these names, one for each, none of them too long, nor all together
pub record AreRead (names : List (List ℕ)) (before : Store) (texts : List (List ℕ)) : Type 0 where
  pub count : length texts ≡ length names
  pub told : HasTexts before.told names texts
  pub each : All (λ text. length text ≤ module_limit) texts
  pub together : total texts ≤ project_limit

-- the reads of the name were refused once more
abbrev pub ReadFailed : List ℕ → Store → Store → Type 0
ReadFailed name before after = Rose (before.read_faults name) (after.read_faults name)

-- what a refused read of the file of this number is told as
abbrev pub told_as : ℕ → ReadError → Unread
told_as file ReadError.Absent = Unread.Missing file
told_as file ReadError.Failed = Unread.Missing file
told_as file ReadError.TooLong = Unread.TooLong file
told_as file ReadError.Memory = Unread.Memory

-- why the file of this number and name was not read: it is missing or was refused, or it is too long
abbrev pub IsUnreadFile : ℕ → List ℕ → Store → Store → Unread → Type 0
IsUnreadFile file name before after (Unread.Missing number) =
    (number ≡ file) × ToldOr before.told (λ files. (get files name ≡ None) ⊎ ReadFailed name before after) (ReadFailed name before after)
IsUnreadFile file name before after (Unread.TooLong number) =
    (number ≡ file) × ToldOr before.told (λ files. HoldsMore files name module_limit) (ReadFailed name before after)
IsUnreadFile file name before after Unread.TooLongTogether = ⊥
IsUnreadFile file name before after Unread.Memory = Unit {0}

-- the file of this number among the names was not read
abbrev pub IsUnreadAt : List (List ℕ) → Store → Store → ℕ → Unread → Type 0
IsUnreadAt names before after file unread = (file < length names) × IsUnreadFile file (slice_index_or names file []) before after unread

-- why the files were not read: some file by its number, or those up to some name, which are too long together
abbrev pub IsUnread : List (List ℕ) → Store → Store → Unread → Type 0
IsUnread names before after (Unread.Missing file) = IsUnreadAt names before after file (Unread.Missing file)
IsUnread names before after (Unread.TooLong file) = IsUnreadAt names before after file (Unread.TooLong file)
IsUnread names before after Unread.TooLongTogether =
    (texts : List (List ℕ)) × HasTexts before.told (take (length texts) names) texts × (project_limit < total texts)
IsUnread names before after Unread.Memory = Unit {0}
