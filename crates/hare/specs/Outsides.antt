-- What a run sees and changes outside: a shelf and a sink, and what becomes of them.
use Rattle.std.specs.Prelude.{◌≡◌, ℕ, ◌+◌, ◌≤◌, ◌<◌, List, length, take}
use Rattle.hr_shelf.specs.Outside.{Store, Output, Rose, appended, AppendsPrefix}
use Rattle.hr_files.specs.Replaced.{after_changes}
use Rattle.hr_files.specs.RolledBack.{RollsBack, RoseBy, backs}
use Rattle.hr_files.specs.declared.replacing.Change.{Change}

pub record Outside : Type 0 where
  pub store : Store
  pub output : Output

abbrev pub outside : Store → Output → Outside
outside store output = record { store = store; output = output }

-- so many calls at most, each a read: no file and no count of replaces changed
pub record IsKept (reads : ℕ) (before after : Store) : Type 0 where
  pub told : after.told ≡ before.told
  pub replaces : after.replace_faults ≡ before.replace_faults
  pub calls : after.calls ≤ before.calls + reads

-- so many reads and a replace for each change at most: the files of the changes have their new bytes, and no replace failed
pub record IsReplaced (reads : ℕ) (names : List (List ℕ)) (changes : List Change) (before after : Store) : Type 0 where
  pub told : after.told ≡ after_changes names before.told changes
  pub replaces : after.replace_faults ≡ before.replace_faults
  pub calls : after.calls ≤ before.calls + (reads + length changes)

-- So many reads, a replace for each change, and one back for each at most: the replace of this number failed. The files
-- before it, which were new, were given their old texts, the last one first, but for those of these numbers, each of which
-- was refused once more; the others are as they were.
pub record IsTakenBack (reads : ℕ) (names : List (List ℕ)) (olds : List (List ℕ)) (changes : List Change) (refused : ℕ) (stayed : List ℕ) (before after : Store) : Type 0 where
  pub within : refused < length changes
  pub told : RollsBack names (after_changes names before.told (take refused changes)) (take refused (backs olds changes)) stayed after.told
  pub replaces : RoseBy (length stayed + 1) before.replace_faults after.replace_faults
  pub calls : after.calls ≤ before.calls + (reads + (length changes + length changes))

-- one piece at most: the sink took the report, and no write failed
pub record IsWritten (report : List ℕ) (before after : Output) : Type 0 where
  pub written : after.written ≡ appended before.written report
  pub faults : after.faults ≡ before.faults
  pub pieces : after.pieces ≤ before.pieces + 1

-- one piece at most: the write failed, and the sink took no more than a front of the report
pub record IsBrokenOff (report : List ℕ) (before after : Output) : Type 0 where
  pub written : AppendsPrefix before.written after.written report
  pub faults : Rose before.faults after.faults
  pub pieces : after.pieces ≤ before.pieces + 1
