-- Files that are read or replaced one after another: what is known behind each.
use Rattle.std.proofs.Common.{◌≡◌, ◌≤◌, ◌+◌, ℕ, List, length, take, drop, All}
use Rattle.hr_base.specs.Limits.{module_limit}
use Rattle.hr_shelf.specs.Outside.{StaysReady, Store}
use Rattle.hr_files.specs.Read.{AreReady, HasTexts, OnlyReads, project_limit, total}
use Rattle.hr_files.specs.Replaced.{IsReadyChange, after_changes}
use Rattle.hr_files.specs.declared.replacing.Change.{Change}

-- the files up to this one were read, and are these texts
pub record Progress (names : List (List ℕ)) (before now : Store) (file : ℕ) (texts : List (List ℕ)) (sum : ℕ) : Type 0 where
  pub only : OnlyReads before now
  pub ready : AreReady now.ready (take file names)
  pub told : HasTexts before.told (take file names) texts
  pub each : All (λ text. length text ≤ module_limit) texts
  pub counted : sum ≡ total texts
  pub together : total texts ≤ project_limit
  pub count : length texts ≡ file
  pub within : file ≤ length names
  pub calls : now.calls ≤ before.calls + file

-- so many of the changes were made, and these are left
pub record Replacing (names : List (List ℕ)) (changes : List Change) (before now : Store) (done : ℕ) (left : List Change) : Type 0 where
  pub rest : drop done changes ≡ left
  pub count : done + length left ≡ length changes
  pub front : now.told ≡ after_changes names before.told (take done changes)
  pub whole : after_changes names now.told left ≡ after_changes names before.told changes
  pub ready : All (IsReadyChange now.ready names) left
  pub stays : StaysReady before.ready now.ready
  pub replaces : now.replace_faults ≡ before.replace_faults
  pub reads : now.read_faults ≡ before.read_faults
  pub calls : now.calls ≤ before.calls + done
