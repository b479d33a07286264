-- What each part of a run says of the run's end, whatever is known of what came before.
use Rattle.std.specs.Prelude.{◌≡◌, ◌≤◌, ◌+◌, ℕ, true, false, List, [], ◌++◌, length, map, slice_index_or, take}
use Rattle.hr_shelf.specs.Outside.{Store, Output}
use Rattle.hr_files.specs.Read.{IsUnread, OnlyReads}
use Rattle.hr_files.specs.RolledBack.{RollsBack, RoseBy}
use Rattle.hr_files.specs.declared.reading.Unread.{Unread}
use Rattle.hr_files.specs.declared.replacing.Change.{Change}
use Rattle.hr_script.specs.declared.command.Command.{Command}
use Rattle.hr_words.specs.Words.{Request}
use Rattle.hare.specs.declared.script.Unscripted.{Unscripted}
use Rattle.hare.specs.declared.status.Status.{Status}
use Rattle.hare.specs.Ends.{AreFew, AreGood, Ends, HasRun, IsAsked, IsScripted, reads}
use Rattle.hare.specs.Outsides.{IsKept, outside}
use Rattle.hare.specs.Report.{write_fault}
use Rattle.hare.specs.Scripts.{IsUnscripted}

-- a run of good words, its files being few or many
abbrev pub RunsAny : Request → Store → Output → Store → Output → Status → Type 0
RunsAny request store output next_store next_output status =
    (words : List (List ℕ)) → AreGood words request → Ends words (outside store output) (outside next_store next_output) status

-- a run with few files
abbrev pub RunsFew : Request → Store → Output → Store → Output → Status → Type 0
RunsFew request store output next_store next_output status =
    (words : List (List ℕ)) → AreFew words request → Ends words (outside store output) (outside next_store next_output) status

-- a run whose script was asked for, where this was the answer
abbrev pub RunsUnscripted : Request → Unscripted → Output → Output → Status → Type 0
RunsUnscripted request unscripted output next_output status =
    (words : List (List ℕ)) (start now : Store) → AreFew words request → IsUnscripted request.script start now unscripted
    → IsKept (reads request) start now → Ends words (outside start output) (outside now next_output) status

-- a run that goes on from this shelf, where the script was read
abbrev pub RunsScript : Request → List Command → Store → Output → Store → Output → Status → Type 0
RunsScript request commands store output next_store next_output status =
    (words : List (List ℕ)) (start : Store) → IsScripted words start request commands → OnlyReads start store → store.calls ≤ start.calls + 1
    → Ends words (outside start output) (outside next_store next_output) status

-- a run whose files were asked for, where this was the answer
abbrev pub RunsUnread : Request → List Command → Unread → Output → Output → Status → Type 0
RunsUnread request commands unread output next_output status =
    (words : List (List ℕ)) (start now : Store) → IsScripted words start request commands → IsUnread request.files start now unread
    → IsKept (reads request) start now → Ends words (outside start output) (outside now next_output) status

-- a run that goes on from this shelf, where the files were read
abbrev pub RunsOn : Request → List Command → List (List ℕ) → Store → Output → Store → Output → Status → Type 0
RunsOn request commands olds store output next_store next_output status =
    (words : List (List ℕ)) (start : Store) → IsAsked words start request commands olds → IsKept (reads request) start store
    → Ends words (outside start output) (outside next_store next_output) status

-- a run that ended at a refused step
abbrev pub RunsStopped : List ℕ → Output → Output → Status → Type 0
RunsStopped told output next_output status =
    (words : List (List ℕ)) (start now : Store) (request : Request) (olds news : List (List ℕ)) → HasRun words start request olds news true told
    → IsKept (reads request) start now → Ends words (outside start output) (outside now next_output) status

-- a run that goes on from this shelf, where all commands ran
abbrev pub RunsOut : Request → List (List ℕ) → List (List ℕ) → List ℕ → Store → Output → Store → Output → Status → Type 0
RunsOut request olds news told store output next_store next_output status =
    (words : List (List ℕ)) (start : Store) → HasRun words start request olds news false told → IsKept (reads request) start store
    → Ends words (outside start output) (outside next_store next_output) status

-- the changes before the refused one were taken back, and this is the report behind the lines of the commands
pub record IsGivenBack (names : List (List ℕ)) (back : List Change) (refused : ℕ) (lines : List ℕ) (before after : Store) (text : List ℕ) : Type 0 where
  pub stayed : List ℕ
  pub told : RollsBack names before.told (take refused back) stayed after.told
  pub replaces : RoseBy (length stayed) before.replace_faults after.replace_faults
  pub calls : after.calls ≤ before.calls + length back
  pub text_is : text ≡ lines ++ write_fault (slice_index_or names (slice_index_or (map (λ change. change.file) back) refused 0) []) (map (λ file. slice_index_or names file []) stayed)
