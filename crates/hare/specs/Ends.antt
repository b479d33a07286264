-- How a run ends: what each status says of the words, of the script, of the files and of the report.
use Rattle.std.specs.Prelude.{◌≡◌, ◌≤◌, ◌<◌, ◌+◌, ℕ, Bool, true, false, List, [], ◌++◌, length, map, codes, slice_index_or, Some, None, Result, ◌⊎◌}
use Rattle.std.specs.Result.{result_unwrap_or}
use Rattle.hr_shelf.specs.Outside.{HasBytes, Output, Store}
use Rattle.hr_files.specs.Read.{AreRead, IsUnread, IsUnreadFile}
use Rattle.hr_files.specs.Replaced.{changes_from, name_of}
use Rattle.hr_files.specs.declared.reading.Unread.{Unread}
use Rattle.hr_files.specs.declared.replacing.Change.{Change}
use Rattle.hr_check.specs.Projects.{modules_of, texts_of}
use Rattle.hr_check.specs.declared.error.LoadError.{LoadError}
use Rattle.hr_check.specs.declared.project.Project.{Project}
use Rattle.hr_script.specs.Laws.{IsScriptRefusal}
use Rattle.hr_script.specs.declared.command.Command.{Command}
use Rattle.hr_script.specs.declared.error.ScriptError.TheVariants as bad
use Rattle.hr_session.specs.Runs.{Runs, State}
use Rattle.hr_session.specs.declared.line.Line.{Line}
use Rattle.hr_tree_items.specs.Texts.{AreTextsOf}
use Rattle.hr_why.specs.declared.why.Why.{Why}
use Rattle.hr_words.specs.Words.{Request, request_of}
use Rattle.hare.specs.declared.status.Status.{Status}
use Rattle.hare.specs.declared.status.Status.TheVariants.{Done, StepRefused, BadWords, BadScript, NotAccepted, ReadFault, WriteFault, ReportFault, Memory, OverLimit}
use Rattle.hare.specs.Outsides.{Outside, IsKept, IsReplaced, IsTakenBack, IsWritten, IsBrokenOff}
use Rattle.hare.specs.Refactorings.{Takes, Refuses, is_memory}
use Rattle.hare.specs.Scripts.{IsScript}
use Rattle.hare.specs.Report as report

-- the files of a project, at most
abbrev pub files_limit : ℕ
files_limit = 200

-- the words ask for this
abbrev pub AreGood : List (List ℕ) → Request → Type 0
AreGood words request = request_of words ≡ Some request

-- the words ask for this, with so few files
abbrev pub AreFew : List (List ℕ) → Request → Type 0
AreFew words request = AreGood words request × (length request.files ≤ files_limit)

-- the script is asked for, and then each file
abbrev pub reads : Request → ℕ
reads request = length request.files + 1

-- the words ask for this, and the script is these commands
pub record IsScripted (words : List (List ℕ)) (before : Store) (request : Request) (commands : List Command) : Type 0 where
  pub few : AreFew words request
  pub script : IsScript request.script before commands

-- and the files have these texts
pub record IsAsked (words : List (List ℕ)) (before : Store) (request : Request) (commands : List Command) (olds : List (List ℕ)) : Type 0 where
  pub scripted : IsScripted words before request commands
  pub files : AreRead request.files before olds

-- The project of the old texts was led through the commands, one after another: each step that is told as done is one that is
-- taken, and `undo` brings back the very project from before. These are the lines, and the texts of the last project.
pub record IsRun (keeps_going : Bool) (commands : List Command) (olds news : List (List ℕ)) (lines : List (Line Why)) (stopped : Bool) : Type 0 where
  pub first : Project
  pub last : State Project
  pub old : texts_of first ≡ olds
  pub read : AreTextsOf (texts_of first) (modules_of first)
  pub new : texts_of last.1 ≡ news
  pub runs : Runs Takes Refuses is_memory keeps_going ([], first) commands last lines stopped

-- a run that was asked for, and the text of its lines
pub record HasRun (words : List (List ℕ)) (before : Store) (request : Request) (olds news : List (List ℕ)) (stopped : Bool) (told : List ℕ) : Type 0 where
  pub commands : List Command
  pub lines : List (Line Why)
  pub asked : IsAsked words before request commands olds
  pub run : IsRun request.keep_going commands olds news lines stopped
  pub text : told ≡ report.step_lines 1 commands lines

abbrev pub changes : List (List ℕ) → List (List ℕ) → List Change
changes olds news = changes_from news 0 olds

-- the names of the files that change
abbrev pub changed : Request → List (List ℕ) → List (List ℕ) → List (List ℕ)
changed request olds news = map (λ change. name_of request.files change) (changes olds news)

-- what became of the files of a run that ended: they stay in a dry run, else those that change have their new bytes
abbrev pub AreDone : Bool → Request → List (List ℕ) → List (List ℕ) → Store → Store → Type 0
AreDone true request olds news before after = IsKept (reads request) before after
AreDone false request olds news before after = IsReplaced (reads request) request.files (changes olds news) before after

-- the names of files by their numbers
abbrev pub names_of : Request → List ℕ → List (List ℕ)
names_of request numbers = map (λ file. slice_index_or request.files file []) numbers

-- what was not read, by its name: the script, or else a file
abbrev pub IsMissing : List (List ℕ) → Request → Store → Store → List ℕ → Type 0
IsMissing words request before after name =
    (AreFew words request × IsUnreadFile 0 request.script before after (Unread.Missing 0) × (name ≡ request.script))
    ⊎ ((commands : List Command) × (file : ℕ) × IsScripted words before request commands
    × IsUnread request.files before after (Unread.Missing file) × (name ≡ slice_index_or request.files file []))

-- what passes its limit: the number of files, the script, the number of its commands, a file, or all files together
abbrev pub IsOver : List (List ℕ) → Request → Store → Store → List ℕ → Type 0
IsOver words request before after what =
    (AreGood words request × (files_limit < length request.files) × (what ≡ codes "modules"))
    ⊎ ((AreFew words request × IsUnreadFile 0 request.script before after (Unread.TooLong 0) × (what ≡ codes "script"))
    ⊎ (((bytes : List ℕ) × AreFew words request × HasBytes before.told request.script bytes × IsScriptRefusal bytes bad.TooManySteps × (what ≡ codes "steps"))
    ⊎ (((commands : List Command) × (file : ℕ) × IsScripted words before request commands
    × IsUnread request.files before after (Unread.TooLong file) × (what ≡ slice_index_or request.files file []))
    ⊎ ((commands : List Command) × IsScripted words before request commands × IsUnread request.files before after Unread.TooLongTogether × (what ≡ codes "project")))))

-- what each status says, where the report is written whole, of the words, of the script, of the files, of the causes and of
-- the report's text; a status that says nothing of a report doesn't come so
abbrev pub EndsWith : List (List ℕ) → Store → Store → Status → List ℕ → Type 0
EndsWith words before after Done text =
    (request : Request) × (olds news : List (List ℕ)) × (told : List ℕ) × HasRun words before request olds news false told
    × AreDone request.dry_run request olds news before after × (text ≡ told ++ report.changed (changed request olds news))
EndsWith words before after StepRefused text =
    (request : Request) × (olds news : List (List ℕ)) × (told : List ℕ) × HasRun words before request olds news true told
    × IsKept (reads request) before after × (text ≡ told ++ report.nothing_changed)
EndsWith words before after BadWords text =
    (request_of words ≡ None) × (after ≡ before) × (text ≡ report.bad_words)
EndsWith words before after BadScript text =
    (request : Request) × (bytes : List ℕ) × (number : ℕ) × AreFew words request × HasBytes before.told request.script bytes
    × IsScriptRefusal bytes (bad.BadLine number) × IsKept (reads request) before after × (text ≡ report.bad_script number)
EndsWith words before after NotAccepted text =
    (request : Request) × (commands : List Command) × (olds : List (List ℕ)) × (error : LoadError) × IsAsked words before request commands olds
    × IsKept (reads request) before after × (Some text ≡ report.not_accepted request.files error)
EndsWith words before after ReadFault text =
    (request : Request) × (name : List ℕ) × IsMissing words request before after name
    × IsKept (reads request) before after × (text ≡ report.read_fault name)
EndsWith words before after WriteFault text =
    (request : Request) × (olds news : List (List ℕ)) × (told : List ℕ) × (refused : ℕ) × (stayed : List ℕ)
    × HasRun words before request olds news false told × (request.dry_run ≡ false)
    × IsTakenBack (reads request) request.files olds (changes olds news) refused stayed before after
    × (text ≡ told ++ report.write_fault (slice_index_or (changed request olds news) refused []) (names_of request stayed))
EndsWith words before after ReportFault text = ⊥
EndsWith words before after Memory text = ⊥
EndsWith words before after OverLimit text =
    (request : Request) × (what : List ℕ) × IsOver words request before after what
    × IsKept (reads request) before after × (text ≡ report.over_limit what)

-- a status that is told by its report
abbrev pub Told : List (List ℕ) → Outside → Outside → Status → Type 0
Told words before after status =
    (text : List ℕ) × EndsWith words before.store after.store status text × IsWritten text before.output after.output

-- what each status says of a run: with 7 the files are those of the status in whose place it stands, and the sink
-- took no more than a front of that one's report; with 8 no file changed, and the sink was offered nothing
abbrev pub Ends : List (List ℕ) → Outside → Outside → Status → Type 0
Ends words before after ReportFault =
    (status : Status) × (text : List ℕ) × EndsWith words before.store after.store status text × IsBrokenOff text before.output after.output
Ends words before after Memory = (after.store.told ≡ before.store.told) × (after.output ≡ before.output)
Ends words before after status = Told words before after status

-- the status of an answer: that of want of memory where there is none
abbrev pub status_of : {E : Type 0} → Result Status E → Status
status_of answer = result_unwrap_or answer Memory

-- a report was offered to the sink in one piece: the sink took it, and the status stands, or refused it
abbrev pub IsOffered : List ℕ → Status → Output → Output → Status → Type 0
IsOffered text status before after result =
    ((result ≡ status) × IsWritten text before after) ⊎ ((result ≡ ReportFault) × IsBrokenOff text before after)
