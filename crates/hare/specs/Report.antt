-- The report of a run, as bytes: a line for each command that ran, then what changed or what went wrong.
use Rattle.std.specs.Prelude.{ℕ, ◌+◌, true, false, List, [], ◌∷◌, ◌++◌, codes, length, Option, unwrap_or}
use Rattle.std.specs.Fmt.{decimal}
use Rattle.std.specs.Option.{option_map}
use Rattle.hr_check.specs.Numbers.{load_number}
use Rattle.hr_check.specs.declared.error.LoadError.{LoadError}
use Rattle.hr_report.specs.Projects.{load_fields, refusal_text}
use Rattle.hr_report.specs.Steps.{why_fields}
use Rattle.hr_script.specs.declared.command.Command.{Command}
use Rattle.hr_script.specs.Language.{verb_of, verb_word}
use Rattle.hr_session.specs.declared.line.Line.{Line}
use Rattle.hr_session.specs.declared.line.Line.TheVariants.{Good, Refused}
use Rattle.hr_session.specs.declared.line.Report.{Report}
use Rattle.hr_session.specs.declared.line.Report.TheVariants.{Done, Undone}
use Rattle.hr_why.specs.Numbers.{number_of}
use Rattle.hr_why.specs.declared.why.Why.{Why}

-- a line: the text and a linefeed (10)
abbrev pub line : List ℕ → List ℕ
line text = text ++ (10 ∷ [])

abbrev pub lines : List (List ℕ) → List ℕ
lines [] = []
lines (text ∷ texts) = line text ++ lines texts

abbrev pub bad_words : List ℕ
bad_words = line (codes "words: refused")

-- a script whose line of this number is not of the language
abbrev pub bad_script : ℕ → List ℕ
bad_script number = line (codes "script: bad line " ++ decimal number)

-- why the texts of files with these names are no project; nothing for want of memory
abbrev pub not_accepted : List (List ℕ) → LoadError → Option (List ℕ)
not_accepted files error = option_map (λ number. line (codes "not accepted: " ++ refusal_text number (load_fields files error))) (load_number error)

abbrev pub read_fault : List ℕ → List ℕ
read_fault file = line (codes "read fault: " ++ file)

-- what passes a limit: a file, `modules`, `script`, `steps` or `project`
abbrev pub over_limit : List ℕ → List ℕ
over_limit what = line (codes "over limit: " ++ what)

-- the number of a refusal and its fields; there is none for want of memory
abbrev pub refusal : Why → Option (List ℕ)
refusal why = option_map (λ number. refusal_text number (why_fields why)) (number_of why)

-- what became of a command that was not refused
abbrev pub end_of_good : Report → List ℕ
end_of_good Done = codes "done"
end_of_good (Undone true) = codes "done"
end_of_good (Undone false) = codes "nothing"

-- what became of a command
abbrev pub end_of : Line Why → List ℕ
end_of (Good report) = end_of_good report
end_of (Refused why) = codes "refused " ++ unwrap_or (refusal why) []

-- the line of a command, with its number, a blank (32), its word and what became of it
abbrev pub step_line : ℕ → Command → Line Why → List ℕ
step_line number command became = line (decimal number ++ (32 ∷ verb_word (verb_of command)) ++ (codes ": " ++ end_of became))

-- the lines of the commands that ran, from this number on
abbrev pub step_lines : ℕ → List Command → List (Line Why) → List ℕ
step_lines number [] became = []
step_lines number (command ∷ commands) [] = []
step_lines number (command ∷ commands) (became ∷ others) = step_line number command became ++ step_lines (number + 1) commands others

-- behind the lines of the commands: the files that changed, by their names
abbrev pub changed : List (List ℕ) → List ℕ
changed names = line (codes "changed " ++ decimal (length names)) ++ lines names

abbrev pub nothing_changed : List ℕ
nothing_changed = line (codes "changed 0")

abbrev pub write_line : List ℕ → List ℕ
write_line file = line (codes "write fault: " ++ file)

abbrev pub stayed_line : List ℕ → List ℕ
stayed_line file = line (codes "not rolled back: " ++ file)

abbrev pub stayed_lines : List (List ℕ) → List ℕ
stayed_lines [] = []
stayed_lines (file ∷ files) = stayed_line file ++ stayed_lines files

-- what became of the files that were new: each was given its old bytes, but for these
abbrev pub back_lines : List (List ℕ) → List ℕ
back_lines [] = line (codes "rolled back")
back_lines (file ∷ files) = stayed_lines (file ∷ files)

-- behind the lines of the commands: the file that could not be replaced, and those that then stayed new
abbrev pub write_fault : List ℕ → List (List ℕ) → List ℕ
write_fault file stayed = write_line file ++ back_lines stayed
