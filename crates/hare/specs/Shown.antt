-- What is borrowed, as the definitions have it.
use Rattle.std.specs.Prelude.{map}
use Rattle.std.specs.String.{string_bytes}
use Rattle.hr_words.specs.Words.{Request}
use Rattle.hare.specs.declared.asked.Asked.{Asked}
use Rattle.hare.specs.declared.plain.Renaming.{Renaming}
use Rattle.hare.specs.Refactorings as spec

-- what the words ask for
abbrev pub shown : Asked → Request
shown a = record { script = a.script.now; files = map string_bytes a.files.now; dry_run = a.dry_run; keep_going = a.keep_going }

abbrev pub renaming_of : Renaming → spec.Renaming
renaming_of r = record { module_name = r.«module».now; pos = r.pos; new_name = r.new.now }
