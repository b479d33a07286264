-- The script of a run.
use Rattle.std.specs.Prelude.{ℕ, List}
use Rattle.hr_files.specs.Read.{IsUnreadFile}
use Rattle.hr_script.specs.Laws.{IsParsed, IsScriptRefusal}
use Rattle.hr_script.specs.declared.command.Command.{Command}
use Rattle.hr_shelf.specs.Outside.{HasBytes, Store}
use Rattle.hare.specs.declared.script.Unscripted.{Unscripted}

-- a told shelf has bytes under the name that are a script of these commands
pub record IsScript (name : List ℕ) (before : Store) (commands : List Command) : Type 0 where
  pub bytes : List ℕ
  pub told : HasBytes before.told name bytes
  pub parsed : IsParsed bytes commands

-- why there is no script of the name: it was not read, or its bytes are refused
abbrev pub IsUnscripted : List ℕ → Store → Store → Unscripted → Type 0
IsUnscripted name before after (Unscripted.Unread unread) = IsUnreadFile 0 name before after unread
IsUnscripted name before after (Unscripted.Bad error) = (bytes : List ℕ) × HasBytes before.told name bytes × IsScriptRefusal bytes error
