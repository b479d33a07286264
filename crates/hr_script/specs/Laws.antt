-- What `parse_script` answers, and laws of the script language.
use Rattle.std.specs.Prelude.{◌≡◌, ℕ, ◌+◌, ◌≤◌, ◌<◌, true, List, ◌∷◌, ◌++◌, length}
use Rattle.std.specs.List.{AllByRecursion}
use Rattle.std.specs.Str.Lines.{lines}
use Rattle.hr_script.specs.declared.command.Command.{Command}
use Rattle.hr_script.specs.declared.error.ScriptError.{ScriptError}
use Rattle.hr_script.specs.declared.error.ScriptError.TheVariants.{BadLine, TooManySteps, Memory}
use Rattle.hr_script.specs.Language.{Script, IsLine, IsSpeakable, is_built, script_bytes}

-- as many commands as a script may have
abbrev pub step_limit : ℕ
step_limit = 1000

-- the bytes are a script of the commands, which are not too many
pub record IsParsed (bytes : List ℕ) (cs : List Command) : Type 0 where
  pub script : Script bytes cs
  pub few : length cs ≤ step_limit

-- the first line that is not of the language has this number, counted from 1
pub record IsFirstBad (bytes : List ℕ) (number : ℕ) : Type 0 where
  pub before : List (List ℕ)
  pub line : List ℕ
  pub behind : List (List ℕ)
  pub lines_are : lines bytes ≡ before ++ line ∷ behind
  pub number_is : number ≡ length before + 1
  pub good : AllByRecursion IsLine before
  pub bad : IsLine line → ⊥

-- why bytes are refused; want of memory may come at any time
abbrev pub IsScriptRefusal : List ℕ → ScriptError → Type 0
IsScriptRefusal bytes (BadLine number) = IsFirstBad bytes number
IsScriptRefusal bytes TooManySteps = (cs : List Command) × Script bytes cs × (step_limit < length cs)
IsScriptRefusal bytes (Memory reason) = Unit {0}

abbrev pub IsMemory : ScriptError → Type 0
IsMemory (BadLine number) = ⊥
IsMemory TooManySteps = ⊥
IsMemory (Memory reason) = Unit {0}

-- bytes are a script of one list of commands at most
abbrev pub OneScript : Type 0
OneScript = (bytes : List ℕ) (cs ds : List Command) → Script bytes cs → Script bytes ds → cs ≡ ds

-- the command is of the language
abbrev pub IsSayable : Command → Type 0
IsSayable c = IsSpeakable c × (is_built c ≡ true)

-- what is written of commands of the language is a script of them
abbrev pub WrittenParsesBack : Type 0
WrittenParsesBack = (cs : List Command) → AllByRecursion IsSayable cs → Script (script_bytes cs) cs
