-- How far the reading of a script is.
use Rattle.std.specs.Prelude.{◌≡◌, ℕ, ◌⊎◌, Bool, true, false, List, [], ◌∷◌, ◌++◌, length}
use Rattle.std.specs.Str.Lines.{lines}
use Rattle.hr_script.specs.declared.command.Command.{Command}
use Rattle.hr_script.specs.declared.error.ScriptError.{ScriptError}
use Rattle.hr_script.specs.declared.error.ScriptError.TheVariants.{BadLine, TooManySteps, Memory}
use Rattle.hr_script.specs.Language.{AreLines, IsCommandLine, IsLine, is_skipped}
use Rattle.hr_script.specs.Laws.{IsFirstBad}

-- so many lines are read, which are these commands, and the rest is left
pub record Progress (bytes rest : List ℕ) (number : ℕ) (cs : List Command) : Type 0 where
  pub before : List (List ℕ)
  pub lines_are : lines bytes ≡ before ++ lines rest
  pub number_is : number ≡ length before
  pub read : AreLines before cs

-- a line that is of the language adds its command, if it is one; a line that is not of it is told
abbrev pub Adds : List ℕ → List Command → List Command → Bool → Type 0
Adds line before after true = ((is_skipped line ≡ true) × (after ≡ before)) ⊎ ((c : Command) × IsCommandLine line c × (after ≡ before ++ c ∷ []))
Adds line before after false = IsLine line → ⊥

-- the first bad line is refused, and nothing else is but for want of memory
abbrev pub IsLineRefused : List ℕ → ScriptError → Type 0
IsLineRefused bytes (BadLine number) = IsFirstBad bytes number
IsLineRefused bytes TooManySteps = ⊥
IsLineRefused bytes (Memory reason) = Unit {0}
