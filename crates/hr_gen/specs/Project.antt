-- The generated project of a seed has the modules M0, M1 and so on, and then Main. Each function of a module calls
-- the one before it, the first one the last one of the module before. Every line ends with a linefeed.
use Rattle.std.specs.Prelude.{ℕ, zero, suc, ◌+◌, ◌-◌, ◌%◌, List, [], ◌∷◌, ◌++◌, length, replicate, codes}
use Rattle.std.specs.Fmt.{decimal}
use Rattle.hr_base.specs.declared.place.Pos.{Pos}
use Rattle.hr_script.specs.declared.command.Command.{Command}
use Rattle.hr_script.specs.declared.command.Command.TheVariants.{Rename, AddParameter, Undo}

-- the digit in the function of this number of this module
abbrev pub digit : ℕ → ℕ → ℕ → ℕ
digit seed k i = (seed + k + i) % 10

-- the first line
abbrev pub head : ℕ → List ℕ
head k = codes "module M" ++ (decimal k ++ codes " where\n")

-- the second one: a comment in M0, else the import of the module before
abbrev pub import_line : ℕ → List ℕ
import_line zero = codes "-- first\n"
import_line (suc j) = codes "import M" ++ (decimal j ++ codes "\n")

-- the third one
abbrev pub first_function : ℕ → ℕ → ℕ → List ℕ
first_function seed size zero = codes "f0_0 x = x + " ++ (decimal (digit seed 0 0) ++ codes "\n")
first_function seed size (suc j) =
    codes "f" ++ (decimal (suc j) ++ (codes "_0 x = f" ++ (decimal j ++ (codes "_" ++ (decimal size ++ (codes " x + " ++ (decimal (digit seed (suc j) 0) ++ codes "\n")))))))

-- what stands before the alternatives of a function
abbrev pub before_case : ℕ → ℕ → List ℕ
before_case k i = codes "f" ++ (decimal k ++ (codes "_" ++ (decimal i ++ codes " x = case x of ")))

abbrev pub zero_case : ℕ → ℕ → ℕ → List ℕ
zero_case seed k i = codes "0 -> " ++ (decimal (digit seed k i) ++ codes "\n")

abbrev pub other_case : ℕ → ℕ → List ℕ
other_case k h = codes "y -> f" ++ (decimal k ++ (codes "_" ++ (decimal h ++ codes " (y - 1)\n")))

-- the function behind the one of number h, with its second alternative under the first one
abbrev pub function : ℕ → ℕ → ℕ → List ℕ
function seed k h =
    before_case k (h + 1) ++ (zero_case seed k (h + 1) ++ (replicate (length (before_case k (h + 1))) 32 ++ other_case k h))

-- so many of them
abbrev pub functions : ℕ → ℕ → ℕ → List ℕ
functions seed k zero = []
functions seed k (suc h) = functions seed k h ++ function seed k h

-- the text of the module of this number
abbrev pub module_text : ℕ → ℕ → ℕ → List ℕ
module_text seed size k = head k ++ (import_line k ++ (first_function seed size k ++ functions seed k size))

-- so many of them
abbrev pub module_texts : ℕ → ℕ → ℕ → List (List ℕ)
module_texts seed size zero = []
module_texts seed size (suc k) = module_texts seed size k ++ module_text seed size k ∷ []

-- Main calls the last function of the last module
abbrev pub main_text : ℕ → ℕ → List ℕ
main_text last size =
    codes "module Main where\nimport M" ++ (decimal last ++ (codes "\nmain s = show (f" ++ (decimal last ++ (codes "_" ++ (decimal size ++ codes " 3)\n")))))

abbrev pub texts : ℕ → ℕ → ℕ → List (List ℕ)
texts seed modules size = module_texts seed size modules ++ main_text (modules - 1) size ∷ []

abbrev pub module_named : ℕ → List ℕ
module_named k = codes "M" ++ decimal k

abbrev pub at : ℕ → ℕ → Pos
at line col = record { line = line; col = col }

-- a module's first function is renamed, and its second one gets a parameter
abbrev pub renaming : ℕ → Command
renaming k = Rename (module_named k) (at 3 1) (codes "g" ++ decimal k)

abbrev pub parameter : ℕ → Command
parameter k = AddParameter (module_named k) (at 4 1) (codes "p")

abbrev pub module_commands : ℕ → List Command
module_commands zero = []
module_commands (suc k) = module_commands k ++ renaming k ∷ parameter k ∷ []

-- and the last command is undone
abbrev pub commands : ℕ → List Command
commands modules = module_commands modules ++ Undo ∷ []
