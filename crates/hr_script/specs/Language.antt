-- The script language. A script is lines that end with a linefeed, or with a return and a linefeed; the last
-- one may lack it. A line is a command, or it is none: an empty line, one of spaces and tabs alone, or one that
-- begins with `#`. A command is words with one space between, and nothing before or after.
use Rattle.std.specs.Prelude.{◌≡◌, ℕ, ◌≤◌, ◌<◌, ◌^◌, ◌⊎◌, Bool, true, false, ◌&&◌, ◌||◌, ◌==◌, List, [], ◌∷◌, ◌++◌, codes}
use Rattle.std.specs.List.{list_all, join_with_byte}
use Rattle.std.specs.Str.{is_utf8}
use Rattle.std.specs.Str.Lines.{lines}
use Rattle.std.specs.Fmt.{decimal}
use Rattle.hr_base.specs.declared.place.Pos.{Pos}
use Rattle.hr_script.specs.declared.command.Command.{Command}
use Rattle.hr_script.specs.declared.command.Command.TheVariants.{Rename, AddParameter, RemoveParameter, LiftOne, LiftTop, Demote, Generalise, Move, Abstract, Undo}
use Rattle.hr_script.specs.declared.command.Verb.{Verb}
use Rattle.hr_script.specs.declared.command.Verb.TheVariants as verb
use Rattle.hr_script.specs.Texts.{is_module_name, is_word}

abbrev pub verb_of : Command → Verb
verb_of (Rename m p n) = verb.Rename
verb_of (AddParameter m p n) = verb.AddParameter
verb_of (RemoveParameter m p i) = verb.RemoveParameter
verb_of (LiftOne m p) = verb.LiftOne
verb_of (LiftTop m p) = verb.LiftTop
verb_of (Demote m p) = verb.Demote
verb_of (Generalise m p n) = verb.Generalise
verb_of (Move a n b) = verb.Move
verb_of (Abstract m t) = verb.Abstract
verb_of Undo = verb.Undo

abbrev pub verb_word : Verb → List ℕ
verb_word verb.Rename = codes "rename"
verb_word verb.AddParameter = codes "add-parameter"
verb_word verb.RemoveParameter = codes "remove-parameter"
verb_word verb.LiftOne = codes "lift-one"
verb_word verb.LiftTop = codes "lift-top"
verb_word verb.Demote = codes "demote"
verb_word verb.Generalise = codes "generalise"
verb_word verb.Move = codes "move"
verb_word verb.Abstract = codes "abstract"
verb_word verb.Undo = codes "undo"

-- a position is its line and its column with a colon (58) between, without leading zeros
abbrev pub pos_word : Pos → List ℕ
pos_word p = decimal p.line ++ 58 ∷ decimal p.col

-- what follows the word that names the command
abbrev pub texts_of : Command → List (List ℕ)
texts_of (Rename m p n) = m ∷ pos_word p ∷ n ∷ []
texts_of (AddParameter m p n) = m ∷ pos_word p ∷ n ∷ []
texts_of (RemoveParameter m p i) = m ∷ pos_word p ∷ decimal i ∷ []
texts_of (LiftOne m p) = m ∷ pos_word p ∷ []
texts_of (LiftTop m p) = m ∷ pos_word p ∷ []
texts_of (Demote m p) = m ∷ pos_word p ∷ []
texts_of (Generalise m p n) = m ∷ pos_word p ∷ n ∷ []
texts_of (Move a n b) = a ∷ n ∷ b ∷ []
texts_of (Abstract m t) = m ∷ t ∷ []
texts_of Undo = []

-- the words of the command, with a space (32) between
abbrev pub line_of : Command → List ℕ
line_of c = join_with_byte 32 (verb_word (verb_of c) ∷ texts_of c)

abbrev pub IsNumber : ℕ → Type 0
IsNumber n = n < 2 ^ 32

-- a line and a column, each from 1 to 4,294,967,295
abbrev pub IsPosition : Pos → Type 0
IsPosition p = ((1 ≤ p.line) × IsNumber p.line) × ((1 ≤ p.col) × IsNumber p.col)

-- a module's name and a position in it
abbrev pub IsSpot : List ℕ → Pos → Type 0
IsSpot m p = (is_module_name m ≡ true) × IsPosition p

-- the texts and numbers of the command are of the language
abbrev pub IsSpeakable : Command → Type 0
IsSpeakable (Rename m p n) = IsSpot m p × (is_word n ≡ true)
IsSpeakable (AddParameter m p n) = IsSpot m p × (is_word n ≡ true)
IsSpeakable (RemoveParameter m p i) = IsSpot m p × IsNumber i
IsSpeakable (LiftOne m p) = IsSpot m p
IsSpeakable (LiftTop m p) = IsSpot m p
IsSpeakable (Demote m p) = IsSpot m p
IsSpeakable (Generalise m p n) = IsSpot m p × (is_word n ≡ true)
IsSpeakable (Move a n b) = (is_module_name a ≡ true) × ((is_word n ≡ true) × (is_module_name b ≡ true))
IsSpeakable (Abstract m t) = (is_module_name m ≡ true) × (is_word t ≡ true)
IsSpeakable Undo = Unit {0}

-- The commands that are built. Another one isn't of the language until it is.
abbrev pub is_built : Command → Bool
is_built (Rename m p n) = true
is_built (AddParameter m p n) = false
is_built (RemoveParameter m p i) = false
is_built (LiftOne m p) = false
is_built (LiftTop m p) = false
is_built (Demote m p) = false
is_built (Generalise m p n) = false
is_built (Move a n b) = false
is_built (Abstract m t) = false
is_built Undo = true

-- the line is the command, which is built
pub record IsCommandLine (line : List ℕ) (c : Command) : Type 0 where
  pub line_is : line ≡ line_of c
  pub speakable : IsSpeakable c
  pub built : is_built c ≡ true

abbrev pub is_linefeed : ℕ → Bool
is_linefeed c = c == 10

abbrev pub begins_comment : List ℕ → Bool
begins_comment [] = false
begins_comment (c ∷ cs) = c == 35

-- a space or a tab
abbrev pub is_space : ℕ → Bool
is_space c = c == 32 || c == 9

-- no command: nothing, spaces and tabs alone, or a comment
abbrev pub is_skipped : List ℕ → Bool
is_skipped line = is_utf8 line && (begins_comment line || list_all is_space line)

-- the lines are these commands, but for those that are none
pub data AreLines : List (List ℕ) → List Command → Type 0 where
  ends : AreLines [] []
  skips : (line : List ℕ) (lines : List (List ℕ)) (cs : List Command) → is_skipped line ≡ true → AreLines lines cs → AreLines (line ∷ lines) cs
  commands : (line : List ℕ) (c : Command) (lines : List (List ℕ)) (cs : List Command) → IsCommandLine line c → AreLines lines cs → AreLines (line ∷ lines) (c ∷ cs)

-- the bytes are a script of these commands
abbrev pub Script : List ℕ → List Command → Type 0
Script bytes cs = AreLines (lines bytes) cs

-- a line of the language
abbrev pub IsLine : List ℕ → Type 0
IsLine line = (is_skipped line ≡ true) ⊎ ((c : Command) × IsCommandLine line c)

-- the bytes as they are written: a linefeed ends each line
abbrev pub script_bytes : List Command → List ℕ
script_bytes [] = []
script_bytes (c ∷ cs) = line_of c ++ 10 ∷ script_bytes cs
