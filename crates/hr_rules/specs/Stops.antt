-- Where a text can't be lexed any further: items and trivia lead to a place where no lexeme and no
-- comment fits (the Haskell 98 Report, section 2.2).
use Rattle.std.specs.Prelude.{◌≡◌, ◌≢◌, ◌+◌, ℕ, true, List, [], ◌∷◌, ◌++◌, length, drop}
use Rattle.hr_base.specs.declared.lexeme.Class.{Class}
use Rattle.hr_base.specs.declared.lexeme.Item.{Item}
use Rattle.hr_base.specs.declared.lexeme.Items.{Items}
use Rattle.hr_rules.specs.Lexing.{Classes, Pieces, Barriers, Trivia, Fits, KeepApart, Lexes}
use Rattle.hr_rules.specs.Lexemes.{class_of, is_piece, bars, mark_len, LexesText}

-- the text begins with the items and the trivia, and then the last text is left
pub data Leads (class_of : Classes) (is_piece : Pieces) (bars : Barriers) : List ℕ → List Item → List ℕ → List ℕ → Type 0 where
  here : (trivia rest : List ℕ) → Trivia is_piece trivia rest → Leads class_of is_piece bars (trivia ++ rest) [] trivia rest
  past : (item : Item) (rest : List ℕ) (items : List Item) (trivia left : List ℕ)
      → Trivia is_piece item.trivia (item.lexeme.text ++ rest)
      → Fits class_of bars item.lexeme.class item.lexeme.text rest
      → Leads class_of is_piece bars rest items trivia left
      → Leads class_of is_piece bars (item.trivia ++ (item.lexeme.text ++ rest)) (item ∷ items) trivia left

-- something is left, and no blank, comment or lexeme fits there
pub record NothingFits (class_of : Classes) (is_piece : Pieces) (bars : Barriers) (rest : List ℕ) : Type 0 where
  pub some : rest ≢ []
  pub no_piece : (piece after : List ℕ) → rest ≡ piece ++ after → is_piece piece after ≢ true
  pub no_lexeme : (class : Class) (text after : List ℕ) → rest ≡ text ++ after → ¬ (Fits class_of bars class text after)

-- a text of which this is left can't be lexed any further
pub record Stops (class_of : Classes) (is_piece : Pieces) (bars : Barriers) (bytes rest : List ℕ) : Type 0 where
  pub items : List Item
  pub trivia : List ℕ
  pub leads : Leads class_of is_piece bars bytes items trivia rest
  pub nothing : NothingFits class_of is_piece bars rest

-- where that is so there are no items
abbrev pub StopsHaveNone : Type 0
StopsHaveNone = (class_of : Classes) (is_piece : Pieces) (bars : Barriers) → KeepApart class_of is_piece bars
    → (bytes rest : List ℕ) → Stops class_of is_piece bars bytes rest
    → (items : List Item) (tail : List ℕ) → ¬ (Lexes class_of is_piece bars bytes items tail)

-- and it is so at one place at most
abbrev pub OneStop : Type 0
OneStop = (class_of : Classes) (is_piece : Pieces) (bars : Barriers) → KeepApart class_of is_piece bars
    → (bytes rest other : List ℕ) → Stops class_of is_piece bars bytes rest → Stops class_of is_piece bars bytes other → rest ≡ other

-- the whole rules stop at this place of a text; a byte order mark at its start is passed over
pub record StopsAt (bytes : List ℕ) (place : ℕ) : Type 0 where
  pub rest : List ℕ
  pub here : place + length rest ≡ length bytes
  pub stops : Stops class_of is_piece bars (drop (mark_len bytes) bytes) rest

-- then the text has no items
abbrev pub StoppedHasNone : Type 0
StoppedHasNone = (bytes : List ℕ) (place : ℕ) → StopsAt bytes place → (items : Items) → ¬ (LexesText bytes items)
