-- What it is for bytes to be lexed as items: the Haskell 98 Report, sections 2.2 and 2.3, over
-- three predicates that say what a lexeme, a blank or comment, and a place without a lexeme are.
use Rattle.std.specs.Prelude.{◌≡◌, ◌≢◌, ℕ, ◌≤◌, Bool, true, false, List, [], ◌∷◌, ◌++◌, length, Option, Some, None, IsSome}
use Rattle.hr_base.specs.declared.lexeme.Class.{Class}
use Rattle.hr_base.specs.declared.lexeme.Item.{Item}

-- the class of the first text if it is a whole lexeme where the second one follows
abbrev pub Classes : Type 0
Classes = List ℕ → List ℕ → Option Class

-- the first text is one blank or one comment where the second one follows
abbrev pub Pieces : Type 0
Pieces = List ℕ → List ℕ → Bool

-- no lexeme begins where this text is left, as where a blank or a comment begins
abbrev pub Barriers : Type 0
Barriers = List ℕ → Bool

-- blanks and comments, one after another, before the text that follows them
pub data Trivia (is_piece : Pieces) : List ℕ → List ℕ → Type 0 where
  none : (after : List ℕ) → Trivia is_piece [] after
  more : (piece trivia after : List ℕ) → is_piece piece (trivia ++ after) ≡ true → Trivia is_piece trivia after → Trivia is_piece (piece ++ trivia) after

-- a lexeme of the class is what is read where `text` and then `after` are left: it is a lexeme,
-- no longer one begins there, and one may begin there at all
pub record Fits (class_of : Classes) (bars : Barriers) (class : Class) (text after : List ℕ) : Type 0 where
  pub is : class_of text after ≡ Some class
  pub longest : (longer rest : List ℕ) → text ++ after ≡ longer ++ rest → IsSome (class_of longer rest) → length longer ≤ length text
  pub begins : bars (text ++ after) ≡ false

-- bytes are the trivia and lexemes of the items, joined, and then the tail
pub data Lexes (class_of : Classes) (is_piece : Pieces) (bars : Barriers) : List ℕ → List Item → List ℕ → Type 0 where
  ends : (tail : List ℕ) → Trivia is_piece tail [] → Lexes class_of is_piece bars tail [] tail
  goes : (item : Item) (rest : List ℕ) (items : List Item) (tail : List ℕ)
      → Trivia is_piece item.trivia (item.lexeme.text ++ rest)
      → Fits class_of bars item.lexeme.class item.lexeme.text rest
      → Lexes class_of is_piece bars rest items tail
      → Lexes class_of is_piece bars (item.trivia ++ (item.lexeme.text ++ rest)) (item ∷ items) tail

-- what the predicates have to meet for a text to have one list of items at most
pub record KeepApart (class_of : Classes) (is_piece : Pieces) (bars : Barriers) : Type 0 where
  pub lexeme_not_empty : (after : List ℕ) → class_of [] after ≡ None
  pub piece_not_empty : (piece after : List ℕ) → is_piece piece after ≡ true → piece ≢ []
  pub piece_bars : (piece after : List ℕ) → is_piece piece after ≡ true → bars (piece ++ after) ≡ true
  pub piece_is_one : (piece after other rest : List ℕ) → is_piece piece after ≡ true → is_piece other rest ≡ true → piece ++ after ≡ other ++ rest → piece ≡ other
  pub end_bars_nothing : bars [] ≡ false

-- a text has one list of items, and one tail, at most
abbrev pub OneLexing : Type 0
OneLexing = (class_of : Classes) (is_piece : Pieces) (bars : Barriers) → KeepApart class_of is_piece bars
    → (bytes : List ℕ) (items : List Item) (tail : List ℕ) (others : List Item) (other_tail : List ℕ)
    → Lexes class_of is_piece bars bytes items tail → Lexes class_of is_piece bars bytes others other_tail
    → (items ≡ others) × (tail ≡ other_tail)

-- the bytes of items and of what is behind them
abbrev pub joined : List Item → List ℕ → List ℕ
joined [] tail = tail
joined (item ∷ items) tail = item.trivia ++ (item.lexeme.text ++ joined items tail)

-- the items of a text and what is behind them, joined, are the text
abbrev pub LexingsJoin : Type 0
LexingsJoin = (class_of : Classes) (is_piece : Pieces) (bars : Barriers) (bytes : List ℕ) (items : List Item) (tail : List ℕ)
    → Lexes class_of is_piece bars bytes items tail → bytes ≡ joined items tail
