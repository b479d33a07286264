-- What the readers have to meet, on characters: each statement is proved in a file of its own.
use Rattle.std.proofs.Common.{◌≡◌, ◌<◌, ◌≤◌, ℕ, true, false, List, ◌∷◌, ◌++◌, length, take, drop, Some}
use Rattle.std.specs.Option.{IsSome}
use Rattle.hr_rules.specs.declared.character.Kind.{Kind}
use Rattle.hr_rules.specs.Letters.{kind_of}
use Rattle.hr_rules.specs.Lexemes.{spelled_class, spelled_class_by, spelled_bars, spelled_bars_by, spelled_piece}
use Rattle.hr_lexer.specs.declared.taken.Taken.{Taken}
use Rattle.hr_lexer.specs.LexemeReader.{lexeme_at, lexeme_at_by}
use Rattle.hr_lexer.specs.TriviaReader.{piece_len}

-- what is read where a text begins with a character of this kind is a lexeme of its class, where one may begin
abbrev pub ReadsRight : Kind → Type 0
ReadsRight kind = (c : ℕ) (rest : List ℕ) (taken : Taken) → kind_of c ≡ kind → lexeme_at_by kind c rest ≡ Some taken
    → (spelled_bars_by kind c rest ≡ false) × (0 < taken.len) × (taken.len ≤ length (c ∷ rest))
    × (spelled_class (take taken.len (c ∷ rest)) (drop taken.len (c ∷ rest)) ≡ Some taken.class)

-- and where a lexeme begins, one is read that is no shorter
abbrev pub ReadsLongest : Kind → Type 0
ReadsLongest kind = (c : ℕ) (front after : List ℕ) → kind_of c ≡ kind → spelled_bars_by kind c (front ++ after) ≡ false
    → IsSome (spelled_class_by kind c front after)
    → (taken : Taken) × (lexeme_at_by kind c (front ++ after) ≡ Some taken) × (length (c ∷ front) ≤ taken.len)

pub record KindReads (kind : Kind) : Type 0 where
  pub right : ReadsRight kind
  pub longest : ReadsLongest kind

-- the same of blanks and comments
abbrev pub PieceRight : Type 0
PieceRight = (text : List ℕ) (n : ℕ) → piece_len text ≡ Some n
    → (0 < n) × (n ≤ length text) × (spelled_piece (take n text) (drop n text) ≡ true)

abbrev pub PieceFound : Type 0
PieceFound = (piece after : List ℕ) → spelled_piece piece after ≡ true → piece_len (piece ++ after) ≡ Some (length piece)

-- of all kinds together
abbrev pub LexemeRight : Type 0
LexemeRight = (text : List ℕ) (taken : Taken) → lexeme_at text ≡ Some taken
    → (spelled_bars text ≡ false) × (0 < taken.len) × (taken.len ≤ length text)
    × (spelled_class (take taken.len text) (drop taken.len text) ≡ Some taken.class)

abbrev pub LexemeLongest : Type 0
LexemeLongest = (front after : List ℕ) → spelled_bars (front ++ after) ≡ false → IsSome (spelled_class front after)
    → (taken : Taken) × (lexeme_at (front ++ after) ≡ Some taken) × (length front ≤ taken.len)
