-- Where a blank stands between the lexemes of a written type. Brackets and commas may touch what is beside them, since
-- no lexeme goes on into them and they go on into none (Haskell 98 Report, section 2.2); other lexemes may not.
use Rattle.std.specs.Prelude.{ℕ, Bool, true, ◌&&◌, ◌||◌, List, [], ◌∷◌, codes}
use Rattle.std.specs.List.{list_any}
use Rattle.std.specs.Str.{bytes_eq}
use Rattle.hr_type.specs.Spelling.{Piece, blank, lexeme}

abbrev pub stands_alone : List ℕ → Bool
stands_alone text = list_any (λ mark. bytes_eq mark text) (codes "(" ∷ codes ")" ∷ codes "[" ∷ codes "]" ∷ codes "," ∷ [])

-- the pieces may stand directly behind a lexeme
abbrev pub may_follow : List ℕ → List Piece → Bool
may_follow before [] = true
may_follow before (blank ∷ rest) = true
may_follow before (lexeme text ∷ rest) = stands_alone before || stands_alone text

-- no two lexemes touch that may not
abbrev pub are_apart : List Piece → Bool
are_apart [] = true
are_apart (blank ∷ rest) = are_apart rest
are_apart (lexeme text ∷ rest) = may_follow text rest && are_apart rest
