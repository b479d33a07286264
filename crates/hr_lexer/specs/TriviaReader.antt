-- What is read where a blank or a comment begins: how many characters it has.
use Rattle.std.specs.Prelude.{ℕ, zero, suc, ◌+◌, ◌&&◌, ◌==◌, false, if◌then◌else◌, List, [], ◌∷◌, Option, Some, None, drop, length}
use Rattle.std.specs.List.{prefix_len}
use Rattle.std.specs.Option.{option_map}
use Rattle.hr_rules.specs.declared.character.Kind.{Kind}
use Rattle.hr_rules.specs.Letters.{kind_of}
use Rattle.hr_rules.specs.Comments.{begins_line_comment, is_in_line, closed_len}

abbrev pub line_comment_len : List ℕ → Option ℕ
line_comment_len text = if begins_line_comment text then Some (prefix_len is_in_line text) else None

abbrev pub nested_comment_len : List ℕ → Option ℕ
nested_comment_len [] = None
nested_comment_len (_ ∷ []) = None
nested_comment_len (a ∷ b ∷ rest) = if a == 123 && b == 45 then option_map (λ n. n + 2) (closed_len false 0 rest) else None

abbrev pub piece_len_by : Kind → List ℕ → Option ℕ
piece_len_by Kind.Blank text = Some 1
piece_len_by Kind.Newline text = Some 1
piece_len_by Kind.Symbol text = line_comment_len text
piece_len_by Kind.Special text = nested_comment_len text
piece_len_by _ text = None

-- one blank or one comment
abbrev pub piece_len : List ℕ → Option ℕ
piece_len [] = None
piece_len (c ∷ rest) = piece_len_by (kind_of c) (c ∷ rest)

-- a piece of this length, and what is behind it
abbrev pub with_piece : (ℕ → ℕ) → Option ℕ → ℕ
with_piece behind None = 0
with_piece behind (Some n) = n + behind n

-- blanks and comments, as many as stand together and the first number allows
abbrev pub trivia_len_within : ℕ → List ℕ → ℕ
trivia_len_within zero text = 0
trivia_len_within (suc fuel) text = with_piece (λ n. trivia_len_within fuel (drop n text)) (piece_len text)

abbrev pub trivia_len : List ℕ → ℕ
trivia_len text = trivia_len_within (length text) text
