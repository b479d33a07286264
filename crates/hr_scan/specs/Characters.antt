-- The characters of a text: UTF-8 as the Unicode Standard defines it (section 3.9), by std's words.
use Rattle.std.specs.Prelude.{◌≡◌, ℕ, zero, suc, ◌+◌, ◌-◌, ◌++◌, List, [], ◌∷◌, length, take, nat_lt, if◌then◌else◌, Option, None, Some, slice_get, chars}
use Rattle.std.specs.Char.{IsScalar, encode_utf8}
use Rattle.std.specs.Option.{option_map}
use Rattle.std.specs.Str.{is_utf8, continuation_len}
use Rattle.hr_scan.specs.declared.character.Character.{Character}

-- how many bytes a character takes that begins with this byte
abbrev pub announced_len : ℕ → ℕ
announced_len first = continuation_len first + 1

-- the character that the first n bytes spell
unfoldable pub wide_char_at : ℕ → List ℕ → Option Character
wide_char_at n bytes =
    let text = take n bytes in
    if is_utf8 text then option_map (λ c. record { code = c; len = length text }) (slice_get (chars text) 0) else None

-- the character at the front of the bytes, if one begins there
abbrev pub char_at : List ℕ → Option Character
char_at [] = None
char_at (first ∷ rest) = if nat_lt first 128 then Some (record { code = first; len = 1 }) else wide_char_at (announced_len first) (first ∷ rest)

-- what counts as one character of a line is a cell: a character, or a byte that begins none
abbrev pub cell_len : Option Character → ℕ
cell_len None = 1
cell_len (Some c) = c.len

-- the cells behind the first n bytes
abbrev pub cells_past : ℕ → List ℕ → List (Option Character)
cells_past n [] = []
cells_past (suc n) (first ∷ rest) = cells_past n rest
cells_past zero (first ∷ rest) = char_at (first ∷ rest) ∷ cells_past (cell_len (char_at (first ∷ rest)) - 1) rest

-- the cells of a text, read from the left
abbrev pub cells : List ℕ → List (Option Character)
cells = cells_past 0

-- the bytes are this character, in UTF-8, and then the rest
pub record Begins (c : Character) (bytes rest : List ℕ) : Type 0 where
  pub scalar : IsScalar c.code
  pub len : c.len ≡ length (encode_utf8 c.code)
  pub bytes_are : bytes ≡ encode_utf8 c.code ++ rest
