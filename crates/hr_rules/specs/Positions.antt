-- Where the items of a text stand (Haskell 98 Report, section 9.3): lines and columns, and which
-- lexeme is the first one on its line.
use Rattle.std.specs.Prelude.{ℕ, zero, suc, ◌+◌, ◌-◌, Bool, false, ◌||◌, ◌&&◌, ◌==◌, List, [], ◌∷◌, if◌then◌else◌}
use Rattle.std.specs.List.{list_any}
use Rattle.hr_base.specs.declared.place.Pos.{Pos}
use Rattle.hr_base.specs.declared.lexeme.Item.{Item}
use Rattle.hr_scan.specs.Characters.{char_at, cell_len}
use Rattle.hr_scan.specs.Columns.{next_column}
use Rattle.hr_scan.specs.Lines.{ends_newline, linefeed, form_feed, carriage_return}

-- where a text begins
abbrev pub origin : Pos
origin = record { line = 1; col = 1 }

-- the position behind the character at the front of the bytes, which stands at the position
abbrev pub behind_front : Pos → List ℕ → Pos
behind_front pos bytes =
    if ends_newline bytes then record { line = pos.line + 1; col = 1 }
    else record { line = pos.line; col = next_column pos.col (char_at bytes) }

-- the position behind bytes, of which the first n belong to a character that has been counted
abbrev pub behind_past : ℕ → Pos → List ℕ → Pos
behind_past n pos [] = pos
behind_past (suc n) pos (b ∷ rest) = behind_past n pos rest
behind_past zero pos (b ∷ rest) = behind_past (cell_len (char_at (b ∷ rest)) - 1) (behind_front pos (b ∷ rest)) rest

-- the position behind bytes whose first one stands at the position
abbrev pub behind : Pos → List ℕ → Pos
behind = behind_past 0

-- the position of each lexeme, where the first item begins at the position
abbrev pub positions_from : Pos → List Item → List Pos
positions_from pos [] = []
positions_from pos (item ∷ items) =
    behind pos item.trivia ∷ positions_from (behind (behind pos item.trivia) item.lexeme.text) items

-- the position of each lexeme of a text
abbrev pub positions_of : List Item → List Pos
positions_of = positions_from origin

abbrev pub is_same_pos : Pos → Pos → Bool
is_same_pos a b = (a.line == b.line) && (a.col == b.col)

abbrev pub has_newline : List ℕ → Bool
has_newline bytes = list_any (λ b. (b == linefeed || b == form_feed) || b == carriage_return) bytes

-- a lexeme is line-first where no character of a lexeme stands before it on its line: it is the
-- first one of its text, or a newline stands between it and the one before
abbrev pub line_first_after : Bool → Item → Bool
line_first_after is_first item = is_first || has_newline item.trivia

-- of each lexeme of a text, whether it is line-first
abbrev pub line_firsts : Bool → List Item → List Bool
line_firsts is_first [] = []
line_firsts is_first (item ∷ items) = line_first_after is_first item ∷ line_firsts false items
