-- The position of a place in a text: its line and its column, both from 1.
use Rattle.std.specs.Prelude.{ℕ, ◌-◌, List, drop, nat_le, count_by, slice_index}
use Rattle.hr_scan.specs.Lines.{starts_of_lines}
use Rattle.hr_scan.specs.Columns.{column_at}

-- how many lines start at the place or before it
abbrev pub line_at : List ℕ → ℕ → ℕ
line_at bytes place = count_by (λ start. nat_le start place) (starts_of_lines bytes)

-- where the last of them starts
abbrev pub start_at : List ℕ → ℕ → ℕ
start_at bytes place = slice_index (starts_of_lines bytes) (line_at bytes place - 1)

-- the place's column in that line
abbrev pub column_in : List ℕ → ℕ → ℕ
column_in bytes place = column_at (drop (start_at bytes place) bytes) (place - start_at bytes place)

abbrev pub pos_at : List ℕ → ℕ → ℕ × ℕ
pos_at bytes place = (line_at bytes place, column_in bytes place)
