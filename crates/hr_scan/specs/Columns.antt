-- The columns of a line (Haskell 98 Report, section 9.3): the first column is 1, a tab goes to the next
-- tab stop, which are 8 characters apart, and every other character takes one column, but for the
-- byte order mark, which takes none.
use Rattle.std.specs.Prelude.{ℕ, ◌+◌, ◌*◌, ◌/◌, ◌==◌, List, [], ◌∷◌, ◌++◌, replicate, fold, Option, None, Some, slice_index, if◌then◌else◌}
use Rattle.hr_scan.specs.declared.character.Character.{Character}
use Rattle.hr_scan.specs.Characters.{cells, cell_len}

abbrev pub tab : ℕ
tab = 9

abbrev pub byte_order_mark : ℕ
byte_order_mark = 0xFEFF

-- the column behind a cell that stands at this column: a tab leads to the next one of the form 8k + 1
abbrev pub next_column : ℕ → Option Character → ℕ
next_column column None = column + 1
next_column column (Some c) =
    if c.code == tab then (column + 7) / 8 * 8 + 1
    else (if c.code == byte_order_mark then column else column + 1)

-- the column of each byte of these cells, where the first cell stands at this column: all bytes of a
-- character have its column
abbrev pub columns_from : ℕ → List (Option Character) → List ℕ
columns_from column [] = []
columns_from column (cell ∷ rest) = replicate (cell_len cell) column ++ columns_from (next_column column cell) rest

-- the column of each byte of a line
abbrev pub columns_of : List ℕ → List ℕ
columns_of line = columns_from 1 (cells line)

-- the column behind a line
abbrev pub end_column : List ℕ → ℕ
end_column line = fold next_column 1 (cells line)

-- the column of a place of a line, of which the last is behind its last byte
abbrev pub column_at : List ℕ → ℕ → ℕ
column_at line place = slice_index (columns_of line ++ end_column line ∷ []) place
