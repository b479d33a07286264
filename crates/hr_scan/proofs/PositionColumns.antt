-- The laws of positions that speak of columns.
--     column_in-seam      the column of a place where a character may begin is the one behind its line's text before it
--     column_in-same, column_in-later      any number of bytes further
--     pos_at-zero, pos_at-newline, pos_at-cell      the first position; behind a newline; behind another cell
--     column_in-plain      in ASCII without tabs a column counts the bytes of the line
--     column_in-line      the columns of a line's own bytes
use Rattle.std.proofs.Common.{◌≡◌, ℕ, zero, suc, ◌+◌, ◌-◌, ◌<◌, ◌≤◌, true, false, List, [], ◌∷◌, ◌++◌, length, drop, take, get_or, sym, ap, ap₂, ◌∙◌, arith, length-drop, length-take, take-append-drop, drop-drop, take-add, get_or-drop, take-suc}
use Rattle.std.specs.List.{fold, AllByRecursion}
use Rattle.std.specs.Str.{IsCharBoundary}
use Rattle.hr_scan.specs.Characters.{char_at, cell_len, cells}
use Rattle.hr_scan.specs.Columns.{next_column, columns_of, end_column, column_at}
use Rattle.hr_scan.specs.Lines.{ends_newline}
use Rattle.hr_scan.specs.Positions.{line_at, start_at, column_in, pos_at}
use Rattle.hr_scan.proofs.ColumnLaws.{column_at-seam, column_at-plain, column_at-front, column_at-ascii, end_column-append, IsPlain}
use Rattle.hr_scan.proofs.Positions.{line_at-zero, start_at-zero, line_at-add, start_at-same, start_at-later, start_at-le, line_at-newline, line_at-cell}
use Rattle.hr_scan.proofs.Cells.{cells-one}

-- a character may begin at a place as at the front of what comes behind it
pub boundary-drop : (bytes : List ℕ) (place : ℕ) → IsCharBoundary bytes place → IsCharBoundary (drop place bytes) 0
boundary-drop bytes place b =
    let first : get_or (drop place bytes) 0 0 ≡ get_or bytes place 0 = get_or-drop place bytes 0 0 ∙ ap (λ i. get_or bytes i 0) (omega arith) in
    (omega arith, λ some high. let l = b.1 (omega (arith, length-drop place bytes)) (omega (arith, first)) in omega (arith, first, l))

-- the text of the line before the place
abbrev pub line_before : List ℕ → ℕ → List ℕ
line_before bytes place = take (place - start_at bytes place) (drop (start_at bytes place) bytes)

split_line : (bytes : List ℕ) (place : ℕ) → place ≤ length bytes
    → (line_before bytes place ++ drop place bytes ≡ drop (start_at bytes place) bytes) × (length (line_before bytes place) ≡ place - start_at bytes place)
split_line bytes place h =
    let start = start_at bytes place in
    let low = start_at-le bytes place in (
      ap (λ l. line_before bytes place ++ l) (ap (λ n. drop n bytes) (omega arith) ∙ sym (drop-drop (place - start) start bytes)) ∙ take-append-drop (place - start) (drop start bytes),
      omega (arith, length-take (place - start) (drop start bytes), length-drop start bytes),
    )

pub column_in-seam : (bytes : List ℕ) (place : ℕ) → IsCharBoundary bytes place → column_in bytes place ≡ end_column (line_before bytes place)
column_in-seam bytes place b =
    let s = split_line bytes place b.0 in
    ap₂ (λ (l : List ℕ) (n : ℕ). column_at l n) (sym s.0) (sym s.1) ∙ column_at-seam (line_before bytes place) (drop place bytes) (boundary-drop bytes place b)

take_boundary : (n : ℕ) (bytes : List ℕ) → IsCharBoundary bytes 0 → IsCharBoundary (take n bytes) 0
take_boundary zero bytes b = (omega arith, λ some. absurd (omega arith))
take_boundary (suc n) [] b = b
take_boundary (suc n) (first ∷ rest) b = (omega arith, λ some. b.1 (omega arith))

-- where no newline ends on the way, the column goes on over the cells
pub column_in-same : (bytes : List ℕ) (place n : ℕ) → IsCharBoundary bytes place → IsCharBoundary bytes (place + n) → line_at (drop place bytes) n ≡ 1
    → column_in bytes (place + n) ≡ fold next_column (column_in bytes place) (cells (take n (drop place bytes)))
column_in-same bytes place n b e h =
    let start = start_at bytes place in
    let low = start_at-le bytes place in
    let same = start_at-same bytes place n h in
    let grown : line_before bytes (place + n) ≡ line_before bytes place ++ take n (drop place bytes) =
    ap (λ s. take ((place + n) - s) (drop s bytes)) same
    ∙ ap (λ k. take k (drop start bytes)) (omega arith)
    ∙ take-add (place - start) n (drop start bytes)
    ∙ ap (λ l. line_before bytes place ++ take n l) (drop-drop (place - start) start bytes ∙ ap (λ k. drop k bytes) (omega arith)) in
    column_in-seam bytes (place + n) e
    ∙ ap end_column grown
    ∙ end_column-append (line_before bytes place) (take n (drop place bytes)) (take_boundary n (drop place bytes) (boundary-drop bytes place b))
    ∙ ap (λ c. fold next_column c (cells (take n (drop place bytes)))) (sym (column_in-seam bytes place b))

-- where one does, the column is that of what comes behind the place
pub column_in-later : (bytes : List ℕ) (place n : ℕ) → 1 < line_at (drop place bytes) n → column_in bytes (place + n) ≡ column_in (drop place bytes) n
column_in-later bytes place n h =
    let later = start_at-later bytes place n h in
    ap (λ s. column_at (drop s bytes) ((place + n) - s)) later
    ∙ ap₂ (λ (l : List ℕ) (k : ℕ). column_at l k) (sym (drop-drop (start_at (drop place bytes) n) place bytes)) (omega arith)

first_place : (line : List ℕ) → column_at line 0 ≡ 1
first_place line = column_at-plain [] line tt

pub pos_at-zero : (bytes : List ℕ) → pos_at bytes 0 ≡ (1, 1)
pos_at-zero bytes = λ i. (line_at-zero bytes i, (ap (λ s. column_at (drop s bytes) (0 - s)) (start_at-zero bytes) ∙ first_place bytes) i)

pub pos_at-newline : (bytes : List ℕ) (place : ℕ) → ends_newline (drop place bytes) ≡ true → pos_at bytes (place + 1) ≡ (line_at bytes place + 1, 1)
pos_at-newline bytes place e =
    let one = line_at-newline (drop place bytes) e in
    let line : line_at bytes (place + 1) ≡ line_at bytes place + 1 = omega (arith, line_at-add bytes place 1, one.0) in
    let column : column_in bytes (place + 1) ≡ 1 =
    column_in-later bytes place 1 (omega (arith, one.0)) ∙ ap (λ s. column_at (drop s (drop place bytes)) (1 - s)) one.1 ∙ first_place (drop 1 (drop place bytes)) in
    λ i. (line i, column i)

-- in ASCII without tabs a column counts the bytes
pub column_in-plain : (bytes : List ℕ) (place : ℕ) → place ≤ length bytes → AllByRecursion IsPlain (line_before bytes place) → column_in bytes place ≡ (place - start_at bytes place) + 1
column_in-plain bytes place h all =
    let s = split_line bytes place h in
    ap₂ (λ (l : List ℕ) (n : ℕ). column_at l n) (sym s.0) (sym s.1) ∙ column_at-plain (line_before bytes place) (drop place bytes) all ∙ omega (arith, s.1)

-- behind a cell with which no newline ends
pub pos_at-cell : (bytes : List ℕ) (place : ℕ) → place < length bytes → ends_newline (drop place bytes) ≡ false
    → IsCharBoundary bytes place → IsCharBoundary bytes (place + cell_len (char_at (drop place bytes)))
    → pos_at bytes (place + cell_len (char_at (drop place bytes))) ≡ (line_at bytes place, next_column (column_in bytes place) (char_at (drop place bytes)))
pos_at-cell bytes place h e b f =
    let left = drop place bytes in
    let n = cell_len (char_at left) in
    let one = line_at-cell left e in
    let line : line_at bytes (place + n) ≡ line_at bytes place = omega (arith, line_at-add bytes place n, one) in
    let column : column_in bytes (place + n) ≡ next_column (column_in bytes place) (char_at left) =
    column_in-same bytes place n b f one ∙ ap (fold next_column (column_in bytes place)) (cells-one left (omega (arith, length-drop place bytes))) in
    λ i. (line i, column i)

-- the line of a place up to another place behind it
abbrev pub line_to : List ℕ → ℕ → ℕ → List ℕ
line_to bytes place end = take (end - start_at bytes place) (drop (start_at bytes place) bytes)

line_to-parts : (bytes : List ℕ) (place end : ℕ) → place < end → line_to bytes place end ++ drop end bytes ≡ drop (start_at bytes place) bytes
line_to-parts bytes place end h =
    let start = start_at bytes place in
    let low = start_at-le bytes place in
    ap (λ l. line_to bytes place end ++ l) (ap (λ n. drop n bytes) (omega arith) ∙ sym (drop-drop (end - start) start bytes)) ∙ take-append-drop (end - start) (drop start bytes)

-- the columns of a line's own bytes, where it ends with the text
pub column_in-last : (bytes : List ℕ) (place : ℕ) → place < length bytes → column_in bytes place ≡ get_or (columns_of (line_to bytes place (length bytes))) (place - start_at bytes place) 0
column_in-last bytes place h =
    let start = start_at bytes place in
    let low = start_at-le bytes place in
    let end = length bytes in
    ap (λ l. column_at l (place - start)) (sym (line_to-parts bytes place end h))
    ∙ column_at-front (line_to bytes place end) (drop end bytes) (place - start) (boundary-drop bytes end (omega arith, λ l. absurd (omega arith)))
    (omega (arith, length-take (end - start) (drop start bytes), length-drop start bytes))

-- and where it ends with a byte of ASCII, as that of a newline
pub column_in-line : (bytes : List ℕ) (place end : ℕ) → place < end → end ≤ length bytes → get_or bytes (end - 1) 0 < 128
    → column_in bytes place ≡ get_or (columns_of (line_to bytes place end)) (place - start_at bytes place) 0
column_in-line bytes place end h within small =
    let start = start_at bytes place in
    let low = start_at-le bytes place in
    let line = drop start bytes in
    let m = (end - start) - 1 in
    let b = get_or line m 0 in
    let last : b ≡ get_or bytes (end - 1) 0 = get_or-drop start bytes m 0 ∙ ap (λ i. get_or bytes i 0) (omega arith) in
    let room : m < length line = omega (arith, length-drop start bytes) in
    let one_more : end - start ≡ suc m = omega arith in
    let parts : line_to bytes place end ≡ take m line ++ b ∷ [] = ap (λ k. take k line) one_more ∙ take-suc line m 0 room in
    let long : length (line_to bytes place end) ≡ end - start = omega (arith, length-take (end - start) line, length-drop start bytes) in
    let within_line : place - start < length (take m line ++ b ∷ []) = omega (arith, ap length parts) in
    ap (λ l. column_at l (place - start)) (sym (line_to-parts bytes place end h) ∙ ap (λ l. l ++ drop end bytes) parts)
    ∙ column_at-ascii (take m line) (drop end bytes) b (place - start) (omega (arith, last)) within_line
    ∙ ap (λ l. get_or (columns_of l) (place - start) 0) (sym parts)
