-- The laws of columns.
--     length-columns_of      each byte has a column
--     end_column-append, end_column-encode      the column behind a text and what is put to it
--     column_at-seam      the column of a place where a character may begin is the one behind the text before it
--     column_at-front      the columns of a line are those of its own bytes
--     end_column-plain, column_at-plain      in ASCII without tabs a column counts the bytes
use Rattle.std.proofs.Common.{◌≡◌, ℕ, zero, suc, ◌+◌, ◌*◌, ◌/◌, ◌<◌, ◌≤◌, Bool, cond, ◌≢◌, List, [], ◌∷◌, ◌++◌, length, drop, get_or, replicate, Option, Some, refl, sym, ap, ap₂, ◌∙◌, arith, length-append, length-drop, append_assoc, append-nil, ne_eqb}
use Rattle.std.specs.List.{fold, AllByRecursion}
use Rattle.std.specs.Char.{IsScalar, encode_utf8}
use Rattle.std.specs.Str.{IsCharBoundary}
use Rattle.std.proofs.lemmas.List.{length-replicate, get_or-append-add, get_or_append_left}
use Rattle.std.proofs.lemmas.List.Sums.{fold-append}
use Rattle.hr_scan.specs.declared.character.Character.{Character}
use Rattle.hr_scan.specs.Characters.{char_at, cell_len, cells}
use Rattle.hr_scan.specs.Columns.{next_column, columns_from, columns_of, end_column, column_at, tab, byte_order_mark}
use Rattle.hr_scan.proofs.Cells.{cells-cut, cell_len-pos, cell_len-fits, cells-append, cells-append_ascii, cells-encode, cells-ascii}

length_upto : (n c : ℕ) (bytes : List ℕ) → length bytes ≤ n → length (columns_from c (cells bytes)) ≡ length bytes
length_upto n c [] h = refl
length_upto zero c (first ∷ rest) h = absurd (omega arith)
length_upto (suc n) c (first ∷ rest) h =
    let bytes = first ∷ rest in
    let cell = char_at bytes in
    let m = cell_len cell in
    let fits : m ≤ length bytes = cell_len-fits bytes (omega arith) in
    let short : length (drop m bytes) ≤ n = omega (arith, length-drop m bytes, cell_len-pos bytes) in
    let more = length_upto n (next_column c cell) (drop m bytes) short in
    ap (λ l. length (columns_from c l)) (cells-cut bytes (omega arith))
    ∙ length-append (replicate m c) _
    ∙ omega (arith, length-replicate m c, more, length-drop m bytes)

pub length-columns_from : (c : ℕ) (bytes : List ℕ) → length (columns_from c (cells bytes)) ≡ length bytes
length-columns_from c bytes = length_upto (length bytes) c bytes (omega arith)

pub length-columns_of : (line : List ℕ) → length (columns_of line) ≡ length line
length-columns_of = length-columns_from 1

columns_from-append : (c : ℕ) (xs ys : List (Option Character)) → columns_from c (xs ++ ys) ≡ columns_from c xs ++ columns_from (fold next_column c xs) ys
columns_from-append c [] ys = refl
columns_from-append c (cell ∷ xs) ys =
    ap (λ l. replicate (cell_len cell) c ++ l) (columns_from-append (next_column c cell) xs ys) ∙ sym (append_assoc (replicate (cell_len cell) c) _ _)

-- the first column, also where no byte has one
front_column : (c : ℕ) (bytes : List ℕ) → get_or (columns_from c (cells bytes) ++ fold next_column c (cells bytes) ∷ []) 0 0 ≡ c
front_column c [] = refl
front_column c (first ∷ rest) =
    let bytes = first ∷ rest in
    let cell = char_at bytes in
    ap (λ l. get_or (columns_from c l ++ fold next_column c (cells bytes) ∷ []) 0 0) (cells-cut bytes (omega arith))
    ∙ first_of (cell_len cell) _ _ (cell_len-pos bytes)
  where
    first_of : (n : ℕ) (xs ys : List ℕ) → 1 ≤ n → get_or ((replicate n c ++ xs) ++ ys) 0 0 ≡ c
    first_of zero xs ys h = absurd (omega arith)
    first_of (suc n) xs ys h = refl

-- where a line is cut off as its cells are, its column there is the one behind the front
column_at-end : (front back : List ℕ) → cells (front ++ back) ≡ cells front ++ cells back → column_at (front ++ back) (length front) ≡ end_column front
column_at-end front back parts =
    let e = end_column front in
    let columns : columns_of (front ++ back) ≡ columns_of front ++ columns_from e (cells back) = ap (columns_from 1) parts ∙ columns_from-append 1 (cells front) (cells back) in
    let end : end_column (front ++ back) ≡ fold next_column e (cells back) = ap (fold next_column 1) parts ∙ fold-append next_column 1 (cells front) (cells back) in
    ap₂ (λ (l : List ℕ) (n : ℕ). get_or (l ++ n ∷ []) (length front) 0) columns end
    ∙ ap₂ (λ (l : List ℕ) (n : ℕ). get_or l n 0) (append_assoc (columns_of front) _ _) (sym (length-columns_of front) ∙ omega arith)
    ∙ get_or-append-add (columns_of front) _ 0 0
    ∙ front_column e back

pub column_at-seam : (front back : List ℕ) → IsCharBoundary back 0 → column_at (front ++ back) (length front) ≡ end_column front
column_at-seam front back boundary = column_at-end front back (cells-append front back boundary)

-- the bytes before that keep their columns
column_at-cut : (front back : List ℕ) (place : ℕ) → cells (front ++ back) ≡ cells front ++ cells back → place < length front → column_at (front ++ back) place ≡ get_or (columns_of front) place 0
column_at-cut front back place parts h =
    let e = end_column front in
    let columns : columns_of (front ++ back) ≡ columns_of front ++ columns_from e (cells back) = ap (columns_from 1) parts ∙ columns_from-append 1 (cells front) (cells back) in
    let long = length-columns_of front in
    ap (λ l. get_or (l ++ end_column (front ++ back) ∷ []) place 0) columns
    ∙ ap (λ l. get_or l place 0) (append_assoc (columns_of front) _ _)
    ∙ get_or_append_left (columns_of front) _ 0 place (omega arith)

pub column_at-front : (front back : List ℕ) (place : ℕ) → IsCharBoundary back 0 → place < length front → column_at (front ++ back) place ≡ get_or (columns_of front) place 0
column_at-front front back place boundary = column_at-cut front back place (cells-append front back boundary)

-- as that of a newline
pub column_at-ascii : (front back : List ℕ) (b place : ℕ) → b < 128 → place < length (front ++ b ∷ []) → column_at ((front ++ b ∷ []) ++ back) place ≡ get_or (columns_of (front ++ b ∷ [])) place 0
column_at-ascii front back b place small = column_at-cut (front ++ b ∷ []) back place (cells-append_ascii front back b small)

pub end_column-append : (front back : List ℕ) → IsCharBoundary back 0 → end_column (front ++ back) ≡ fold next_column (end_column front) (cells back)
end_column-append front back boundary = ap (fold next_column 1) (cells-append front back boundary) ∙ fold-append next_column 1 (cells front) (cells back)

pub end_column-encode : (front : List ℕ) (c : ℕ) → IsScalar c → IsCharBoundary (encode_utf8 c) 0 → end_column (front ++ encode_utf8 c) ≡ next_column (end_column front) (Some (record { code = c; len = length (encode_utf8 c) }))
end_column-encode front c s boundary =
    end_column-append front (encode_utf8 c) boundary
    ∙ ap (fold next_column (end_column front)) (ap cells (sym (append-nil (encode_utf8 c))) ∙ cells-encode c [] s)

-- a byte of ASCII that is no tab
abbrev pub IsPlain : ℕ → Type 0
IsPlain b = (b < 128) × (b ≢ tab)

plain_from : (bytes : List ℕ) (c : ℕ) → AllByRecursion IsPlain bytes → fold next_column c (cells bytes) ≡ c + length bytes
plain_from [] c all = omega arith
plain_from (b ∷ rest) c all =
    let no_mark : b ≢ byte_order_mark = λ e. omega (arith, all.0.0) in
    let next : next_column c (Some (record { code = b; len = 1 })) ≡ c + 1 =
    ap₂ (λ (t m : Bool). cond t ((c + 7) / 8 * 8 + 1) (cond m c (c + 1))) (ne_eqb b tab all.0.1) (ne_eqb b byte_order_mark no_mark) in
    ap (fold next_column c) (cells-ascii b rest all.0.0)
    ∙ ap (λ k. fold next_column k (cells rest)) next
    ∙ plain_from rest (c + 1) all.1 ∙ omega arith

pub end_column-plain : (line : List ℕ) → AllByRecursion IsPlain line → end_column line ≡ length line + 1
end_column-plain line all = plain_from line 1 all ∙ omega arith

-- also where the line goes on
plain_parts : (front back : List ℕ) → AllByRecursion IsPlain front → cells (front ++ back) ≡ cells front ++ cells back
plain_parts [] back all = refl
plain_parts (b ∷ rest) back all =
    cells-ascii b (rest ++ back) all.0.0
    ∙ ap (λ l. Some (record { code = b; len = 1 }) ∷ l) (plain_parts rest back all.1)
    ∙ ap (λ l. l ++ cells back) (sym (cells-ascii b rest all.0.0))

pub column_at-plain : (front back : List ℕ) → AllByRecursion IsPlain front → column_at (front ++ back) (length front) ≡ length front + 1
column_at-plain front back all = column_at-end front back (plain_parts front back all) ∙ end_column-plain front all
