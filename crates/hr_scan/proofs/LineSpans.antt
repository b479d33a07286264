-- Lines as spans of bytes, for code that goes from start to start.
--     starts_within, starts_rising      the starts lie in the text, each behind the one before
--     pos_at-line      the position of a place by the span of its line
--     pos_at-end      the position behind the text
use Rattle.std.proofs.Common.{◌≡◌, ℕ, zero, suc, ◌+◌, ◌-◌, ◌<◌, ◌≤◌, ◌⊎◌, Bool, true, false, List, [], ◌∷◌, ◌++◌, length, drop, take, get_or, refl, sym, ap, ◌∙◌, subst, inl, inr, arith, length-drop, take_all}
use Rattle.std.proofs.lemmas.Bool.{cases_lt}
use Rattle.std.proofs.lemmas.List.{get_or_default, get_or_past}
use Rattle.hr_scan.specs.Columns.{columns_of, end_column}
use Rattle.hr_scan.specs.Lines.{ends_newline, behind_newlines, starts_of_lines}
use Rattle.hr_scan.specs.Positions.{start_at, pos_at}
use Rattle.hr_scan.proofs.LineStarts.{start_behind}
use Rattle.hr_scan.proofs.LineIndex.{at_index, rises_to, starts_rise, Rising}
use Rattle.hr_scan.proofs.Positions.{high_byte}
use Rattle.hr_scan.proofs.PositionColumns.{column_in-line, column_in-last, column_in-seam, line_before}

ends_ascii : (b : ℕ) (rest : List ℕ) → ends_newline (b ∷ rest) ≡ true → b < 128
ends_ascii b rest e = by (cases_lt b 128)
  where
    by : (b < 128) ⊎ (128 ≤ b) → b < 128
    by (inl h) = h
    by (inr h) = let clash : true ≡ false = sym e ∙ high_byte b rest h in absurd (cc)

-- a start behind a newline, of a text that begins at `from`: it lies in the text, behind a byte of ASCII
record Behind (from : ℕ) (bytes : List ℕ) (start : ℕ) : Type 0 where
  low : from + 1 ≤ start
  within : start ≤ from + length bytes
  ascii : get_or bytes ((start - 1) - from) 0 < 128

further : (from b : ℕ) (rest : List ℕ) (start : ℕ) → Behind (from + 1) rest start → Behind from (b ∷ rest) start
further from b rest start h =
    let low = h.low in
    let at : (start - 1) - from ≡ suc ((start - 1) - (from + 1)) = omega arith in
    record { low = omega arith; within = omega (arith, h.within); ascii = subst (λ i. get_or (b ∷ rest) i 0 < 128) (sym at) h.ascii }

behind_at : (from : ℕ) (bytes : List ℕ) (k : ℕ) → k < length (behind_newlines from bytes) → Behind from bytes (get_or (behind_newlines from bytes) k 0)
behind_at from [] k h = absurd (omega arith)
behind_at from (b ∷ rest) k h = by (ends_newline (b ∷ rest)) refl k h (λ i l. further from b rest _ (behind_at (from + 1) rest i l))
  where
    by : (t : Bool) → ends_newline (b ∷ rest) ≡ t → (k : ℕ) → k < length (start_behind t from ++ behind_newlines (from + 1) rest)
        → ((i : ℕ) → i < length (behind_newlines (from + 1) rest) → Behind from (b ∷ rest) (get_or (behind_newlines (from + 1) rest) i 0))
        → Behind from (b ∷ rest) (get_or (start_behind t from ++ behind_newlines (from + 1) rest) k 0)
    by false e k h later = later k h
    by true e zero h later =
        let at : ((from + 1) - 1) - from ≡ 0 = omega arith in
        record { low = omega arith; within = omega arith; ascii = subst (λ i. get_or (b ∷ rest) i 0 < 128) (sym at) (ends_ascii b rest e) }
    by true e (suc k) h later = later k (omega arith)

next_at : (bytes : List ℕ) (k : ℕ) → k + 1 < length (starts_of_lines bytes) → Behind 0 bytes (get_or (starts_of_lines bytes) (k + 1) 0)
next_at bytes k h =
    let one : k + 1 ≡ suc k = omega arith in
    subst (λ i. Behind 0 bytes (get_or (starts_of_lines bytes) i 0)) (sym one) (behind_at 0 bytes k (omega arith))

pub starts_within : (bytes : List ℕ) (k : ℕ) → k < length (starts_of_lines bytes) → get_or (starts_of_lines bytes) k 0 ≤ length bytes
starts_within bytes zero h = omega arith
starts_within bytes (suc k) h = let b = behind_at 0 bytes k (omega arith) in omega (arith, b.within)

rising_step : (low : ℕ) (xs : List ℕ) (k : ℕ) → Rising low xs → k + 1 < length xs → get_or xs k 0 < get_or xs (k + 1) 0
rising_step low [] k r h = absurd (omega arith)
rising_step low (x ∷ xs) zero r h = let next : 0 + 1 ≡ 1 = omega arith in let m = rises_to (x + 1) xs 0 r.1 (omega arith) in omega arith
rising_step low (x ∷ xs) (suc k) r h =
    let next : suc k + 1 ≡ suc (k + 1) = omega arith in
    subst (λ i. get_or xs k 0 < get_or (x ∷ xs) i 0) (sym next) (rising_step (x + 1) xs k r.1 (omega arith))

pub starts_rising : (bytes : List ℕ) (k : ℕ) → k + 1 < length (starts_of_lines bytes) → get_or (starts_of_lines bytes) k 0 < get_or (starts_of_lines bytes) (k + 1) 0
starts_rising bytes k h = rising_step 0 (starts_of_lines bytes) k (omega arith, starts_rise 0 bytes) h

-- where line k + 1 ends: at the next start, or with the text
abbrev pub line_end : List ℕ → ℕ → ℕ
line_end bytes k = get_or (starts_of_lines bytes) (k + 1) (length bytes)

-- the bytes of line k + 1, with its newline
abbrev pub line_text : List ℕ → ℕ → List ℕ
line_text bytes k = take (line_end bytes k - get_or (starts_of_lines bytes) k 0) (drop (get_or (starts_of_lines bytes) k 0) bytes)

-- a place in line k + 1 has that line, and the column that the line's own bytes give it
pub pos_at-line : (bytes : List ℕ) (k place : ℕ) → k < length (starts_of_lines bytes) → get_or (starts_of_lines bytes) k 0 ≤ place → place < line_end bytes k
    → pos_at bytes place ≡ (k + 1, get_or (columns_of (line_text bytes k)) (place - get_or (starts_of_lines bytes) k 0) 0)
pos_at-line bytes k place h low high = by (cases_lt (k + 1) (length (starts_of_lines bytes)))
  where
    by : (k + 1 < length (starts_of_lines bytes)) ⊎ (length (starts_of_lines bytes) ≤ k + 1)
        → pos_at bytes place ≡ (k + 1, get_or (columns_of (line_text bytes k)) (place - get_or (starts_of_lines bytes) k 0) 0)
    by (inl more) =
        let end : line_end bytes k ≡ get_or (starts_of_lines bytes) (k + 1) 0 = get_or_default (starts_of_lines bytes) (k + 1) (length bytes) 0 more in
        let index = at_index bytes place k h low (λ _. omega (arith, end)) in
        let b = next_at bytes k more in
        let column = column_in-line bytes place (line_end bytes k) high (omega (arith, end, b.within)) (subst (λ i. get_or bytes i 0 < 128) (omega (arith, end)) b.ascii) in
        (λ i. (index.0 i, (column ∙ ap (λ s. get_or (columns_of (take (line_end bytes k - s) (drop s bytes))) (place - s) 0) index.1) i))
    by (inr none) =
        let end : line_end bytes k ≡ length bytes = get_or_past (starts_of_lines bytes) (k + 1) (length bytes) none in
        let index = at_index bytes place k h low (λ some. absurd (omega arith)) in
        let column = column_in-last bytes place (omega (arith, end)) ∙ ap (λ n. get_or (columns_of (take (n - start_at bytes place) (drop (start_at bytes place) bytes))) (place - start_at bytes place) 0) (sym end) in
        (λ i. (index.0 i, (column ∙ ap (λ s. get_or (columns_of (take (line_end bytes k - s) (drop s bytes))) (place - s) 0) index.1) i))

-- behind the text: the last line, and the column behind it
pub pos_at-end : (bytes : List ℕ) (k : ℕ) → length (starts_of_lines bytes) ≡ k + 1 → pos_at bytes (length bytes) ≡ (k + 1, end_column (drop (get_or (starts_of_lines bytes) k 0) bytes))
pos_at-end bytes k last =
    let place = length bytes in
    let index = at_index bytes place k (omega arith) (starts_within bytes k (omega arith)) (λ some. absurd (omega arith)) in
    let whole : line_before bytes place ≡ drop (start_at bytes place) bytes =
    take_all (place - start_at bytes place) (drop (start_at bytes place) bytes) (omega (arith, length-drop (start_at bytes place) bytes)) in
    let column = column_in-seam bytes place (omega arith, λ l. absurd (omega arith)) ∙ ap end_column whole ∙ ap (λ s. end_column (drop s bytes)) index.1 in
    λ i. (index.0 i, column i)
