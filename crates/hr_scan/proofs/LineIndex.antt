-- The line of a place by the list of starts: where start number k is at the place or before it, and the
-- next one is not, the place is in line k + 1, which starts there (`at_index`).
use Rattle.std.proofs.Common.{◌≡◌, ℕ, zero, suc, ◌+◌, ◌<◌, ◌≤◌, nat_le, Bool, true, false, cond, List, [], ◌∷◌, ◌++◌, length, get_or, refl, sym, ap, ap₂, ◌∙◌, subst, arith, le-leb}
use Rattle.std.specs.List.{count_by}
use Rattle.std.proofs.lemmas.Bool.{lt-leb}
use Rattle.hr_scan.specs.Lines.{ends_newline, behind_newlines, starts_of_lines}
use Rattle.hr_scan.specs.Positions.{line_at, start_at}
use Rattle.hr_scan.proofs.LineStarts.{start_behind}
use Rattle.hr_scan.proofs.Positions.{count_first}

-- the numbers rise, from this one on
abbrev pub Rising : ℕ → List ℕ → Type 0
Rising low [] = Unit {0}
Rising low (x ∷ xs) = (low ≤ x) × Rising (x + 1) xs

lower : (low high : ℕ) (xs : List ℕ) → low ≤ high → Rising high xs → Rising low xs
lower low high [] h r = tt
lower low high (x ∷ xs) h r = (let l = r.0 in omega arith, r.1)

pub starts_rise : (from : ℕ) (bytes : List ℕ) → Rising (from + 1) (behind_newlines from bytes)
starts_rise from [] = tt
starts_rise from (b ∷ rest) =
    let more = starts_rise (from + 1) rest in
    elim (ends_newline (b ∷ rest)) as (λ t. Rising (from + 1) (start_behind t from ++ behind_newlines (from + 1) rest)) [
      | true ↦ (omega arith, more)
      | false ↦ lower (from + 1) ((from + 1) + 1) (behind_newlines (from + 1) rest) (omega arith) more
    ]

none_high : (place low : ℕ) (xs : List ℕ) → place < low → Rising low xs → count_by (λ s. nat_le s place) xs ≡ 0
none_high place low [] h r = refl
none_high place low (x ∷ xs) h r =
    let l = r.0 in
    count_first (λ s. nat_le s place) x xs ∙ ap₂ (λ (t : Bool) (n : ℕ). cond t 1 0 + n) (lt-leb x place (omega arith)) (none_high place (x + 1) xs (omega arith) r.1)

pub rises_to : (low : ℕ) (xs : List ℕ) (k : ℕ) → Rising low xs → k < length xs → low ≤ get_or xs k 0
rises_to low [] k r h = absurd (omega arith)
rises_to low (x ∷ xs) zero r h = r.0
rises_to low (x ∷ xs) (suc k) r h = let l = r.0 in let m = rises_to (x + 1) xs k r.1 (omega arith) in omega arith

above : (place low : ℕ) (xs : List ℕ) → Rising low xs → (0 < length xs → place < get_or xs 0 0) → count_by (λ s. nat_le s place) xs ≡ 0
above place low [] r h = refl
above place low (x ∷ xs) r h = none_high place x (x ∷ xs) (h (omega arith)) (omega arith, r.1)

count_rising : (place low : ℕ) (xs : List ℕ) (k : ℕ) → Rising low xs → k < length xs → get_or xs k 0 ≤ place
    → (suc k < length xs → place < get_or xs (suc k) 0) → count_by (λ s. nat_le s place) xs ≡ suc k
count_rising place low [] k r h at before = absurd (omega arith)
count_rising place low (x ∷ xs) zero r h at before =
    count_first (λ s. nat_le s place) x xs
    ∙ ap₂ (λ (t : Bool) (n : ℕ). cond t 1 0 + n) (le-leb x place at) (above place (x + 1) xs r.1 (λ some. before (omega arith)))
count_rising place low (x ∷ xs) (suc k) r h at before =
    let m = rises_to (x + 1) xs k r.1 (omega arith) in
    count_first (λ s. nat_le s place) x xs
    ∙ ap₂ (λ (t : Bool) (n : ℕ). cond t 1 0 + n) (le-leb x place (omega arith)) (count_rising place (x + 1) xs k r.1 (omega arith) at (λ some. before (omega arith)))
    ∙ omega arith

pub at_index : (bytes : List ℕ) (place k : ℕ) → k < length (starts_of_lines bytes) → get_or (starts_of_lines bytes) k 0 ≤ place
    → (k + 1 < length (starts_of_lines bytes) → place < get_or (starts_of_lines bytes) (k + 1) 0)
    → (line_at bytes place ≡ k + 1) × (start_at bytes place ≡ get_or (starts_of_lines bytes) k 0)
at_index bytes place k h at before =
    let starts = starts_of_lines bytes in
    let next : suc k ≡ k + 1 = omega arith in
    let counted : line_at bytes place ≡ k + 1 =
    count_rising place 0 starts k (omega arith, starts_rise 0 bytes) h at (λ some. subst (λ i. place < get_or starts i 0) (sym next) (before (omega arith))) ∙ next in
    (counted, ap (λ n. get_or starts n 0) (omega arith))
