-- The laws of positions.
--     line_at-zero, start_at-zero      the first place
--     line_at-newlines      a line's number is one more than the newlines before it
--     line_at-add, start_at-same, start_at-later      any number of bytes further
--     line_at-newline, line_at-cell      one newline, and a cell that is none
--     start_at-le      a line starts at its places or before them
use Rattle.std.proofs.Common.{◌≡◌, ℕ, zero, suc, ◌+◌, ◌-◌, ◌<◌, ◌≤◌, nat_le, Bool, true, false, cond, List, [], ◌∷◌, ◌++◌, drop, get_or, Option, Some, None, refl, sym, ap, ap₂, ◌∙◌, arith, add_assoc, le-leb, ne_eqb, not, ◌&&◌, ◌||◌}
use Rattle.std.specs.List.{fold, count_by}
use Rattle.std.proofs.lemmas.Bool.{lt-leb}
use Rattle.std.specs.Char.{encode_utf8}
use Rattle.std.proofs.lemmas.List.{get_or_append_left}
use Rattle.hr_scan.specs.declared.character.Character.{Character}
use Rattle.hr_scan.specs.Characters.{char_at, cell_len}
use Rattle.hr_scan.specs.Lines.{ends_newline, behind_newlines, starts_of_lines, linefeed, form_feed, carriage_return, begins_with_linefeed}
use Rattle.hr_scan.proofs.Characters.{char_at-sound}
use Rattle.hr_scan.proofs.Spelling.{continues_at}
use Rattle.hr_scan.proofs.Cells.{cell_len-pos}
use Rattle.hr_scan.specs.Positions.{line_at, start_at}
use Rattle.hr_scan.proofs.LineStarts.{start_behind}

-- how many newlines end at the place or before it
abbrev pub newlines_to : List ℕ → ℕ → ℕ
newlines_to [] place = 0
newlines_to (b ∷ rest) zero = 0
newlines_to (b ∷ rest) (suc place) = cond (ends_newline (b ∷ rest)) 1 0 + newlines_to rest place

-- the last place up to this one behind a newline, of a text that begins at `from`, and else `start`
abbrev last_start : ℕ → ℕ → List ℕ → ℕ → ℕ
last_start start from [] place = start
last_start start from (b ∷ rest) zero = start
last_start start from (b ∷ rest) (suc place) = last_start (cond (ends_newline (b ∷ rest)) (from + 1) start) (from + 1) rest place

-- ---- counts
count_start : (p : ℕ → Bool) (n : ℕ) (xs : List ℕ) → fold (λ a x. a + cond (p x) 1 0) n xs ≡ n + count_by p xs
count_start p n [] = omega arith
count_start p n (x ∷ xs) =
    count_start p (n + cond (p x) 1 0) xs ∙ omega (arith, count_start p (0 + cond (p x) 1 0) xs)

pub count_first : (p : ℕ → Bool) (x : ℕ) (xs : List ℕ) → count_by p (x ∷ xs) ≡ cond (p x) 1 0 + count_by p xs
count_first p x xs = count_start p (0 + cond (p x) 1 0) xs ∙ omega arith

-- none of the starts behind newlines of a text lies at its beginning or before it
none_before : (from place : ℕ) (bytes : List ℕ) → place ≤ from → count_by (λ s. nat_le s place) (behind_newlines from bytes) ≡ 0
none_before from place [] h = refl
none_before from place (b ∷ rest) h =
    let more = behind_newlines (from + 1) rest in
    let none = none_before (from + 1) place rest (omega arith) in
    elim (ends_newline (b ∷ rest)) as (λ t. count_by (λ s. nat_le s place) (start_behind t from ++ more) ≡ 0) [
      | true ↦ count_first (λ s. nat_le s place) (from + 1) more ∙ ap₂ (λ (t : Bool) (n : ℕ). cond t 1 0 + n) (lt-leb (from + 1) place (omega arith)) none
      | false ↦ none
    ]

counted : (from : ℕ) (bytes : List ℕ) (place : ℕ) → count_by (λ s. nat_le s (from + place)) (behind_newlines from bytes) ≡ newlines_to bytes place
counted from [] place = refl
counted from (b ∷ rest) zero = none_before from (from + 0) (b ∷ rest) (omega arith)
counted from (b ∷ rest) (suc place) =
    let more = behind_newlines (from + 1) rest in
    let same : count_by (λ s. nat_le s (from + suc place)) more ≡ newlines_to rest place = ap (λ n. count_by (λ s. nat_le s n) more) (omega arith) ∙ counted (from + 1) rest place in
    elim (ends_newline (b ∷ rest)) as (λ t. count_by (λ s. nat_le s (from + suc place)) (start_behind t from ++ more) ≡ cond t 1 0 + newlines_to rest place) [
      | true ↦ count_first (λ s. nat_le s (from + suc place)) (from + 1) more ∙ ap₂ (λ (t : Bool) (n : ℕ). cond t 1 0 + n) (le-leb (from + 1) (from + suc place) (omega arith)) same
      | false ↦ same ∙ omega arith
    ]

-- the line of a place is one more than the newlines that end before it
pub line_at-newlines : (bytes : List ℕ) (place : ℕ) → line_at bytes place ≡ 1 + newlines_to bytes place
line_at-newlines bytes place =
    count_first (λ s. nat_le s place) 0 (behind_newlines 0 bytes)
    ∙ ap₂ (λ (t : Bool) (n : ℕ). cond t 1 0 + n) (le-leb 0 place (omega arith)) (ap (λ n. count_by (λ s. nat_le s n) (behind_newlines 0 bytes)) (omega arith) ∙ counted 0 bytes place)

-- ---- where the line starts
reached : (start from : ℕ) (bytes : List ℕ) (place : ℕ) → get_or (start ∷ behind_newlines from bytes) (newlines_to bytes place) 0 ≡ last_start start from bytes place
reached start from [] place = refl
reached start from (b ∷ rest) zero = refl
reached start from (b ∷ rest) (suc place) =
    let more = behind_newlines (from + 1) rest in
    let one : 1 + newlines_to rest place ≡ suc (newlines_to rest place) = omega arith in
    let none : 0 + newlines_to rest place ≡ newlines_to rest place = omega arith in
    elim (ends_newline (b ∷ rest)) as (λ t. get_or (start ∷ (start_behind t from ++ more)) (cond t 1 0 + newlines_to rest place) 0 ≡ last_start (cond t (from + 1) start) (from + 1) rest place) [
      | true ↦ ap (λ n. get_or (start ∷ (from + 1) ∷ more) n 0) one ∙ reached (from + 1) (from + 1) rest place
      | false ↦ ap (λ n. get_or (start ∷ more) n 0) none ∙ reached start (from + 1) rest place
    ]

start_at-last : (bytes : List ℕ) (place : ℕ) → start_at bytes place ≡ last_start 0 0 bytes place
start_at-last bytes place =
    ap (λ n. get_or (starts_of_lines bytes) n 0) (omega (arith, line_at-newlines bytes place)) ∙ reached 0 0 bytes place

-- ---- the laws
pub line_at-zero : (bytes : List ℕ) → line_at bytes 0 ≡ 1
line_at-zero bytes = line_at-newlines bytes 0 ∙ ap (λ n. 1 + n) (none bytes)
  where
    none : (bytes : List ℕ) → newlines_to bytes 0 ≡ 0
    none [] = refl
    none (b ∷ rest) = refl

pub start_at-zero : (bytes : List ℕ) → start_at bytes 0 ≡ 0
start_at-zero bytes = start_at-last bytes 0 ∙ none bytes
  where
    none : (bytes : List ℕ) → last_start 0 0 bytes 0 ≡ 0
    none [] = refl
    none (b ∷ rest) = refl

newlines_to-add : (bytes : List ℕ) (place more : ℕ) → newlines_to bytes (place + more) ≡ newlines_to bytes place + newlines_to (drop place bytes) more
newlines_to-add [] zero more = refl
newlines_to-add [] (suc place) more = refl
newlines_to-add (b ∷ rest) zero more = let same : 0 + more ≡ more = omega arith in ap (newlines_to (b ∷ rest)) same ∙ omega arith
newlines_to-add (b ∷ rest) (suc place) more =
    let further : suc place + more ≡ suc (place + more) = omega arith in
    ap (newlines_to (b ∷ rest)) further ∙ omega (arith, newlines_to-add rest place more)

-- the lines of what comes behind a place count on
pub line_at-add : (bytes : List ℕ) (place more : ℕ) → line_at bytes (place + more) + 1 ≡ line_at bytes place + line_at (drop place bytes) more
line_at-add bytes place more =
    omega (arith, line_at-newlines bytes (place + more), line_at-newlines bytes place, line_at-newlines (drop place bytes) more, newlines_to-add bytes place more)

last_start-add : (start from : ℕ) (bytes : List ℕ) (place more : ℕ)
    → last_start start from bytes (place + more) ≡ last_start (last_start start from bytes place) (from + place) (drop place bytes) more
last_start-add start from [] zero more = refl
last_start-add start from [] (suc place) more = refl
last_start-add start from (b ∷ rest) zero more = ap₂ (λ (k n : ℕ). last_start start k (b ∷ rest) n) (omega arith) (omega arith)
last_start-add start from (b ∷ rest) (suc place) more =
    let further : suc place + more ≡ suc (place + more) = omega arith in
    let begun = cond (ends_newline (b ∷ rest)) (from + 1) start in
    ap (last_start start from (b ∷ rest)) further
    ∙ last_start-add begun (from + 1) rest place more
    ∙ ap (λ k. last_start (last_start begun (from + 1) rest place) k (drop place rest) more) (omega arith)

last_start-none : (start from : ℕ) (bytes : List ℕ) (place : ℕ) → newlines_to bytes place ≡ 0 → last_start start from bytes place ≡ start
last_start-none start from [] place h = refl
last_start-none start from (b ∷ rest) zero h = refl
last_start-none start from (b ∷ rest) (suc place) h =
    let none : newlines_to rest place ≡ 0 = omega arith in
    last_start-none (cond (ends_newline (b ∷ rest)) (from + 1) start) (from + 1) rest place none
    ∙ elim (ends_newline (b ∷ rest)) as (λ t. cond t 1 0 + newlines_to rest place ≡ 0 → cond t (from + 1) start ≡ start) [ true ↦ λ k. absurd (omega arith) | false ↦ λ k. refl ] h

-- all places shift together
last_start-shift : (k start from : ℕ) (bytes : List ℕ) (place : ℕ) → last_start (k + start) (k + from) bytes place ≡ k + last_start start from bytes place
last_start-shift k start from [] place = refl
last_start-shift k start from (b ∷ rest) zero = refl
last_start-shift k start from (b ∷ rest) (suc place) =
    let begun : cond (ends_newline (b ∷ rest)) ((k + from) + 1) (k + start) ≡ k + cond (ends_newline (b ∷ rest)) (from + 1) start =
    elim (ends_newline (b ∷ rest)) as (λ t. cond t ((k + from) + 1) (k + start) ≡ k + cond t (from + 1) start) [ true ↦ omega arith | false ↦ refl ] in
    ap₂ (λ (s f : ℕ). last_start s f rest place) begun (add_assoc k from 1) ∙ last_start-shift k (cond (ends_newline (b ∷ rest)) (from + 1) start) (from + 1) rest place

-- and behind a newline it does not matter where the line before it started
last_start-some : (k start other from : ℕ) (bytes : List ℕ) (place : ℕ) → 0 < newlines_to bytes place → last_start start (k + from) bytes place ≡ k + last_start other from bytes place
last_start-some k start other from [] place h = absurd (omega arith)
last_start-some k start other from (b ∷ rest) zero h = absurd (omega arith)
last_start-some k start other from (b ∷ rest) (suc place) h =
    let behind : last_start ((k + from) + 1) ((k + from) + 1) rest place ≡ k + last_start (from + 1) (from + 1) rest place =
    ap (λ n. last_start n n rest place) (add_assoc k from 1) ∙ last_start-shift k (from + 1) (from + 1) rest place in
    let further : 0 < newlines_to rest place → last_start start ((k + from) + 1) rest place ≡ k + last_start other (from + 1) rest place =
    λ more. ap (λ n. last_start start n rest place) (add_assoc k from 1) ∙ last_start-some k start other (from + 1) rest place more in
    elim (ends_newline (b ∷ rest)) as (λ t. 0 < cond t 1 0 + newlines_to rest place → last_start (cond t ((k + from) + 1) start) ((k + from) + 1) rest place ≡ k + last_start (cond t (from + 1) other) (from + 1) rest place) [
      | true ↦ λ _. behind
      | false ↦ λ more. further (omega arith)
    ] h

-- where no newline ends on the way, the line is the same
pub start_at-same : (bytes : List ℕ) (place more : ℕ) → line_at (drop place bytes) more ≡ 1 → start_at bytes (place + more) ≡ start_at bytes place
start_at-same bytes place more h =
    start_at-last bytes (place + more) ∙ last_start-add 0 0 bytes place more
    ∙ last_start-none (last_start 0 0 bytes place) (0 + place) (drop place bytes) more (omega (arith, line_at-newlines (drop place bytes) more))
    ∙ sym (start_at-last bytes place)

-- where one does, the line starts as that of what comes behind the place
pub start_at-later : (bytes : List ℕ) (place more : ℕ) → 1 < line_at (drop place bytes) more → start_at bytes (place + more) ≡ place + start_at (drop place bytes) more
start_at-later bytes place more h =
    start_at-last bytes (place + more) ∙ last_start-add 0 0 bytes place more
    ∙ ap (λ n. last_start (last_start 0 0 bytes place) n (drop place bytes) more) (omega arith)
    ∙ last_start-some place (last_start 0 0 bytes place) 0 0 (drop place bytes) more (omega (arith, line_at-newlines (drop place bytes) more))
    ∙ ap (λ n. place + n) (sym (start_at-last (drop place bytes) more))

last_start-le : (start from : ℕ) (bytes : List ℕ) (place : ℕ) → start ≤ from → last_start start from bytes place ≤ from + place
last_start-le start from [] place h = omega arith
last_start-le start from (b ∷ rest) zero h = omega arith
last_start-le start from (b ∷ rest) (suc place) h =
    let begun : cond (ends_newline (b ∷ rest)) (from + 1) start ≤ from + 1 = elim (ends_newline (b ∷ rest)) as (λ t. cond t (from + 1) start ≤ from + 1) [ true ↦ omega arith | false ↦ omega arith ] in
    omega (arith, last_start-le (cond (ends_newline (b ∷ rest)) (from + 1) start) (from + 1) rest place begun)

pub start_at-le : (bytes : List ℕ) (place : ℕ) → start_at bytes place ≤ place
start_at-le bytes place = omega (arith, start_at-last bytes place, last_start-le 0 0 bytes place (omega arith))

-- one byte further, behind a newline
pub line_at-newline : (bytes : List ℕ) → ends_newline bytes ≡ true → (line_at bytes 1 ≡ 2) × (start_at bytes 1 ≡ 1)
line_at-newline [] e = absurd (cc)
line_at-newline (b ∷ rest) e = (
  line_at-newlines (b ∷ rest) 1 ∙ ap (λ t. 1 + (cond t 1 0 + newlines_to rest 0)) e ∙ omega (arith, line_at-newlines rest 0, line_at-zero rest),
  start_at-last (b ∷ rest) 1 ∙ ap (λ t. last_start (cond t 1 0) 1 rest 0) e ∙ none rest,
)
  where
    none : (bytes : List ℕ) → last_start 1 1 bytes 0 ≡ 1
    none [] = refl
    none (b ∷ rest) = refl

-- ---- no newline ends with a byte beyond ASCII
pub high_byte : (b : ℕ) (rest : List ℕ) → 128 ≤ b → ends_newline (b ∷ rest) ≡ false
high_byte b rest h =
    λ i. (ne_eqb b linefeed (λ e. omega arith) i || ne_eqb b form_feed (λ e. omega arith) i) || (ne_eqb b carriage_return (λ e. omega arith) i && not (begins_with_linefeed rest))

none_high : (bytes : List ℕ) (n : ℕ) → ((k : ℕ) → k < n → 128 ≤ get_or bytes k 0) → newlines_to bytes n ≡ 0
none_high [] n h = refl
none_high (b ∷ rest) zero h = refl
none_high (b ∷ rest) (suc n) h =
    ap₂ (λ (t : Bool) (m : ℕ). cond t 1 0 + m) (high_byte b rest (h 0 (omega arith))) (none_high rest n (λ k l. h (suc k) (omega arith)))

-- a cell whose first byte ends no newline has no newline
pub line_at-cell : (bytes : List ℕ) → ends_newline bytes ≡ false → line_at bytes (cell_len (char_at bytes)) ≡ 1
line_at-cell bytes e = line_at-newlines bytes (cell_len (char_at bytes)) ∙ ap (λ n. 1 + n) (none bytes e)
  where
    inside : (first : ℕ) (rest : List ℕ) (c : Character) → char_at (first ∷ rest) ≡ Some c → (k : ℕ) → k < c.len - 1 → 128 ≤ get_or rest k 0
    inside first rest c found k h =
        let b = char_at-sound (first ∷ rest) c found in
        let long = b.len in
        let follows = continues_at c.code (suc k) (omega arith) (omega arith) in
        let here : get_or rest k 0 ≡ get_or (encode_utf8 c.code) (suc k) 0 = ap (λ l. get_or l (suc k) 0) b.bytes_are ∙ get_or_append_left (encode_utf8 c.code) _ 0 (suc k) (omega arith) in
        omega (arith, follows.0, here)

    by : (first : ℕ) (rest : List ℕ) (o : Option Character) (n : ℕ) → char_at (first ∷ rest) ≡ o → 1 ≤ cell_len o → n ≡ cell_len o - 1 → newlines_to rest n ≡ 0
    by first rest None n found some is = none_high rest n (λ k h. absurd (omega arith))
    by first rest (Some c) n found some is = none_high rest n (λ k h. inside first rest c found k (omega arith))

    none : (bytes : List ℕ) → ends_newline bytes ≡ false → newlines_to bytes (cell_len (char_at bytes)) ≡ 0
    none [] e = refl
    none (first ∷ rest) e =
        let some = cell_len-pos (first ∷ rest) in
        let n = cell_len (char_at (first ∷ rest)) - 1 in
        let further : cell_len (char_at (first ∷ rest)) ≡ suc n = omega arith in
        ap (newlines_to (first ∷ rest)) further
        ∙ ap₂ (λ (t : Bool) (m : ℕ). cond t 1 0 + m) e (by first rest (char_at (first ∷ rest)) n refl some refl)
