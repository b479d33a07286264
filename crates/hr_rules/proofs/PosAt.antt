-- The position behind a part of a text is that of the place where it is cut.
use Rattle.std.proofs.Common.{◌≡◌, ℕ, zero, suc, ◌+◌, ◌-◌, ◌<◌, ◌≤◌, Bool, true, false, cond, List, [], ◌∷◌, ◌++◌, length, drop, slice_index, refl, sym, ap, ap₂, ◌∙◌, arith, append_assoc, length-drop, true≢false, subst, inl, inr}
use Rattle.std.specs.List.{fold}
use Rattle.std.proofs.lemmas.Bool.{cases_lt}
use Rattle.std.proofs.lemmas.List.{drop-append-le, drop-drop, get_or_append_left}
use Rattle.hr_base.specs.declared.place.Pos.{Pos}
use Rattle.hr_scan.specs.Characters.{char_at, cell_len, cells}
use Rattle.hr_scan.specs.Columns.{next_column, end_column, column_at}
use Rattle.hr_scan.specs.Lines.{ends_newline, begins_with_linefeed, behind_newlines, starts_of_lines}
use Rattle.hr_scan.specs.Positions.{line_at, start_at, column_in}
use Rattle.hr_scan.proofs.Characters.{char_at-ascii}
use Rattle.hr_scan.proofs.Cells.{cells-cut, cell_len-pos, cell_len-fits}
use Rattle.hr_scan.proofs.ColumnLaws.{column_at-seam}
use Rattle.hr_scan.proofs.LineStarts.{start_behind}
use Rattle.hr_scan.proofs.Positions.{newlines_to, high_byte, line_at-zero, line_at-newlines, line_at-add, line_at-newline, line_at-cell, start_at-zero, start_at-same, start_at-later, start_at-le}
use Rattle.hr_rules.specs.Positions.{behind, behind_front, origin}
use Rattle.hr_rules.specs.PositionLaws.{ends_with_return, IsSeam, BehindIsPosAt}
use Rattle.hr_rules.proofs.Behind.{behind-cut}
use Rattle.hr_rules.proofs.GoOn.{ends_newline-seam, ends-drop}

-- ---- a text alone
-- the column behind the last line of a text
abbrev line_end : List ℕ → ℕ
line_end front = end_column (drop (start_at front (length front)) front)

line_end-later : (front : List ℕ) (m : ℕ) → m ≤ length front → 1 < line_at (drop m front) (length (drop m front)) → line_end front ≡ line_end (drop m front)
line_end-later front m h more =
    let k = length (drop m front) in
    let whole : length front ≡ m + k = omega (arith, length-drop m front) in
    ap (λ n. end_column (drop (start_at front n) front)) whole
    ∙ ap (λ s. end_column (drop s front)) (start_at-later front m k more)
    ∙ ap end_column (sym (drop-drop (start_at (drop m front) k) m front))

line_end-same : (front : List ℕ) (m : ℕ) → m ≤ length front → line_at (drop m front) (length (drop m front)) ≡ 1 → line_end front ≡ end_column (drop (start_at front m) front)
line_end-same front m h one =
    let whole : length front ≡ m + length (drop m front) = omega (arith, length-drop m front) in
    ap (λ n. end_column (drop (start_at front n) front)) whole ∙ ap (λ s. end_column (drop s front)) (start_at-same front m (length (drop m front)) one)

-- what the position behind a text is
record Stands (pos : Pos) (front : List ℕ) : Type 0 where
  line : (behind pos front).line + 1 ≡ pos.line + line_at front (length front)
  same : line_at front (length front) ≡ 1 → (behind pos front).col ≡ fold next_column pos.col (cells front)
  later : 1 < line_at front (length front) → (behind pos front).col ≡ line_end front

small_newline : (b : ℕ) (rest : List ℕ) → ends_newline (b ∷ rest) ≡ true → b < 128
small_newline b rest e = elim (cases_lt b 128) [ inl h ↦ h | inr h ↦ absurd (true≢false (sym e ∙ high_byte b rest h)) ]

stands_newline : (pos : Pos) (b : ℕ) (rest : List ℕ) → ends_newline (b ∷ rest) ≡ true → Stands (record { line = pos.line + 1; col = 1 }) rest → Stands pos (b ∷ rest)
stands_newline pos b rest e s =
    let front = b ∷ rest in
    let here : Pos = record { line = pos.line + 1; col = 1 } in
    let cell : drop (cell_len (char_at front)) front ≡ rest = ap (λ o. drop (cell_len o) front) (char_at-ascii b rest (small_newline b rest e)) in
    let further : behind_front pos front ≡ here = ap (λ t. cond t here (record { line = pos.line; col = next_column pos.col (char_at front) })) e in
    let is : behind pos front ≡ behind here rest = behind-cut pos front (omega arith) ∙ ap₂ (λ (p : Pos) (l : List ℕ). behind p l) further cell in
    let one = line_at-newline front e in
    let long : length front ≡ 1 + length rest = omega arith in
    let lines : line_at front (length front) ≡ line_at front (1 + length rest) = ap (line_at front) long in
    let add = line_at-add front 1 (length rest) in
    let some = line_at-newlines rest (length rest) in
    record {
      line = omega (arith, ap (λ p. p.line) is, s.line, lines, add, one.0);
      same = λ k. absurd (omega (arith, lines, add, one.0, some, k));
      later = λ k. ap (λ p. p.col) is ∙ elim (cases_lt 1 (line_at rest (length rest))) [
        | inl more ↦ s.later more ∙ sym (line_end-later front 1 (omega arith) more)
        | inr less ↦ (let none : line_at rest (length rest) ≡ 1 = omega (arith, some) in s.same none ∙ sym (line_end-same front 1 (omega arith) none ∙ ap (λ n. end_column (drop n front)) one.1))
      ];
    }

stands_cell : (pos : Pos) (b : ℕ) (rest : List ℕ) → ends_newline (b ∷ rest) ≡ false
    → Stands (record { line = pos.line; col = next_column pos.col (char_at (b ∷ rest)) }) (drop (cell_len (char_at (b ∷ rest))) (b ∷ rest)) → Stands pos (b ∷ rest)
stands_cell pos b rest e s =
    let front = b ∷ rest in
    let m = cell_len (char_at front) in
    let left = drop m front in
    let here : Pos = record { line = pos.line; col = next_column pos.col (char_at front) } in
    let further : behind_front pos front ≡ here = ap (λ t. cond t (record { line = pos.line + 1; col = 1 }) here) e in
    let is : behind pos front ≡ behind here left = behind-cut pos front (omega arith) ∙ ap (λ p. behind p left) further in
    let fits : m ≤ length front = cell_len-fits front (omega arith) in
    let long : length front ≡ m + length left = omega (arith, length-drop m front) in
    let lines : line_at front (length front) ≡ line_at front (m + length left) = ap (line_at front) long in
    let add = line_at-add front m (length left) in
    let one = line_at-cell front e in
    let equal : line_at front (length front) ≡ line_at left (length left) = omega (arith, lines, add, one) in
    record {
      line = omega (arith, ap (λ p. p.line) is, s.line, equal);
      same = λ k. ap (λ p. p.col) is ∙ s.same (sym equal ∙ k) ∙ ap (fold next_column pos.col) (sym (cells-cut front (omega arith)));
      later = λ k. (let more : 1 < line_at left (length left) = omega (arith, equal, k) in ap (λ p. p.col) is ∙ s.later more ∙ sym (line_end-later front m fits more));
    }

stands_step : (pos : Pos) (b : ℕ) (rest : List ℕ) (t : Bool) → ends_newline (b ∷ rest) ≡ t → ((p : Pos) → Stands p (drop (cell_len (char_at (b ∷ rest))) (b ∷ rest))) → Stands pos (b ∷ rest)
stands_step pos b rest true e s =
    let here : Pos = record { line = pos.line + 1; col = 1 } in
    stands_newline pos b rest e (subst_text (ap (λ o. drop (cell_len o) (b ∷ rest)) (char_at-ascii b rest (small_newline b rest e))) here (s here))
  where
    subst_text : {xs ys : List ℕ} → xs ≡ ys → (p : Pos) → Stands p xs → Stands p ys
    subst_text e p = subst (Stands p) e
stands_step pos b rest false e s = stands_cell pos b rest e (s (record { line = pos.line; col = next_column pos.col (char_at (b ∷ rest)) }))

stands_upto : (n : ℕ) (pos : Pos) (front : List ℕ) → length front ≤ n → Stands pos front
stands_upto n pos [] h = record { line = omega (arith, line_at-zero []); same = λ k. refl; later = λ k. absurd (omega (arith, line_at-zero [], k)) }
stands_upto zero pos (b ∷ rest) h = absurd (omega arith)
stands_upto (suc n) pos (b ∷ rest) h =
    let front = b ∷ rest in
    let m = cell_len (char_at front) in
    let short : length (drop m front) ≤ n = omega (arith, length-drop m front, cell_len-pos front) in
    stands_step pos b rest (ends_newline front) refl (λ p. stands_upto n p (drop m front) short)

behind_line : (front : List ℕ) → (behind origin front).line ≡ line_at front (length front)
behind_line front = let s = stands_upto (length front) origin front (omega arith) in omega (arith, s.line)

behind_col : (front : List ℕ) → (behind origin front).col ≡ line_end front
behind_col front =
    let s = stands_upto (length front) origin front (omega arith) in
    let lines = line_at-newlines front (length front) in
    elim (cases_lt 1 (line_at front (length front))) [
      | inl more ↦ s.later more
      | inr less ↦ (let one : line_at front (length front) ≡ 1 = omega (arith, lines) in s.same one ∙ sym (line_end-same front 0 (omega arith) one ∙ ap (λ n. end_column (drop n front)) (start_at-zero front)))
    ]

-- ---- a text before another one
abbrev KeepsNewline : List ℕ → List ℕ → Type 0
KeepsNewline front back = ends_with_return front ≡ true → begins_with_linefeed back ≡ false

none_here : (bytes : List ℕ) → newlines_to bytes 0 ≡ 0
none_here [] = refl
none_here (b ∷ rest) = refl

newlines-seam : (front back : List ℕ) → KeepsNewline front back → newlines_to (front ++ back) (length front) ≡ newlines_to front (length front)
newlines-seam [] back h = none_here back
newlines-seam (b ∷ rest) back h =
    ap₂ (λ (t : Bool) (n : ℕ). cond t 1 0 + n) (ends_newline-seam b rest back h) (newlines-seam rest back (λ e. h (ends-drop 1 (b ∷ rest) e)))

starts-seam : (from : ℕ) (front back : List ℕ) → KeepsNewline front back → behind_newlines from (front ++ back) ≡ behind_newlines from front ++ behind_newlines (from + length front) back
starts-seam from [] back h = ap (λ n. behind_newlines n back) (omega arith)
starts-seam from (b ∷ rest) back h =
    let further : (from + 1) + length rest ≡ from + length (b ∷ rest) = omega arith in
    ap₂ (λ (t : Bool) (l : List ℕ). start_behind t from ++ l) (ends_newline-seam b rest back h) (starts-seam (from + 1) rest back (λ e. h (ends-drop 1 (b ∷ rest) e)) ∙ ap (λ n. behind_newlines (from + 1) rest ++ behind_newlines n back) further)
    ∙ sym (append_assoc (start_behind (ends_newline (b ∷ rest)) from) (behind_newlines (from + 1) rest) (behind_newlines (from + length (b ∷ rest)) back))

length-starts : (from : ℕ) (front : List ℕ) → length (behind_newlines from front) ≡ newlines_to front (length front)
length-starts from [] = refl
length-starts from (b ∷ rest) =
    let more = length-starts (from + 1) rest in
    elim (ends_newline (b ∷ rest)) as (λ t. length (start_behind t from ++ behind_newlines (from + 1) rest) ≡ cond t 1 0 + newlines_to rest (length rest)) [
      | true ↦ omega (arith, more)
      | false ↦ omega (arith, more)
    ]

line-seam : (front back : List ℕ) → KeepsNewline front back → line_at (front ++ back) (length front) ≡ line_at front (length front)
line-seam front back h = line_at-newlines (front ++ back) (length front) ∙ ap (λ n. 1 + n) (newlines-seam front back h) ∙ sym (line_at-newlines front (length front))

start-seam : (front back : List ℕ) → KeepsNewline front back → start_at (front ++ back) (length front) ≡ start_at front (length front)
start-seam front back h =
    let i = line_at front (length front) - 1 in
    let within : i < length (starts_of_lines front) = omega (arith, length-starts 0 front, line_at-newlines front (length front)) in
    ap (λ n. slice_index (starts_of_lines (front ++ back)) (n - 1)) (line-seam front back h)
    ∙ ap (λ l. slice_index (0 ∷ l) i) (starts-seam 0 front back h)
    ∙ get_or_append_left (starts_of_lines front) (behind_newlines (0 + length front) back) 0 i within

column-seam : (front back : List ℕ) → IsSeam front back → column_in (front ++ back) (length front) ≡ line_end front
column-seam front back seam =
    let s = start_at front (length front) in
    let low = start_at-le front (length front) in
    ap (λ s. column_at (drop s (front ++ back)) (length front - s)) (start-seam front back seam.newline)
    ∙ ap₂ (λ (l : List ℕ) (n : ℕ). column_at l n) (drop-append-le s front back low) (sym (length-drop s front))
    ∙ column_at-seam (drop s front) back seam.character

pub behind_is_pos_at_lem : BehindIsPosAt
behind_is_pos_at_lem front back seam = λ i. ((line-seam front back seam.newline ∙ sym (behind_line front)) i, (column-seam front back seam ∙ sym (behind_col front)) i)
