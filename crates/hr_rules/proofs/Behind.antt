-- The laws of positions.
--     behind-cut      the first cell, and those behind it
--     counted-behind      it is enough to go on from the position that is counted
--     counted-same      a position that is counted tells every `Pos` apart
use Rattle.std.proofs.Common.{◌≡◌, ℕ, zero, suc, ◌+◌, ◌-◌, ◌*◌, ◌/◌, ◌<◌, ◌≤◌, ◌==◌, ◌&&◌, min, Bool, true, false, cond, List, [], ◌∷◌, length, drop, Option, Some, None, refl, sym, ap, ap₂, ◌∙◌, arith, length-drop, drop_of_length-le}
use Rattle.std.proofs.lemmas.List.{drop-drop}
use Rattle.hr_base.specs.declared.place.Pos.{Pos}
use Rattle.hr_scan.specs.declared.character.Character.{Character}
use Rattle.hr_scan.specs.Characters.{char_at, cell_len}
use Rattle.hr_scan.specs.Columns.{next_column, tab, byte_order_mark}
use Rattle.hr_scan.specs.Lines.{ends_newline}
use Rattle.hr_scan.proofs.Cells.{cell_len-pos}
use Rattle.hr_rules.specs.declared.positions.Reached.{Reached}
use Rattle.hr_rules.specs.Counted.{greatest, counted, pos_of}
use Rattle.hr_rules.specs.Positions.{behind, behind_front, behind_past, is_same_pos}

-- ---- cell by cell
behind_past-drop : (n : ℕ) (pos : Pos) (bytes : List ℕ) → behind_past n pos bytes ≡ behind pos (drop n bytes)
behind_past-drop zero pos bytes = refl
behind_past-drop (suc n) pos [] = refl
behind_past-drop (suc n) pos (b ∷ rest) = behind_past-drop n pos rest

behind_first : (n b : ℕ) (rest : List ℕ) → 1 ≤ n → drop (n - 1) rest ≡ drop n (b ∷ rest)
behind_first zero b rest h = absurd (omega arith)
behind_first (suc n) b rest h = ap (λ k. drop k rest) (omega arith)

-- the first cell of a text, and then those behind it
pub behind-cut : (pos : Pos) (bytes : List ℕ) → 0 < length bytes → behind pos bytes ≡ behind (behind_front pos bytes) (drop (cell_len (char_at bytes)) bytes)
behind-cut pos [] h = absurd (omega arith)
behind-cut pos (b ∷ rest) h =
    let n = cell_len (char_at (b ∷ rest)) in
    behind_past-drop (n - 1) (behind_front pos (b ∷ rest)) rest ∙ ap (behind (behind_front pos (b ∷ rest))) (behind_first n b rest (cell_len-pos (b ∷ rest)))

-- ---- positions that are counted
cap-next : (c : ℕ) (cell : Option Character) → min greatest (next_column c cell) ≡ min greatest (next_column (min greatest c) cell)
cap-next c None = omega arith
cap-next c (Some d) = by (d.code == tab) (d.code == byte_order_mark)
  where
    by : (t b : Bool) → min greatest (cond t ((c + 7) / 8 * 8 + 1) (cond b c (c + 1))) ≡ min greatest (cond t ((min greatest c + 7) / 8 * 8 + 1) (cond b (min greatest c) (min greatest c + 1)))
    by true b = omega arith
    by false true = omega arith
    by false false = omega arith

-- a position that is counted, from its line and column
pub counted_parts : {a b c d : ℕ} → a ≡ c → b ≡ d → ◌≡◌ {A = Reached} (record { line = a; col = b }) (record { line = c; col = d })
counted_parts e f = λ k. record { line = e k; col = f k }

counted-front : (pos : Pos) (bytes : List ℕ) → counted (behind_front pos bytes) ≡ counted (behind_front (pos_of (counted pos)) bytes)
counted-front pos bytes = by (ends_newline bytes)
  where
    by : (t : Bool) → counted (cond t (record { line = pos.line + 1; col = 1 }) (record { line = pos.line; col = next_column pos.col (char_at bytes) }))
        ≡ counted (cond t (record { line = min greatest pos.line + 1; col = 1 }) (record { line = min greatest pos.line; col = next_column (min greatest pos.col) (char_at bytes) }))
    by true = counted_parts (omega arith) refl
    by false = counted_parts (omega arith) (cap-next pos.col (char_at bytes))

counted-past : (n : ℕ) (pos : Pos) (bytes : List ℕ) → counted (behind_past n pos bytes) ≡ counted (behind_past n (pos_of (counted pos)) bytes)
counted-past n pos [] = counted_parts (omega arith) (omega arith)
counted-past (suc n) pos (b ∷ rest) = counted-past n pos rest
counted-past zero pos (b ∷ rest) =
    let m = cell_len (char_at (b ∷ rest)) - 1 in
    counted-past m (behind_front pos (b ∷ rest)) rest
    ∙ ap (λ r. counted (behind_past m (pos_of r) rest)) (counted-front pos (b ∷ rest))
    ∙ sym (counted-past m (behind_front (pos_of (counted pos)) (b ∷ rest)) rest)

-- it is enough to go on from the position that is counted
pub counted-behind : (pos : Pos) (bytes : List ℕ) → counted (behind pos bytes) ≡ counted (behind (pos_of (counted pos)) bytes)
counted-behind = counted-past 0

-- one cell further
pub behind_step : (bytes : List ℕ) (place len : ℕ) (reached further whole : Reached) → place < length bytes
    → counted (behind (pos_of reached) (drop place bytes)) ≡ whole
    → len ≡ cell_len (char_at (drop place bytes)) → further ≡ counted (behind_front (pos_of reached) (drop place bytes))
    → counted (behind (pos_of further) (drop (place + len) bytes)) ≡ whole
behind_step bytes place len reached further whole h e long is =
    let left = drop place bytes in
    let front = behind_front (pos_of reached) left in
    ap (λ r. counted (behind (pos_of r) (drop (place + len) bytes))) is
    ∙ sym (counted-behind front (drop (place + len) bytes))
    ∙ ap (λ l. counted (behind front l)) (sym (drop-drop len place bytes) ∙ ap (λ n. drop n left) long)
    ∙ ap counted (sym (behind-cut (pos_of reached) left (omega (arith, length-drop place bytes))))
    ∙ e

eq-cap : (a b : ℕ) → a ≤ 4294967295 → (a == min greatest b) ≡ (a == b)
eq-cap a b h = grind arith

-- a position that is counted tells every `Pos` apart
pub counted-same : (pos at : Pos) → pos.line ≤ 4294967295 → pos.col ≤ 4294967295 → is_same_pos pos (pos_of (counted at)) ≡ is_same_pos pos at
counted-same pos at h k = ap₂ (λ (a b : Bool). a && b) (eq-cap pos.line at.line h) (eq-cap pos.col at.col k)

-- no cell is left
pub behind_end : (bytes : List ℕ) (place : ℕ) (reached whole : Reached) → length bytes ≤ place → reached.line ≤ greatest → reached.col ≤ greatest
    → counted (behind (pos_of reached) (drop place bytes)) ≡ whole → reached ≡ whole
behind_end bytes place reached whole h a b e =
    counted_parts {a = reached.line} {b = reached.col} (omega arith) (omega arith)
    ∙ ap (λ l. counted (behind (pos_of reached) l)) (sym (drop_of_length-le bytes h)) ∙ e
