-- How far bytes lead: each of them leads a line or eight columns further at most.
use Rattle.std.proofs.Common.{ℕ, zero, suc, ◌+◌, ◌-◌, ◌*◌, ◌/◌, ◌≤◌, ◌==◌, Bool, true, false, cond, List, [], ◌∷◌, length, Option, Some, None, arith}
use Rattle.hr_base.specs.declared.place.Pos.{Pos}
use Rattle.hr_scan.specs.declared.character.Character.{Character}
use Rattle.hr_scan.specs.Characters.{char_at, cell_len}
use Rattle.hr_scan.specs.Columns.{next_column, tab, byte_order_mark}
use Rattle.hr_scan.specs.Lines.{ends_newline}
use Rattle.hr_rules.specs.Positions.{behind, behind_front, behind_past}

-- no more than n bytes are between the positions
pub record IsWithin (n : ℕ) (from to : Pos) : Type 0 where
  pub line : to.line ≤ from.line + n
  pub col : to.col ≤ from.col + 8 * n

column-step : (c : ℕ) (cell : Option Character) → next_column c cell ≤ c + 8
column-step c None = omega arith
column-step c (Some d) = by (d.code == tab) (d.code == byte_order_mark)
  where
    by : (t b : Bool) → cond t ((c + 7) / 8 * 8 + 1) (cond b c (c + 1)) ≤ c + 8
    by true b = omega arith
    by false true = omega arith
    by false false = omega arith

front-within : (pos : Pos) (bytes : List ℕ) → IsWithin 1 pos (behind_front pos bytes)
front-within pos bytes = by (ends_newline bytes)
  where
    by : (t : Bool) → IsWithin 1 pos (cond t (record { line = pos.line + 1; col = 1 }) (record { line = pos.line; col = next_column pos.col (char_at bytes) }))
    by true = record { line = omega arith; col = omega arith }
    by false = record { line = omega arith; col = omega (arith, column-step pos.col (char_at bytes)) }

past-within : (n : ℕ) (pos : Pos) (bytes : List ℕ) → IsWithin (length bytes) pos (behind_past n pos bytes)
past-within n pos [] = record { line = omega arith; col = omega arith }
past-within (suc n) pos (b ∷ rest) =
    let more = past-within n pos rest in
    record { line = omega (arith, more.line); col = omega (arith, more.col) }
past-within zero pos (b ∷ rest) =
    let here = front-within pos (b ∷ rest) in
    let more = past-within (cell_len (char_at (b ∷ rest)) - 1) (behind_front pos (b ∷ rest)) rest in
    record { line = omega (arith, here.line, more.line); col = omega (arith, here.col, more.col) }

pub behind-within : (pos : Pos) (bytes : List ℕ) → IsWithin (length bytes) pos (behind pos bytes)
behind-within = past-within 0
