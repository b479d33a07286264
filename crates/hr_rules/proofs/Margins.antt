-- Laws of the items of a text with their places.
use Rattle.std.proofs.Common.{◌≡◌, ℕ, zero, suc, ◌+◌, ◌-◌, ◌*◌, ◌/◌, ◌≤◌, ◌==◌, nat_lt, not, ◌||◌, ◌&&◌, Bool, true, false, cond, List, [], ◌∷◌, map, Option, Some, None, refl, ap, arith}
use Rattle.std.specs.List.{AllByRecursion}
use Rattle.hr_base.specs.declared.place.Pos.{Pos}
use Rattle.hr_base.specs.declared.lexeme.Item.{Item}
use Rattle.hr_scan.specs.declared.character.Character.{Character}
use Rattle.hr_scan.specs.Characters.{char_at, cell_len}
use Rattle.hr_scan.specs.Columns.{next_column, tab, byte_order_mark}
use Rattle.hr_scan.specs.Lines.{ends_newline}
use Rattle.hr_rules.specs.Positions.{origin, behind, behind_front, behind_past, positions_from, line_firsts, line_first_after}
use Rattle.hr_rules.specs.Blocks.{placed_from}
use Rattle.hr_rules.specs.BlockLaws.{ItemsArePlaced, ColumnsFromOne, MarginsDivide}

items-from : (pos : Pos) (is_first : Bool) (items : List Item) → map (λ next. next.item) (placed_from pos is_first items) ≡ items
items-from pos is_first [] = refl
items-from pos is_first (item ∷ items) = ap (λ l. item ∷ l) (items-from (behind (behind pos item.trivia) item.lexeme.text) false items)

positions-from : (pos : Pos) (is_first : Bool) (items : List Item) → map (λ next. next.pos) (placed_from pos is_first items) ≡ positions_from pos items
positions-from pos is_first [] = refl
positions-from pos is_first (item ∷ items) = ap (λ l. behind pos item.trivia ∷ l) (positions-from (behind (behind pos item.trivia) item.lexeme.text) false items)

firsts-from : (pos : Pos) (is_first : Bool) (items : List Item) → map (λ next. next.first) (placed_from pos is_first items) ≡ line_firsts is_first items
firsts-from pos is_first [] = refl
firsts-from pos is_first (item ∷ items) = ap (λ l. line_first_after is_first item ∷ l) (firsts-from (behind (behind pos item.trivia) item.lexeme.text) false items)

pub items-placed : ItemsArePlaced
items-placed items = record { items_are = items-from origin true items; positions_are = positions-from origin true items; firsts_are = firsts-from origin true items }

-- ---- columns
column-grows : (c : ℕ) (cell : Option Character) → 1 ≤ c → 1 ≤ next_column c cell
column-grows c None h = omega arith
column-grows c (Some d) h = by (d.code == tab) (d.code == byte_order_mark)
  where
    by : (t b : Bool) → 1 ≤ cond t ((c + 7) / 8 * 8 + 1) (cond b c (c + 1))
    by true b = omega arith
    by false true = h
    by false false = omega arith

front-column : (pos : Pos) (bytes : List ℕ) → 1 ≤ pos.col → 1 ≤ (behind_front pos bytes).col
front-column pos bytes h = by (ends_newline bytes)
  where
    by : (t : Bool) → 1 ≤ (cond {A = Pos} t (record { line = pos.line + 1; col = 1 }) (record { line = pos.line; col = next_column pos.col (char_at bytes) })).col
    by true = omega arith
    by false = column-grows pos.col (char_at bytes) h

past-column : (n : ℕ) (pos : Pos) (bytes : List ℕ) → 1 ≤ pos.col → 1 ≤ (behind_past n pos bytes).col
past-column n pos [] h = h
past-column (suc n) pos (b ∷ rest) h = past-column n pos rest h
past-column zero pos (b ∷ rest) h = past-column (cell_len (char_at (b ∷ rest)) - 1) (behind_front pos (b ∷ rest)) rest (front-column pos (b ∷ rest) h)

columns-from : (pos : Pos) (is_first : Bool) (items : List Item) → 1 ≤ pos.col → AllByRecursion (λ next. 1 ≤ next.pos.col) (placed_from pos is_first items)
columns-from pos is_first [] h = tt
columns-from pos is_first (item ∷ items) h =
    let at = past-column 0 pos item.trivia h in
    (at, columns-from (behind (behind pos item.trivia) item.lexeme.text) false items (past-column 0 (behind pos item.trivia) item.lexeme.text at))

pub columns-one : ColumnsFromOne
columns-one items = columns-from origin true items (omega arith)

-- ---- margins
goes-first : (t : Bool) (c n : ℕ) → (not t || nat_lt n c) ≡ not ((t && nat_lt c n) || (t && c == n))
goes-first false c n = refl
goes-first true c n = grind arith

apart-first : (t : Bool) (c n : ℕ) → ((t && nat_lt c n) && (t && c == n)) ≡ false
apart-first false c n = refl
apart-first true c n = grind arith

pub margins : MarginsDivide
margins n next = record { goes = goes-first next.first next.pos.col n; apart = apart-first next.first next.pos.col n }
