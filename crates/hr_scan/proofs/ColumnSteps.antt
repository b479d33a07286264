-- The columns of a line, cell by cell.
use Rattle.std.proofs.Common.{◌≡◌, ℕ, ◌+◌, ◌<◌, ◌≤◌, replicate, List, [], ◌∷◌, ◌++◌, length, drop, Option, sym, ap, ap₂, ◌∙◌, arith, append_assoc, append-nil, length-drop, drop_of_length-le}
use Rattle.std.proofs.lemmas.List.{drop-drop}
use Rattle.hr_scan.specs.declared.character.Character.{Character}
use Rattle.hr_scan.specs.Characters.{char_at, cell_len, cells}
use Rattle.hr_scan.specs.Columns.{next_column, columns_from}
use Rattle.hr_scan.proofs.Cells.{cells-cut}

-- one cell further in a line
pub columns_grow : (line before after all : List ℕ) (place column next len : ℕ) (cell : Option Character) → place < length line
    → before ++ columns_from column (cells (drop place line)) ≡ all
    → cell ≡ char_at (drop place line) → len ≡ cell_len cell → next ≡ next_column column cell
    → after ≡ before ++ replicate len column
    → after ++ columns_from next (cells (drop (place + len) line)) ≡ all
columns_grow line before after all place column next len cell h e is long following grown =
    let left = drop place line in
    let cut : cells left ≡ cell ∷ cells (drop (place + len) line) =
    cells-cut left (omega (arith, length-drop place line))
    ∙ ap (λ o. o ∷ cells (drop (cell_len o) left)) (sym is)
    ∙ ap (λ l. cell ∷ cells l) (ap (λ n. drop n left) (sym long) ∙ drop-drop len place line) in
    let shown : columns_from column (cells left) ≡ replicate len column ++ columns_from next (cells (drop (place + len) line)) =
    ap (columns_from column) cut
    ∙ ap₂ (λ (n c : ℕ). replicate n column ++ columns_from c (cells (drop (place + len) line))) (sym long) (sym following) in
    ap (λ l. l ++ columns_from next (cells (drop (place + len) line))) grown
    ∙ append_assoc before (replicate len column) _ ∙ ap (λ l. before ++ l) (sym shown) ∙ e

-- no cell is left
pub columns_end : (line before all : List ℕ) (place column : ℕ) → length line ≤ place → before ++ columns_from column (cells (drop place line)) ≡ all → before ≡ all
columns_end line before all place column h e = sym (append-nil before) ∙ ap (λ l. before ++ columns_from column (cells l)) (sym (drop_of_length-le line h)) ∙ e
