-- Positions of a text in parts.
--     behind-append      the position behind two parts
--     positions_from-append, behind_items-append, line_firsts-append      items in two parts
use Rattle.std.proofs.Common.{◌≡◌, ℕ, zero, suc, ◌+◌, ◌≤◌, ◌==◌, ◌&&◌, ◌||◌, not, Bool, true, false, cond, List, [], ◌∷◌, ◌++◌, length, drop, Option, refl, sym, ap, ap₂, ◌∙◌, arith, length-drop}
use Rattle.std.proofs.lemmas.List.{drop-append-le}
use Rattle.std.specs.Str.{IsCharBoundary}
use Rattle.hr_base.specs.declared.place.Pos.{Pos}
use Rattle.hr_base.specs.declared.lexeme.Item.{Item}
use Rattle.hr_scan.specs.declared.character.Character.{Character}
use Rattle.hr_scan.specs.Characters.{char_at, cell_len}
use Rattle.hr_scan.specs.Columns.{next_column}
use Rattle.hr_scan.specs.Lines.{ends_newline, begins_with_linefeed, linefeed, form_feed, carriage_return}
use Rattle.hr_scan.proofs.Characters.{char_at-before}
use Rattle.hr_scan.proofs.Cells.{cell_len-pos, cell_len-fits}
use Rattle.hr_rules.specs.Positions.{behind, behind_front, positions_from, line_firsts, line_first_after}
use Rattle.hr_rules.specs.PositionLaws.{ends_with_return, BehindGoesOn, behind_items, PositionsGoOn}
use Rattle.hr_rules.proofs.Behind.{behind-cut}

-- a newline ends with a byte of the first part if it does so in that part alone
pub ends_newline-seam : (b : ℕ) (rest back : List ℕ) → (ends_with_return (b ∷ rest) ≡ true → begins_with_linefeed back ≡ false) → ends_newline (b ∷ (rest ++ back)) ≡ ends_newline (b ∷ rest)
ends_newline-seam b (c ∷ rest) back h = refl
ends_newline-seam b [] back h =
    let by : (t : Bool) → (t ≡ true → begins_with_linefeed back ≡ false) → (t && not (begins_with_linefeed back)) ≡ (t && not false) =
    λ t. elim t as (λ t. (t ≡ true → begins_with_linefeed back ≡ false) → (t && not (begins_with_linefeed back)) ≡ (t && not false)) [ true ↦ λ k. ap not (k refl) | false ↦ λ k. refl ] in
    ap (λ t. (b == linefeed || b == form_feed) || t) (by (b == carriage_return) h)

-- what is left of a part ends as the part does
pub ends-drop : (n : ℕ) (bytes : List ℕ) → ends_with_return (drop n bytes) ≡ true → ends_with_return bytes ≡ true
ends-drop zero bytes e = e
ends-drop (suc n) [] e = e
ends-drop (suc n) (b ∷ []) e = ends-none n b e
  where
    ends-none : (n b : ℕ) → ends_with_return (drop n []) ≡ true → (b == carriage_return) ≡ true
    ends-none zero b e = cc
    ends-none (suc n) b e = cc
ends-drop (suc n) (b ∷ c ∷ rest) e = ends-drop n (c ∷ rest) e

behind_upto : (n : ℕ) (pos : Pos) (front back : List ℕ) → length front ≤ n → IsCharBoundary back 0 → (ends_with_return front ≡ true → begins_with_linefeed back ≡ false)
    → behind pos (front ++ back) ≡ behind (behind pos front) back
behind_upto n pos [] back h boundary newline = refl
behind_upto zero pos (b ∷ rest) back h boundary newline = absurd (omega arith)
behind_upto (suc n) pos (b ∷ rest) back h boundary newline =
    let front = b ∷ rest in
    let same : char_at (front ++ back) ≡ char_at front = char_at-before front back (omega arith) boundary in
    let m = cell_len (char_at front) in
    let fits : m ≤ length front = cell_len-fits front (omega arith) in
    let short : length (drop m front) ≤ n = omega (arith, length-drop m front, cell_len-pos front) in
    let left : drop (cell_len (char_at (front ++ back))) (front ++ back) ≡ drop m front ++ back = ap (λ o. drop (cell_len o) (front ++ back)) same ∙ drop-append-le m front back fits in
    let further : behind_front pos (front ++ back) ≡ behind_front pos front =
    ap₂ (λ (t : Bool) (o : Option Character). cond t (record { line = pos.line + 1; col = 1 }) (record { line = pos.line; col = next_column pos.col o })) (ends_newline-seam b rest back newline) same in
    behind-cut pos (front ++ back) (omega arith)
    ∙ ap₂ (λ (p : Pos) (l : List ℕ). behind p l) further left
    ∙ behind_upto n (behind_front pos front) (drop m front) back short boundary (λ e. newline (ends-drop m front e))
    ∙ ap (λ p. behind p back) (sym (behind-cut pos front (omega arith)))

pub behind-append : BehindGoesOn
behind-append pos front back seam = behind_upto (length front) pos front back (omega arith) seam.character seam.newline

pub positions_from-append : PositionsGoOn
positions_from-append pos [] others = refl
positions_from-append pos (item ∷ items) others =
    ap (λ l. behind pos item.trivia ∷ l) (positions_from-append (behind (behind pos item.trivia) item.lexeme.text) items others)

pub behind_items-append : (pos : Pos) (items others : List Item) → behind_items pos (items ++ others) ≡ behind_items (behind_items pos items) others
behind_items-append pos [] others = refl
behind_items-append pos (item ∷ items) others = behind_items-append (behind (behind pos item.trivia) item.lexeme.text) items others

-- whether the lexeme behind items is line-first though its trivia has no newline
abbrev pub is_first_behind : Bool → List Item → Bool
is_first_behind is_first [] = is_first
is_first_behind is_first (item ∷ items) = is_first_behind false items

pub line_firsts-append : (is_first : Bool) (items others : List Item) → line_firsts is_first (items ++ others) ≡ line_firsts is_first items ++ line_firsts (is_first_behind is_first items) others
line_firsts-append is_first [] others = refl
line_firsts-append is_first (item ∷ items) others = ap (λ l. line_first_after is_first item ∷ l) (line_firsts-append false items others)

pub length-line_firsts : (is_first : Bool) (items : List Item) → length (line_firsts is_first items) ≡ length items
length-line_firsts is_first [] = refl
length-line_firsts is_first (item ∷ items) = ap suc (length-line_firsts false items)

pub length-positions_from : (pos : Pos) (items : List Item) → length (positions_from pos items) ≡ length items
length-positions_from pos [] = refl
length-positions_from pos (item ∷ items) = ap suc (length-positions_from (behind (behind pos item.trivia) item.lexeme.text) items)
