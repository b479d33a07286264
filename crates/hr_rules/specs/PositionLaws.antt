-- Laws of positions, for a text in parts.
use Rattle.std.specs.Prelude.{◌≡◌, ℕ, Bool, true, false, ◌==◌, List, [], ◌∷◌, ◌++◌, length}
use Rattle.std.specs.Str.{IsCharBoundary}
use Rattle.hr_base.specs.declared.place.Pos.{Pos}
use Rattle.hr_base.specs.declared.lexeme.Item.{Item}
use Rattle.hr_scan.specs.Lines.{carriage_return, begins_with_linefeed}
use Rattle.hr_scan.specs.Positions.{pos_at}
use Rattle.hr_rules.specs.Positions.{behind, origin, positions_from}

abbrev pub ends_with_return : List ℕ → Bool
ends_with_return [] = false
ends_with_return (b ∷ []) = b == carriage_return
ends_with_return (b ∷ c ∷ rest) = ends_with_return (c ∷ rest)

-- a text may be cut here: no character and no newline is cut in two
pub record IsSeam (front back : List ℕ) : Type 0 where
  pub character : IsCharBoundary back 0
  pub newline : ends_with_return front ≡ true → begins_with_linefeed back ≡ false

-- the position behind a text is the one behind its second part, where that stands behind the first
abbrev pub BehindGoesOn : Type 0
BehindGoesOn = (pos : Pos) (front back : List ℕ) → IsSeam front back → behind pos (front ++ back) ≡ behind (behind pos front) back

-- the position behind items
abbrev pub behind_items : Pos → List Item → Pos
behind_items pos [] = pos
behind_items pos (item ∷ items) = behind_items (behind (behind pos item.trivia) item.lexeme.text) items

-- the positions of items are those of a front of them, and those of the others behind that
abbrev pub PositionsGoOn : Type 0
PositionsGoOn = (pos : Pos) (items others : List Item) → positions_from pos (items ++ others) ≡ positions_from pos items ++ positions_from (behind_items pos items) others

-- the position behind a part of a text is that of the place where it is cut
abbrev pub BehindIsPosAt : Type 0
BehindIsPosAt = (front back : List ℕ) → IsSeam front back → pos_at (front ++ back) (length front) ≡ ((behind origin front).line, (behind origin front).col)
