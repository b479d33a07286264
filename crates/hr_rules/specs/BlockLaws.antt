-- Laws of the layout rule's definitions.
use Rattle.std.specs.Prelude.{◌≡◌, ℕ, ◌≤◌, Bool, true, false, not, ◌||◌, ◌&&◌, List, [], ◌∷◌, map}
use Rattle.std.specs.List.{AllByRecursion}
use Rattle.hr_base.specs.declared.lexeme.Ending.{Ending}
use Rattle.hr_base.specs.declared.lexeme.Item.{Item}
use Rattle.hr_rules.specs.declared.role.Role.{Role}
use Rattle.hr_rules.specs.declared.block.BlockKind.{BlockKind}
use Rattle.hr_rules.specs.declared.block.Placed.{Placed}
use Rattle.hr_rules.specs.CanFollow.{begins_part, follows}
use Rattle.hr_rules.specs.Positions.{positions_of, line_firsts}
use Rattle.hr_rules.specs.Blocks.{placed_of, role, left_of, at_margin, goes_on, starts_part, ends_block}

-- the items of a text with their places are its items, at their positions, of which those are first on
-- their line that are
pub record ArePlaced (items : List Item) : Type 0 where
  pub items_are : map (λ next. next.item) (placed_of items) ≡ items
  pub positions_are : map (λ next. next.pos) (placed_of items) ≡ positions_of items
  pub firsts_are : map (λ next. next.first) (placed_of items) ≡ line_firsts true items

abbrev pub ItemsArePlaced : Type 0
ItemsArePlaced = (items : List Item) → ArePlaced items

-- no column is 0, so where no implicit block encloses a lexeme it goes on
abbrev pub ColumnsFromOne : Type 0
ColumnsFromOne = (items : List Item) → AllByRecursion (λ next. 1 ≤ next.pos.col) (placed_of items)

-- a lexeme goes on exactly where it is neither left of the column, first on its line, nor at it, and it is
-- not both of these
pub record Divides (n : ℕ) (next : Placed) : Type 0 where
  pub goes : goes_on n next ≡ not (left_of n next || at_margin n next)
  pub apart : (left_of n next && at_margin n next) ≡ false

abbrev pub MarginsDivide : Type 0
MarginsDivide = (n : ℕ) (next : Placed) → Divides n next

-- nothing that goes on in a block at column n, `;` apart, can follow a part of it that ends so
abbrev pub nothing_goes_on : ℕ → Ending → List Placed → Bool
nothing_goes_on n ending [] = true
nothing_goes_on n ending (next ∷ rest) = not (goes_on n next && follows ending (role next))

-- where a block ends, its last part can't go on
abbrev pub NothingGoesOnBehindEnds : Type 0
NothingGoesOnBehindEnds = (n : ℕ) (kind : BlockKind) (ending : Ending) (rest : List Placed) → ends_block n kind ending rest ≡ true → nothing_goes_on n ending rest ≡ true

-- a block doesn't end where a part may start and the next lexeme can begin one
abbrev pub PartsDoNotEnd : Type 0
PartsDoNotEnd = (n : ℕ) (kind : BlockKind) (ending : Ending) (next : Placed) (rest : List Placed)
    → starts_part n ending (next ∷ rest) ≡ true → begins_part kind (role next) ≡ true → ends_block n kind ending (next ∷ rest) ≡ false

-- nor where a `;` goes on or is first on its line at the column
abbrev pub SemicolonsDoNotEnd : Type 0
SemicolonsDoNotEnd = (n : ℕ) (kind : BlockKind) (ending : Ending) (next : Placed) (rest : List Placed)
    → left_of n next ≡ false → role next ≡ Role.Semicolon → ends_block n kind ending (next ∷ rest) ≡ false
