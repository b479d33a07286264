-- Where a cursor stands in a text, and what its calls make of that.
use Rattle.std.specs.Prelude.{ℕ, Bool, true, false, not, List, [], ◌∷◌, drop, Option, Some, None}
use Rattle.hr_base.specs.declared.place.Pos.{Pos}
use Rattle.hr_base.specs.declared.lexeme.Ending.{Ending}
use Rattle.hr_base.specs.declared.lexeme.Item.{Item}
use Rattle.hr_base.specs.declared.lexeme.Lexeme.{Lexeme}
use Rattle.hr_rules.specs.declared.role.Role.{Role}
use Rattle.hr_rules.specs.declared.block.BlockKind.{BlockKind}
use Rattle.hr_rules.specs.declared.block.OpenBlock.{OpenBlock}
use Rattle.hr_rules.specs.declared.block.Opened.{Opened}
use Rattle.hr_rules.specs.declared.block.Placed.{Placed}
use Rattle.hr_rules.specs.Positions.{origin}
use Rattle.hr_rules.specs.PositionLaws.{behind_items}
use Rattle.hr_rules.specs.Blocks.{placed_of, mark, role, left_of, at_margin, goes_on, starts_part, enclosing, opens, opened_in, opened_before, kind_of_block, blocks_behind}

-- what contracts see of a cursor
pub record Standing : Type 0 where
  -- the items that are left, each at its place: the first of them counts as first on its line behind an
  -- empty block, and as not first where it begins a part
  pub rest : List Placed
  -- the position behind the last lexeme of the text
  pub end : Pos
  -- the blocks that are open, the innermost one first
  pub blocks : List OpenBlock
  -- whether the lexeme that was taken last is `of`
  pub behind_of : Bool

-- at the beginning of a text
abbrev pub beginning : List Item → Standing
beginning items = record { rest = placed_of items; end = behind_items origin items; blocks = []; behind_of = false }

-- the next item
abbrev pub next_of : List Placed → Option Item
next_of [] = None
next_of (next ∷ rest) = Some next.item

-- the next lexeme
abbrev pub lexeme_of : List Placed → Option Lexeme
lexeme_of [] = None
lexeme_of (next ∷ rest) = Some next.item.lexeme

-- the position of the next lexeme, or of the end where there is none
abbrev pub place_of : List Placed → Pos → Pos
place_of [] end = end
place_of (next ∷ rest) end = next.pos

abbrev pub is_of : Role → Bool
is_of Role.Of = true
is_of _ = false

-- behind the next item
abbrev pub behind_next : List Placed → Standing → Standing
behind_next [] cursor = cursor
behind_next (next ∷ rest) cursor = record { rest = rest; end = cursor.end; blocks = blocks_behind (role next) cursor.blocks; behind_of = is_of (role next) }

abbrev pub taken : Standing → Standing
taken cursor = behind_next cursor.rest cursor

-- how a block opens here
abbrev pub opening : Standing → Opened
opening cursor = opens (enclosing cursor.blocks) cursor.rest

-- where a block of the kind has opened
abbrev pub opened_as : BlockKind → Standing → Standing
opened_as kind cursor = record {
  rest = opened_before (opening cursor) cursor.rest;
  end = cursor.end;
  blocks = opened_in (opening cursor) kind cursor.blocks;
  behind_of = cursor.behind_of;
}

-- where the block behind a keyword has opened
abbrev pub opened : Standing → Standing
opened cursor = opened_as (kind_of_block cursor.behind_of) cursor

-- where the next lexeme counts as first on its line, or as not first
abbrev pub marked : Bool → Standing → Standing
marked is_first cursor = record { rest = mark is_first cursor.rest; end = cursor.end; blocks = cursor.blocks; behind_of = cursor.behind_of }

-- where a part has begun: its first lexeme goes on
abbrev pub begun : Standing → Standing
begun = marked false

-- where the innermost block is left
abbrev pub left : Standing → Standing
left cursor = record { rest = cursor.rest; end = cursor.end; blocks = drop 1 cursor.blocks; behind_of = cursor.behind_of }

-- the next lexeme is there, and goes on in the innermost block
abbrev pub next_goes_on : List OpenBlock → List Placed → Bool
next_goes_on blocks [] = false
next_goes_on blocks (next ∷ rest) = goes_on (enclosing blocks) next

-- the next lexeme is there, and first on its line at the column
abbrev pub next_at_margin : ℕ → List Placed → Bool
next_at_margin n [] = false
next_at_margin n (next ∷ rest) = at_margin n next

-- the next lexeme is there, and not first on its line left of the column
abbrev pub next_not_left : ℕ → List Placed → Bool
next_not_left n [] = false
next_not_left n (next ∷ rest) = not (left_of n next)

-- the innermost block has no braces, and the next lexeme may start a part of it
abbrev pub starts_innermost : List OpenBlock → Ending → List Placed → Bool
starts_innermost [] ending rest = false
starts_innermost (OpenBlock.Implicit col kind ∷ outer) ending rest = starts_part col ending rest
starts_innermost (OpenBlock.Explicit ∷ outer) ending rest = false
