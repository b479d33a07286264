-- The layout rule (Haskell 98 Report, sections 2.7 and 9.3) on the items that are left of a text and on the
-- blocks that are open, the innermost one first.
use Rattle.std.specs.Prelude.{ℕ, Bool, true, false, not, ◌&&◌, ◌||◌, ◌==◌, nat_lt, List, [], ◌∷◌, if◌then◌else◌}
use Rattle.hr_base.specs.declared.lexeme.Ending.{Ending}
use Rattle.hr_base.specs.declared.lexeme.Item.{Item}
use Rattle.hr_base.specs.declared.place.Pos.{Pos}
use Rattle.hr_rules.specs.declared.role.Role.{Role}
use Rattle.hr_rules.specs.declared.block.BlockKind.{BlockKind}
use Rattle.hr_rules.specs.declared.block.OpenBlock.{OpenBlock}
use Rattle.hr_rules.specs.declared.block.Opened.{Opened}
use Rattle.hr_rules.specs.declared.block.Placed.{Placed}
use Rattle.hr_rules.specs.Positions.{origin, behind, line_first_after}
use Rattle.hr_rules.specs.Roles.{role_of}
use Rattle.hr_rules.specs.CanFollow.{begins_part, can_follow}

-- the items with their places, where the first one begins at the position
abbrev pub placed_from : Pos → Bool → List Item → List Placed
placed_from pos is_first [] = []
placed_from pos is_first (item ∷ items) =
    record { item = item; pos = behind pos item.trivia; first = line_first_after is_first item }
    ∷ placed_from (behind (behind pos item.trivia) item.lexeme.text) false items

-- the items of a text with their places
abbrev pub placed_of : List Item → List Placed
placed_of items = placed_from origin true items

-- the next lexeme counts as first on its line, or as not first: it does behind an empty block, and does
-- not where it begins a part
abbrev pub mark : Bool → List Placed → List Placed
mark is_first [] = []
mark is_first (next ∷ rest) = record { item = next.item; pos = next.pos; first = is_first } ∷ rest

abbrev pub role : Placed → Role
role next = role_of next.item.lexeme

-- in an implicit block at column n, a lexeme that is first on its line ends the block left of n, may
-- start a part at n, and goes on right of n, as one that is not first does
abbrev pub left_of : ℕ → Placed → Bool
left_of n next = next.first && nat_lt next.pos.col n

abbrev pub at_margin : ℕ → Placed → Bool
at_margin n next = next.first && next.pos.col == n

abbrev pub goes_on : ℕ → Placed → Bool
goes_on n next = not next.first || nat_lt n next.pos.col

-- the column of the enclosing implicit block: 0 if there is none, or an explicit brace is nearer
abbrev pub enclosing : List OpenBlock → ℕ
enclosing [] = 0
enclosing (OpenBlock.Implicit col kind ∷ outer) = col
enclosing (OpenBlock.Explicit ∷ outer) = 0

abbrev pub is_open_brace : Role → Bool
is_open_brace Role.OpenBrace = true
is_open_brace _ = false

abbrev pub is_close_brace : Role → Bool
is_close_brace Role.CloseBrace = true
is_close_brace _ = false

-- how a block opens where the column of the enclosing one is m
abbrev pub opens : ℕ → List Placed → Opened
opens m [] = Opened.Empty
opens m (next ∷ rest) =
    if is_open_brace (role next) then Opened.Explicit
    else (if nat_lt m next.pos.col then Opened.Implicit next.pos.col else Opened.Empty)

-- the blocks that are open then, by how a block of the kind has opened
abbrev pub opened_in : Opened → BlockKind → List OpenBlock → List OpenBlock
opened_in (Opened.Implicit col) kind blocks = OpenBlock.Implicit col kind ∷ blocks
opened_in Opened.Explicit kind blocks = OpenBlock.Explicit ∷ blocks
opened_in Opened.Empty kind blocks = blocks

-- and the items that are left
abbrev pub opened_before : Opened → List Placed → List Placed
opened_before (Opened.Implicit col) rest = rest
opened_before Opened.Explicit rest = rest
opened_before Opened.Empty rest = mark true rest

-- the kind of a block that opens behind a keyword: alternatives behind `of`, declarations behind `let` and
-- `where`
abbrev pub kind_of_block : Bool → BlockKind
kind_of_block true = BlockKind.Alternatives
kind_of_block false = BlockKind.Declarations

-- the blocks that are open behind a lexeme: a closing brace leaves the innermost block if that one has braces
abbrev pub blocks_behind : Role → List OpenBlock → List OpenBlock
blocks_behind role [] = []
blocks_behind role (OpenBlock.Implicit col kind ∷ outer) = OpenBlock.Implicit col kind ∷ outer
blocks_behind role (OpenBlock.Explicit ∷ outer) = if is_close_brace role then outer else OpenBlock.Explicit ∷ outer

-- the next lexeme is first on its line, at the column of the innermost block, which has no braces
abbrev pub is_at_part : List OpenBlock → List Placed → Bool
is_at_part (OpenBlock.Implicit col kind ∷ outer) (next ∷ rest) = at_margin col next
is_at_part _ _ = false

-- in an implicit block at column n, the next lexeme may start a part behind one that ends so: at the block's
-- begin and behind a `;`, where nothing ends, wherever the block goes on, and else at n alone
abbrev pub starts_part : ℕ → Ending → List Placed → Bool
starts_part n ending [] = false
starts_part n Ending.Nothing (next ∷ rest) = not (left_of n next)
starts_part n ending (next ∷ rest) = at_margin n next

-- an implicit block of the kind at column n ends, where its last part is complete and ends so: no lexeme is
-- left, or the next one is first on its line and left of n, or is first at n and can't begin a part, or it is
-- neither and can't follow
abbrev pub ends_block : ℕ → BlockKind → Ending → List Placed → Bool
ends_block n kind ending [] = true
ends_block n kind ending (next ∷ rest) =
    left_of n next
    || (if at_margin n next then not (begins_part kind (role next)) else not (can_follow ending next.item.lexeme))

-- the innermost block has no braces, and ends
abbrev pub ends_innermost : List OpenBlock → Ending → List Placed → Bool
ends_innermost [] ending rest = false
ends_innermost (OpenBlock.Implicit col kind ∷ outer) ending rest = ends_block col kind ending rest
ends_innermost (OpenBlock.Explicit ∷ outer) ending rest = false
