-- How blocks are read, with the layout rule: the Haskell 98 Report, sections 2.7 and 9.3.
use Rattle.std.specs.Prelude.{ℕ, ◌≡◌, ◌⊎◌, Bool, true, false, List, [], ◌∷◌}
use Rattle.hr_base.specs.declared.lexeme.Ending.{Ending}
use Rattle.hr_base.specs.declared.lexeme.Item.{Item}
use Rattle.hr_rules.specs.declared.block.BlockKind.{BlockKind}
use Rattle.hr_rules.specs.declared.block.Opened.{Opened}
use Rattle.hr_rules.specs.Blocks.{mark, left_of, opens, starts_part, ends_block}
use Rattle.hr_tree.specs.declared.lists.Block.{Block}
use Rattle.hr_tree.specs.declared.lists.Layout.{Layout}
use Rattle.hr_tree.specs.declared.lists.Piece.{Piece}
use Rattle.hr_grammar.specs.Words.{IsLeftBrace, IsRightBrace, IsSemicolon}
use Rattle.hr_grammar.specs.Nodes.{DeclPlace}
use Rattle.hr_grammar.specs.Offside.{column_of}
use Rattle.hr_grammar_cases.specs.Readings.{Reading, nothing, ◌▷◌, given, one}

-- how the parts of a kind of block are read in the block at a column: what place the parts before one have, what
-- place it has itself, the part, and its ending
abbrev pub Parts : Type 0 → Type 1
Parts T = ℕ → DeclPlace → DeclPlace → T → Ending → Reading

-- a `;` of a block without braces begins a piece, so it may stand at the block's column
abbrev pub takes_semicolon : ℕ → Item → Reading
takes_semicolon n item [] us = ⊥
takes_semicolon n item (next ∷ ts) us = (left_of n next ≡ false) × (next.item ≡ item) × (us ≡ ts)

-- the block ends here, behind a piece that ends so
abbrev pub ends_here : BlockKind → ℕ → Ending → Reading
ends_here kind n ending ts us = (ends_block n kind ending ts ≡ true) × (us ≡ ts)

-- a part may start here, behind a piece that ends so; its first lexeme is no boundary of the block any more
abbrev pub starts : ℕ → Ending → Reading
starts n ending ts us = (starts_part n ending ts ≡ true) × (us ≡ mark false ts)

-- a part, and behind it what its place and its ending leave
abbrev pub part_then : (DeclPlace → Ending → Reading) → (DeclPlace → Ending → Reading) → Reading
part_then part rest ts us = (next : DeclPlace) × (end : Ending) × (part next end ▷ rest next end) ts us

-- the pieces of a block of the kind at column n, behind a piece that ends so
abbrev pub pieces_reading : {T : Type 0} → Parts T → BlockKind → ℕ → DeclPlace → Ending → List (Piece T) → Reading
pieces_reading parts kind n place ending [] = ends_here kind n ending
pieces_reading parts kind n place ending (Piece.Semicolon item ∷ pieces) =
    given (IsSemicolon item) (takes_semicolon n item) ▷ pieces_reading parts kind n place Ending.Nothing pieces
pieces_reading parts kind n place ending (Piece.Part part ∷ pieces) =
    starts n ending ▷ part_then (λ next end. parts n place next part end) (λ next end. pieces_reading parts kind n next end pieces)

-- between braces there is no boundary: a `;` stands between any two parts, and a part may begin where the mark says
abbrev pub braced_reading : {T : Type 0} → Parts T → DeclPlace → Bool → List (Piece T) → Reading
braced_reading parts place begins [] = nothing
braced_reading parts place begins (Piece.Semicolon item ∷ pieces) = one 0 IsSemicolon item ▷ braced_reading parts place true pieces
braced_reading parts place begins (Piece.Part part ∷ pieces) =
    given (begins ≡ true) (part_then (λ next end. parts 0 place next part end) (λ next end. braced_reading parts next false pieces))

-- a block without braces: one that is left empty, behind which the next lexeme counts as first on its line, or one
-- at the column of the next lexeme
abbrev pub implicit_reading : {T : Type 0} → Parts T → BlockKind → ℕ → DeclPlace → ℕ → List (Piece T) → Reading
implicit_reading parts kind m place col pieces ts us =
    ((opens m ts ≡ Opened.Empty) × (pieces ≡ []) × (col ≡ column_of ts) × (us ≡ mark true ts))
    ⊎ ((opens m ts ≡ Opened.Implicit col) × pieces_reading parts kind col place Ending.Nothing pieces ts us)

-- by its braces or its column, where the block round it stands at column m
abbrev pub layout_reading : {T : Type 0} → Parts T → BlockKind → ℕ → DeclPlace → Layout → List (Piece T) → Reading
layout_reading parts kind m place (Layout.Implicit col) pieces = implicit_reading parts kind m place col pieces
layout_reading parts kind m place (Layout.Explicit left right) pieces = one 0 IsLeftBrace left ▷ braced_reading parts place true pieces ▷ one 0 IsRightBrace right

-- a block behind its opening word
abbrev pub block_reading : {T : Type 0} → Parts T → BlockKind → ℕ → DeclPlace → Block T → Reading
block_reading parts kind m place block = layout_reading parts kind m place block.layout block.pieces
