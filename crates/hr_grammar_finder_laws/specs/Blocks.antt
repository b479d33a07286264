-- The ways to begin with a block, over any kind of part.
use Rattle.std.specs.Prelude.{ℕ, zero, suc, Bool, true, false, not, ◌&&◌, if◌then◌else◌, List, [], ◌∷◌, length}
use lib.Chars.{codes}
use Rattle.hr_base.specs.declared.lexeme.Ending.{Ending}
use Rattle.hr_base.specs.declared.lexeme.Item.{Item}
use Rattle.hr_rules.specs.declared.block.BlockKind.{BlockKind}
use Rattle.hr_rules.specs.declared.block.Opened.{Opened}
use Rattle.hr_rules.specs.Blocks.{mark, left_of, opens, starts_part, ends_block}
use Rattle.hr_tree.specs.declared.lists.Block.{Block}
use Rattle.hr_tree.specs.declared.lists.Layout.{Layout}
use Rattle.hr_tree.specs.declared.lists.Piece.{Piece}
use Rattle.hr_grammar.specs.Nodes.{DeclPlace}
use Rattle.hr_grammar.specs.Offside.{column_of}
use Rattle.hr_grammar_finder_laws.specs.Ways.{Finder, any_of, gives, on, made_by, followed_by, ◌▶◌, one}
use Rattle.hr_grammar_finder_laws.specs.Tests.{is_special}

-- a part in the block at a column, behind parts of a place: with its own place and its ending
abbrev pub PartFinder : Type 0 → Type 0
PartFinder T = ℕ → DeclPlace → Finder (T × (DeclPlace × Ending))

-- a `;` of a block without braces may stand at the block's column
abbrev pub semicolon : ℕ → Finder Item
semicolon n [] = []
semicolon n (next ∷ ts) = if is_special (codes ";") next.item && not (left_of n next) then (next.item, ts) ∷ [] else []

-- no more pieces, where the block ends
abbrev pub ends : {T : Type 0} → BlockKind → ℕ → Ending → Finder (List (Piece T))
ends kind n ending ts = on (ends_block n kind ending ts) (gives []) ts

-- where a part may start; its first lexeme is no boundary of the block any more
abbrev pub starting : {T : Type 0} → ℕ → Ending → Finder T → Finder T
starting n ending finder ts = on (starts_part n ending ts) finder (mark false ts)

abbrev pub semicolon_then : {T : Type 0} → Item × List (Piece T) → List (Piece T)
semicolon_then p = Piece.Semicolon p.0 ∷ p.1

abbrev pub part_then : {T : Type 0} → (T × (DeclPlace × Ending)) × List (Piece T) → List (Piece T)
part_then p = Piece.Part p.0.0 ∷ p.1

-- no piece more, a `;`, or a part; what is behind it depends on its place and its ending
abbrev pub piece_ways : {T : Type 0} → PartFinder T → BlockKind → ℕ → DeclPlace → Ending → (DeclPlace → Ending → Finder (List (Piece T))) → List (Finder (List (Piece T)))
piece_ways parts kind n place ending rest =
    ends kind n ending
    ∷ made_by semicolon_then (semicolon n ▶ rest place Ending.Nothing)
    ∷ made_by part_then (starting n ending (followed_by (parts n place) (λ q. rest q.1.0 q.1.1)))
    ∷ []

-- the pieces of a block of the kind at column n, behind a piece that ends so: no more than so many
abbrev pub pieces_by : {T : Type 0} → PartFinder T → BlockKind → ℕ → ℕ → DeclPlace → Ending → Finder (List (Piece T))
pieces_by parts kind n zero place ending = ends kind n ending
pieces_by parts kind n (suc fuel) place ending = any_of (piece_ways parts kind n place ending (pieces_by parts kind n fuel))

abbrev pub pieces : {T : Type 0} → PartFinder T → BlockKind → ℕ → DeclPlace → Ending → Finder (List (Piece T))
pieces parts kind n place ending ts = pieces_by parts kind n (length ts) place ending ts

-- between braces there is no boundary; a part may begin where the mark says
abbrev pub braced_ways : {T : Type 0} → PartFinder T → DeclPlace → Bool → (DeclPlace → Bool → Finder (List (Piece T))) → List (Finder (List (Piece T)))
braced_ways parts place begins rest =
    gives []
    ∷ made_by semicolon_then (one 0 (is_special (codes ";")) ▶ rest place true)
    ∷ on begins (made_by part_then (followed_by (parts 0 place) (λ q. rest q.1.0 false)))
    ∷ []

abbrev pub braced_by : {T : Type 0} → PartFinder T → ℕ → DeclPlace → Bool → Finder (List (Piece T))
braced_by parts zero place begins = gives []
braced_by parts (suc fuel) place begins = any_of (braced_ways parts place begins (braced_by parts fuel))

abbrev pub braced : {T : Type 0} → PartFinder T → DeclPlace → Bool → Finder (List (Piece T))
braced parts place begins ts = braced_by parts (length ts) place begins ts

-- a block without braces with its column, by how it opens
abbrev pub opened_as : {T : Type 0} → PartFinder T → BlockKind → DeclPlace → Opened → Finder (ℕ × List (Piece T))
opened_as parts kind place Opened.Empty ts = ((column_of ts, []), mark true ts) ∷ []
opened_as parts kind place (Opened.Implicit col) ts = made_by (λ found. (col, found)) (pieces parts kind col place Ending.Nothing) ts
opened_as parts kind place Opened.Explicit ts = []

abbrev pub implicit : {T : Type 0} → PartFinder T → BlockKind → ℕ → DeclPlace → Finder (ℕ × List (Piece T))
implicit parts kind m place ts = opened_as parts kind place (opens m ts) ts

abbrev pub without_braces : {T : Type 0} → ℕ × List (Piece T) → Block T
without_braces p = record { layout = Layout.Implicit p.0; pieces = p.1 }

abbrev pub with_braces : {T : Type 0} → Item × (List (Piece T) × Item) → Block T
with_braces p = record { layout = Layout.Explicit p.0 p.1.1; pieces = p.1.0 }

-- a block behind its opening word, where the block round it stands at column m
abbrev pub block_ways : {T : Type 0} → PartFinder T → BlockKind → ℕ → DeclPlace → List (Finder (Block T))
block_ways parts kind m place =
    made_by without_braces (implicit parts kind m place)
    ∷ made_by with_braces (one 0 (is_special (codes "{")) ▶ braced parts place true ▶ one 0 (is_special (codes "}")))
    ∷ []

abbrev pub block : {T : Type 0} → PartFinder T → BlockKind → ℕ → DeclPlace → Finder (Block T)
block parts kind m place = any_of (block_ways parts kind m place)
