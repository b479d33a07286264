-- A block that is read takes its own items, if its parts do.
use Rattle.std.proofs.Common.{◌≡◌, ℕ, Bool, true, false, List, [], ◌∷◌, ◌++◌, length, drop, refl, sym, ap, ap₂, ◌∙◌, subst, inl, inr}
use Rattle.std.specs.List.{flat_map}
use Rattle.hr_base.specs.declared.lexeme.Ending.{Ending}
use Rattle.hr_base.specs.declared.lexeme.Item.{Item}
use Rattle.hr_rules.specs.declared.block.BlockKind.{BlockKind}
use Rattle.hr_rules.specs.declared.block.Placed.{Placed}
use Rattle.hr_rules.specs.Blocks.{mark}
use Rattle.hr_tree.specs.declared.lists.Block.{Block}
use Rattle.hr_tree.specs.declared.lists.Layout.{Layout}
use Rattle.hr_tree.specs.declared.lists.Piece.{Piece}
use Rattle.hr_tree.specs.Lists.{piece_items, block_items, opening_items, closing_items}
use Rattle.hr_grammar.specs.Words.{IsLeftBrace, IsRightBrace, IsSemicolon}
use Rattle.hr_grammar.specs.Nodes.{DeclPlace}
use Rattle.hr_grammar_cases.specs.Readings.{Reading}
use Rattle.hr_grammar_cases.specs.Blocks.{Parts, takes_semicolon, ends_here, starts, part_then, pieces_reading, braced_reading, implicit_reading, layout_reading, block_reading}
use Rattle.hr_grammar_cases.specs.Laws.{items_left, AreLeft, Gives}
use Rattle.hr_grammar_cases.proofs.Readings.{append_nothing, same_gives, nothing_gives, then_gives, given_gives, one_gives}

-- a mark changes no item
marked : (first : Bool) (ts : List Placed) → items_left (mark first ts) ≡ items_left ts
marked first [] = refl
marked first (next ∷ ts) = refl

semicolon_items : (n : ℕ) (item : Item) (ts us : List Placed) → takes_semicolon n item ts us → items_left ts ≡ (item ∷ []) ++ items_left us
semicolon_items n item [] us h = elim h [ ]
semicolon_items n item (next ∷ ts) us h = ap₂ (λ (i : Item) (l : List Placed). i ∷ items_left l) h.1 (sym h.2)

semicolon_leaves : (n : ℕ) (item : Item) (ts us : List Placed) → takes_semicolon n item ts us → AreLeft us (drop 1 ts)
semicolon_leaves n item [] us h = elim h [ ]
semicolon_leaves n item (next ∷ ts) us h = inl h.2

semicolon_gives : (n : ℕ) (item : Item) → Gives (item ∷ []) (takes_semicolon n item)
semicolon_gives n item = record { gives = semicolon_items n item; leaves = semicolon_leaves n item }

ends_here_gives : (kind : BlockKind) (n : ℕ) (ending : Ending) → Gives [] (ends_here kind n ending)
ends_here_gives kind n ending = record { gives = λ ts us r. ap items_left (sym r.1); leaves = λ ts us r. inl r.1 }

starts_gives : (n : ℕ) (ending : Ending) → Gives [] (starts n ending)
starts_gives n ending = record { gives = λ ts us r. sym (marked false ts) ∙ ap items_left (sym r.1); leaves = λ ts us r. inr (false, r.1) }

part_then_gives : {items others : List Item} {part rest : DeclPlace → Ending → Reading} → ((next : DeclPlace) (end : Ending) → Gives items (part next end))
    → ((next : DeclPlace) (end : Ending) → Gives others (rest next end)) → Gives (items ++ others) (part_then part rest)
part_then_gives g h = record { gives = λ ts us r. (then_gives (g r.0 r.1) (h r.0 r.1)).gives ts us r.2; leaves = λ ts us r. (then_gives (g r.0 r.1) (h r.0 r.1)).leaves ts us r.2 }

-- the parts take their own items
abbrev pub PartsGive : {T : Type 0} → (T → List Item) → Parts T → Type 0
PartsGive {T} items_of parts = (n : ℕ) (place next : DeclPlace) (part : T) (ending : Ending) → Gives (items_of part) (parts n place next part ending)

pieces_give : {T : Type 0} (items_of : T → List Item) (parts : Parts T) → PartsGive items_of parts
    → (kind : BlockKind) (n : ℕ) (place : DeclPlace) (ending : Ending) (pieces : List (Piece T)) → Gives (flat_map (piece_items items_of) pieces) (pieces_reading parts kind n place ending pieces)
pieces_give items_of parts each kind n place ending [] = ends_here_gives kind n ending
pieces_give items_of parts each kind n place ending (Piece.Semicolon item ∷ pieces) =
    then_gives (given_gives (IsSemicolon item) (semicolon_gives n item)) (pieces_give items_of parts each kind n place Ending.Nothing pieces)
pieces_give items_of parts each kind n place ending (Piece.Part part ∷ pieces) =
    then_gives (starts_gives n ending)
    (part_then_gives (λ next end. each n place next part end) (λ next end. pieces_give items_of parts each kind n next end pieces))

braced_give : {T : Type 0} (items_of : T → List Item) (parts : Parts T) → PartsGive items_of parts
    → (place : DeclPlace) (begins : Bool) (pieces : List (Piece T)) → Gives (flat_map (piece_items items_of) pieces) (braced_reading parts place begins pieces)
braced_give items_of parts each place begins [] = nothing_gives
braced_give items_of parts each place begins (Piece.Semicolon item ∷ pieces) = then_gives (one_gives 0 IsSemicolon item) (braced_give items_of parts each place true pieces)
braced_give items_of parts each place begins (Piece.Part part ∷ pieces) =
    given_gives (begins ≡ true) (part_then_gives (λ next end. each 0 place next part end) (λ next end. braced_give items_of parts each next false pieces))

implicit_items : {T : Type 0} (items_of : T → List Item) (parts : Parts T) → PartsGive items_of parts
    → (kind : BlockKind) (m : ℕ) (place : DeclPlace) (col : ℕ) (pieces : List (Piece T)) (ts us : List Placed) → implicit_reading parts kind m place col pieces ts us
    → items_left ts ≡ flat_map (piece_items items_of) pieces ++ items_left us
implicit_items items_of parts each kind m place col pieces ts us (inl r) =
    sym (marked true ts) ∙ ap items_left (sym r.3) ∙ sym (ap (λ l. flat_map (piece_items items_of) l ++ items_left us) r.1)
implicit_items items_of parts each kind m place col pieces ts us (inr r) = (pieces_give items_of parts each kind col place Ending.Nothing pieces).gives ts us r.1

implicit_leaves : {T : Type 0} (items_of : T → List Item) (parts : Parts T) → PartsGive items_of parts
    → (kind : BlockKind) (m : ℕ) (place : DeclPlace) (col : ℕ) (pieces : List (Piece T)) (ts us : List Placed) → implicit_reading parts kind m place col pieces ts us
    → AreLeft us (drop (length (flat_map (piece_items items_of) pieces)) ts)
implicit_leaves items_of parts each kind m place col pieces ts us (inl r) =
    subst (λ l. AreLeft us (drop (length (flat_map (piece_items items_of) l)) ts)) (sym r.1) (inr (true, r.3))
implicit_leaves items_of parts each kind m place col pieces ts us (inr r) = (pieces_give items_of parts each kind col place Ending.Nothing pieces).leaves ts us r.1

implicit_gives : {T : Type 0} (items_of : T → List Item) (parts : Parts T) → PartsGive items_of parts
    → (kind : BlockKind) (m : ℕ) (place : DeclPlace) (col : ℕ) (pieces : List (Piece T)) → Gives (flat_map (piece_items items_of) pieces) (implicit_reading parts kind m place col pieces)
implicit_gives items_of parts each kind m place col pieces = record {
  gives = implicit_items items_of parts each kind m place col pieces;
  leaves = implicit_leaves items_of parts each kind m place col pieces;
}

layout_gives : {T : Type 0} (items_of : T → List Item) (parts : Parts T) → PartsGive items_of parts
    → (kind : BlockKind) (m : ℕ) (place : DeclPlace) (layout : Layout) (pieces : List (Piece T))
    → Gives (opening_items layout ++ (flat_map (piece_items items_of) pieces ++ closing_items layout)) (layout_reading parts kind m place layout pieces)
layout_gives items_of parts each kind m place (Layout.Implicit col) pieces =
    same_gives (sym (append_nothing (flat_map (piece_items items_of) pieces))) (implicit_gives items_of parts each kind m place col pieces)
layout_gives items_of parts each kind m place (Layout.Explicit left right) pieces =
    then_gives (one_gives 0 IsLeftBrace left) (then_gives (braced_give items_of parts each place true pieces) (one_gives 0 IsRightBrace right))

pub block_gives : {T : Type 0} (items_of : T → List Item) (parts : Parts T) → PartsGive items_of parts
    → (kind : BlockKind) (m : ℕ) (place : DeclPlace) (block : Block T) → Gives (block_items items_of block) (block_reading parts kind m place block)
block_gives items_of parts each kind m place block = layout_gives items_of parts each kind m place block.layout block.pieces
