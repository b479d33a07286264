-- Readings that go over into wider ones.
use Rattle.std.proofs.Common.{◌≡◌, ℕ, Bool, true, false, List, [], ◌∷◌, inl, inr}
use Rattle.hr_base.specs.declared.lexeme.Ending.{Ending}
use Rattle.hr_base.specs.declared.lexeme.Item.{Item}
use Rattle.hr_rules.specs.declared.block.BlockKind.{BlockKind}
use Rattle.hr_rules.specs.declared.block.Placed.{Placed}
use Rattle.hr_tree.specs.declared.lists.Block.{Block}
use Rattle.hr_tree.specs.declared.lists.Layout.{Layout}
use Rattle.hr_tree.specs.declared.lists.Listed.{Listed}
use Rattle.hr_tree.specs.declared.lists.Piece.{Piece}
use Rattle.hr_grammar.specs.Nodes.{DeclPlace}
use Rattle.hr_grammar_cases.specs.Readings.{Reading, never, ◌▷◌, given, in_turn, separated, there, inside, ends_as}
use Rattle.hr_grammar_cases.specs.Blocks.{Parts, part_then, pieces_reading, braced_reading, implicit_reading, layout_reading, block_reading}
use Rattle.hr_grammar_cases.specs.Widening.{Widens}

pub same_widens : {reading : Reading} → Widens reading reading
same_widens = record { widens = λ ts us r. r }

pub never_widens : {wider : Reading} → Widens never wider
never_widens = record { widens = λ ts us r. elim r [ ] }

pub then_widens : {first wider second other : Reading} → Widens first wider → Widens second other → Widens (first ▷ second) (wider ▷ other)
then_widens f g = record { widens = λ ts us r. (r.0, f.widens ts r.0 r.1, g.widens r.0 us r.2) }

pub given_widens : (P : Type 0) {reading wider : Reading} → Widens reading wider → Widens (given P reading) (given P wider)
given_widens P f = record { widens = λ ts us r. (r.0, f.widens ts us r.1) }

pub inside_widens : {reading wider : Ending → Reading} → ((ending : Ending) → Widens (reading ending) (wider ending)) → Widens (inside reading) (inside wider)
inside_widens f = record { widens = λ ts us r. (r.0, (f r.0).widens ts us r.1) }

pub ends_as_widens : (turn : Ending → Ending) {reading wider : Ending → Reading} → ((ending : Ending) → Widens (reading ending) (wider ending)) → (ending : Ending)
    → Widens (ends_as turn reading ending) (ends_as turn wider ending)
ends_as_widens turn f ending = record { widens = λ ts us r. (r.0, r.1, (f r.0).widens ts us r.2) }

pub in_turn_widens : {T : Type 0} (of more : T → Reading) → ((x : T) → Widens (of x) (more x)) → (xs : List T) → Widens (in_turn of xs) (in_turn more xs)
in_turn_widens of more each [] = same_widens
in_turn_widens of more each (x ∷ xs) = then_widens (each x) (in_turn_widens of more each xs)

pub separated_widens : {T : Type 0} (separator : Item → Reading) (of more : T → Reading) → ((x : T) → Widens (of x) (more x)) → (list : List (Listed T))
    → Widens (separated separator of list) (separated separator more list)
separated_widens separator of more each [] = same_widens
separated_widens separator of more each (listed ∷ []) = given_widens _ (each listed.part)
separated_widens separator of more each (listed ∷ (next ∷ rest)) =
    then_widens (each listed.part) (then_widens (same_widens {reading = there separator listed.separator}) (separated_widens separator of more each (next ∷ rest)))

part_then_widens : {part wider rest other : DeclPlace → Ending → Reading} → ((next : DeclPlace) (end : Ending) → Widens (part next end) (wider next end))
    → ((next : DeclPlace) (end : Ending) → Widens (rest next end) (other next end)) → Widens (part_then part rest) (part_then wider other)
part_then_widens f g = record { widens = λ ts us r. (r.0, r.1, (then_widens (f r.0 r.1) (g r.0 r.1)).widens ts us r.2) }

-- the parts of a block
abbrev pub PartsWiden : {T : Type 0} → Parts T → Parts T → Type 0
PartsWiden {T} parts more = (n : ℕ) (place next : DeclPlace) (part : T) (ending : Ending) → Widens (parts n place next part ending) (more n place next part ending)

pub pieces_widen : {T : Type 0} (parts more : Parts T) → PartsWiden parts more → (kind : BlockKind) (n : ℕ) (place : DeclPlace) (ending : Ending) (pieces : List (Piece T))
    → Widens (pieces_reading parts kind n place ending pieces) (pieces_reading more kind n place ending pieces)
pieces_widen parts more each kind n place ending [] = same_widens
pieces_widen parts more each kind n place ending (Piece.Semicolon item ∷ pieces) = then_widens same_widens (pieces_widen parts more each kind n place Ending.Nothing pieces)
pieces_widen parts more each kind n place ending (Piece.Part part ∷ pieces) =
    then_widens same_widens (part_then_widens (λ next end. each n place next part end) (λ next end. pieces_widen parts more each kind n next end pieces))

pub braced_widens : {T : Type 0} (parts more : Parts T) → PartsWiden parts more → (place : DeclPlace) (begins : Bool) (pieces : List (Piece T))
    → Widens (braced_reading parts place begins pieces) (braced_reading more place begins pieces)
braced_widens parts more each place begins [] = same_widens
braced_widens parts more each place begins (Piece.Semicolon item ∷ pieces) = then_widens same_widens (braced_widens parts more each place true pieces)
braced_widens parts more each place begins (Piece.Part part ∷ pieces) =
    given_widens (begins ≡ true) (part_then_widens (λ next end. each 0 place next part end) (λ next end. braced_widens parts more each next false pieces))

implicit_goes : {T : Type 0} (parts more : Parts T) → PartsWiden parts more → (kind : BlockKind) (m : ℕ) (place : DeclPlace) (col : ℕ) (pieces : List (Piece T)) (ts us : List Placed)
    → implicit_reading parts kind m place col pieces ts us → implicit_reading more kind m place col pieces ts us
implicit_goes parts more each kind m place col pieces ts us (inl r) = inl r
implicit_goes parts more each kind m place col pieces ts us (inr r) = inr (r.0, (pieces_widen parts more each kind col place Ending.Nothing pieces).widens ts us r.1)

layout_widens : {T : Type 0} (parts more : Parts T) → PartsWiden parts more → (kind : BlockKind) (m : ℕ) (place : DeclPlace) (layout : Layout) (pieces : List (Piece T))
    → Widens (layout_reading parts kind m place layout pieces) (layout_reading more kind m place layout pieces)
layout_widens parts more each kind m place (Layout.Implicit col) pieces = record { widens = implicit_goes parts more each kind m place col pieces }
layout_widens parts more each kind m place (Layout.Explicit left right) pieces = then_widens same_widens (then_widens (braced_widens parts more each place true pieces) same_widens)

pub block_widens : {T : Type 0} (parts more : Parts T) → PartsWiden parts more → (kind : BlockKind) (m : ℕ) (place : DeclPlace) (block : Block T)
    → Widens (block_reading parts kind m place block) (block_reading more kind m place block)
block_widens parts more each kind m place block = layout_widens parts more each kind m place block.layout block.pieces
