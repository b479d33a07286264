-- Blocks that are read are those of the grammar.
use Rattle.std.proofs.Common.{◌≡◌, ℕ, Bool, true, false, List, [], ◌∷◌, ◌++◌, refl, sym, ap, subst, inl, inr}
use Rattle.std.specs.List.{AllByRecursion}
use Rattle.hr_base.specs.declared.lexeme.Ending.{Ending}
use Rattle.hr_rules.specs.declared.block.BlockKind.{BlockKind}
use Rattle.hr_rules.specs.declared.block.Placed.{Placed}
use Rattle.hr_tree.specs.declared.lists.Block.{Block}
use Rattle.hr_tree.specs.declared.lists.Layout.{Layout}
use Rattle.hr_tree.specs.declared.lists.Piece.{Piece}
use Rattle.hr_tree.specs.declared.expressions.Decl.{Decl}
use Rattle.hr_tree.specs.declared.expressions.Alt.{Alt}
use Rattle.hr_grammar.specs.Words.{IsSemicolon}
use Rattle.hr_grammar.specs.Nodes.{Nodes, DeclPlace}
use Rattle.hr_grammar.specs.Blocks.{IsPiece, PartsAreSeparated, AreBraced}
use Rattle.hr_grammar.specs.Yields.{AreDeclarationsOver, AreAlternativesOver}
use Rattle.hr_grammar_cases.specs.Derivations.{Derivations}
use Rattle.hr_grammar_cases.specs.Blocks.{Parts, pieces_reading, braced_reading, layout_reading}
use Rattle.hr_grammar_cases.specs.Modules.{comes_behind, decl_parts, alt_parts, declarations_over, alternatives_over}
use Rattle.hr_grammar_cases.specs.Laws.{AllAre}

-- pieces, each part with a place behind that of the parts before it
abbrev Staged : {T : Type 0} → (DeclPlace → DeclPlace → T → Type 0) → DeclPlace → List (Piece T) → Type 0
Staged Is place [] = Unit {0}
Staged Is place (Piece.Semicolon item ∷ pieces) = IsSemicolon item × Staged Is place pieces
Staged Is place (Piece.Part part ∷ pieces) = (next : DeclPlace) × Is place next part × Staged Is next pieces

abbrev PartsAre : {T : Type 0} → Parts T → (DeclPlace → DeclPlace → T → Type 0) → Type 0
PartsAre {T} parts Is = (n : ℕ) (place next : DeclPlace) (part : T) (ending : Ending) (ts us : List Placed) → parts n place next part ending ts us → Is place next part

pieces_staged : {T : Type 0} (parts : Parts T) (Is : DeclPlace → DeclPlace → T → Type 0) → PartsAre parts Is
    → (kind : BlockKind) (n : ℕ) (place : DeclPlace) (ending : Ending) (pieces : List (Piece T)) (ts us : List Placed) → pieces_reading parts kind n place ending pieces ts us → Staged Is place pieces
pieces_staged parts Is each kind n place ending [] ts us r = tt
pieces_staged parts Is each kind n place ending (Piece.Semicolon item ∷ pieces) ts us r = (r.1.0, pieces_staged parts Is each kind n place Ending.Nothing pieces r.0 us r.2)
pieces_staged parts Is each kind n place ending (Piece.Part part ∷ pieces) ts us r =
    (r.2.0, each n place r.2.0 part r.2.1 r.0 r.2.2.0 r.2.2.1, pieces_staged parts Is each kind n r.2.0 r.2.1 pieces r.2.2.0 us r.2.2.2)

braced_staged : {T : Type 0} (parts : Parts T) (Is : DeclPlace → DeclPlace → T → Type 0) → PartsAre parts Is
    → (place : DeclPlace) (begins : Bool) (pieces : List (Piece T)) (ts us : List Placed) → braced_reading parts place begins pieces ts us → Staged Is place pieces
braced_staged parts Is each place begins [] ts us r = tt
braced_staged parts Is each place begins (Piece.Semicolon item ∷ pieces) ts us r = (r.1.0, braced_staged parts Is each place true pieces r.0 us r.2)
braced_staged parts Is each place begins (Piece.Part part ∷ pieces) ts us r =
    (r.1.0, each 0 place r.1.0 part r.1.1 ts r.1.2.0 r.1.2.1, braced_staged parts Is each r.1.0 false pieces r.1.2.0 us r.1.2.2)

false_is_true : {C : Type 0} → false ≡ true → C
false_is_true {C} e = let h : ⊥ = cc in elim h [ ]

braced_apart : {T : Type 0} (parts : Parts T) (place : DeclPlace) (begins : Bool) (pieces : List (Piece T)) (ts us : List Placed) → braced_reading parts place begins pieces ts us → PartsAreSeparated pieces
braced_apart parts place begins [] ts us r = tt
braced_apart parts place begins (Piece.Semicolon item ∷ []) ts us r = tt
braced_apart parts place begins (Piece.Part part ∷ []) ts us r = tt
braced_apart parts place begins (Piece.Part part ∷ (Piece.Part next ∷ rest)) ts us r = false_is_true r.1.2.2.0
braced_apart parts place begins (Piece.Part part ∷ (Piece.Semicolon item ∷ rest)) ts us r = braced_apart parts r.1.0 false (Piece.Semicolon item ∷ rest) r.1.2.0 us r.1.2.2
braced_apart parts place begins (Piece.Semicolon item ∷ (Piece.Part next ∷ rest)) ts us r = braced_apart parts place true (Piece.Part next ∷ rest) r.0 us r.2
braced_apart parts place begins (Piece.Semicolon item ∷ (Piece.Semicolon next ∷ rest)) ts us r = braced_apart parts place true (Piece.Semicolon next ∷ rest) r.0 us r.2

-- a block of either layout
layout_is : {T : Type 0} (parts : Parts T) (Is : DeclPlace → DeclPlace → T → Type 0) → PartsAre parts Is
    → (kind : BlockKind) (m : ℕ) (place : DeclPlace) (layout : Layout) (pieces : List (Piece T)) (ts us : List Placed)
    → layout_reading parts kind m place layout pieces ts us → AreBraced layout pieces × Staged Is place pieces
layout_is parts Is each kind m place (Layout.Implicit col) pieces ts us (inl r) = (tt, subst (Staged Is place) (sym r.1) tt)
layout_is parts Is each kind m place (Layout.Implicit col) pieces ts us (inr r) = (tt, pieces_staged parts Is each kind col place Ending.Nothing pieces ts us r.1)
layout_is parts Is each kind m place (Layout.Explicit left right) pieces ts us r =
    ((r.1.0, (r.2.2.0, braced_apart parts place true pieces r.0 r.2.0 r.2.1)), braced_staged parts Is each place true pieces r.0 r.2.0 r.2.1)

-- a declaration at its place, behind the place before
abbrev Behind : Nodes → DeclPlace → DeclPlace → Decl → Type 0
Behind allowed place next decl = (comes_behind place next ≡ true) × allowed.decl next decl

decl_parts_are : (read : Derivations) (allowed : Nodes) → AllAre read allowed → PartsAre (decl_parts read) (Behind allowed)
decl_parts_are read allowed each n place next decl ending ts us r = (r.0, each.decl n next decl ending ts us r.1)

alt_parts_are : (read : Derivations) (allowed : Nodes) → AllAre read allowed → PartsAre (alt_parts read) (λ place next alt. allowed.alt alt)
alt_parts_are read allowed each n place next alt ending ts us r = each.alt n alt ending ts us r.1

-- behind a place that goes on as it is, all have it
local_part : (allowed : Nodes) (next : DeclPlace) (decl : Decl) → Behind allowed DeclPlace.Local next decl → (next ≡ DeclPlace.Local) × allowed.decl DeclPlace.Local decl
local_part allowed DeclPlace.First decl h = false_is_true h.0
local_part allowed DeclPlace.Top decl h = false_is_true h.0
local_part allowed DeclPlace.Local decl h = (refl, h.1)

top_part : (allowed : Nodes) (next : DeclPlace) (decl : Decl) → Behind allowed DeclPlace.Top next decl → (next ≡ DeclPlace.Top) × allowed.decl DeclPlace.Top decl
top_part allowed DeclPlace.First decl h = false_is_true h.0
top_part allowed DeclPlace.Top decl h = (refl, h.1)
top_part allowed DeclPlace.Local decl h = false_is_true h.0

all_local : (allowed : Nodes) (pieces : List (Piece Decl)) → Staged (Behind allowed) DeclPlace.Local pieces → AllByRecursion (IsPiece (allowed.decl DeclPlace.Local)) pieces
all_local allowed [] s = tt
all_local allowed (Piece.Semicolon item ∷ pieces) s = (s.0, all_local allowed pieces s.1)
all_local allowed (Piece.Part decl ∷ pieces) s =
    let h = local_part allowed s.0 decl s.1 in (h.1, all_local allowed pieces (subst (λ p. Staged (Behind allowed) p pieces) h.0 s.2))

all_top : (allowed : Nodes) (pieces : List (Piece Decl)) → Staged (Behind allowed) DeclPlace.Top pieces → AllByRecursion (IsPiece (allowed.decl DeclPlace.Top)) pieces
all_top allowed [] s = tt
all_top allowed (Piece.Semicolon item ∷ pieces) s = (s.0, all_top allowed pieces s.1)
all_top allowed (Piece.Part decl ∷ pieces) s =
    let h = top_part allowed s.0 decl s.1 in (h.1, all_top allowed pieces (subst (λ p. Staged (Behind allowed) p pieces) h.0 s.2))

-- imports, and then the other parts
abbrev Body : Nodes → List (Piece Decl) → Type 0
Body allowed pieces = (imports others : List (Piece Decl)) × (pieces ≡ imports ++ others)
    × AllByRecursion (IsPiece (allowed.decl DeclPlace.First)) imports × AllByRecursion (IsPiece (allowed.decl DeclPlace.Top)) others

body_more : (allowed : Nodes) (piece : Piece Decl) (pieces : List (Piece Decl)) → IsPiece (allowed.decl DeclPlace.First) piece → Body allowed pieces → Body allowed (piece ∷ pieces)
body_more allowed piece pieces is b = (piece ∷ b.0, b.1, ap (λ l. piece ∷ l) b.2, (is, b.3), b.4)

body_part : (allowed : Nodes) (next : DeclPlace) (decl : Decl) (pieces : List (Piece Decl)) → (Staged (Behind allowed) DeclPlace.First pieces → Body allowed pieces)
    → Behind allowed DeclPlace.First next decl → Staged (Behind allowed) next pieces → Body allowed (Piece.Part decl ∷ pieces)
body_part allowed DeclPlace.First decl pieces further h s = body_more allowed (Piece.Part decl) pieces h.1 (further s)
body_part allowed DeclPlace.Top decl pieces further h s = ([], Piece.Part decl ∷ pieces, refl, tt, (h.1, all_top allowed pieces s))
body_part allowed DeclPlace.Local decl pieces further h s = false_is_true h.0

body_of : (allowed : Nodes) (pieces : List (Piece Decl)) → Staged (Behind allowed) DeclPlace.First pieces → Body allowed pieces
body_of allowed [] s = ([], [], refl, tt, tt)
body_of allowed (Piece.Semicolon item ∷ pieces) s = body_more allowed (Piece.Semicolon item) pieces s.0 (body_of allowed pieces s.1)
body_of allowed (Piece.Part decl ∷ pieces) s = body_part allowed s.0 decl pieces (body_of allowed pieces) s.1 s.2

all_alternatives : (allowed : Nodes) (place : DeclPlace) (pieces : List (Piece Alt)) → Staged (λ before next alt. allowed.alt alt) place pieces → AllByRecursion (IsPiece allowed.alt) pieces
all_alternatives allowed place [] s = tt
all_alternatives allowed place (Piece.Semicolon item ∷ pieces) s = (s.0, all_alternatives allowed place pieces s.1)
all_alternatives allowed place (Piece.Part alt ∷ pieces) s = (s.1, all_alternatives allowed s.0 pieces s.2)

pub declarations_are : (read : Derivations) (allowed : Nodes) → AllAre read allowed → (m : ℕ) (place : DeclPlace) (block : Block Decl) (ts us : List Placed)
    → declarations_over read m place block ts us → AreDeclarationsOver allowed place block
declarations_are read allowed each m DeclPlace.First block ts us r = elim r [ ]
declarations_are read allowed each m DeclPlace.Top block ts us r =
    let h = layout_is (decl_parts read) (Behind allowed) (decl_parts_are read allowed each) BlockKind.Body m DeclPlace.First block.layout block.pieces ts us r in
    (h.0, body_of allowed block.pieces h.1)
declarations_are read allowed each m DeclPlace.Local block ts us r =
    let h = layout_is (decl_parts read) (Behind allowed) (decl_parts_are read allowed each) BlockKind.Declarations m DeclPlace.Local block.layout block.pieces ts us r in
    (h.0, all_local allowed block.pieces h.1)

pub alternatives_are : (read : Derivations) (allowed : Nodes) → AllAre read allowed → (m : ℕ) (block : Block Alt) (ts us : List Placed)
    → alternatives_over read m block ts us → AreAlternativesOver allowed block
alternatives_are read allowed each m block ts us r =
    let h = layout_is (alt_parts read) (λ place next alt. allowed.alt alt) (alt_parts_are read allowed each) BlockKind.Alternatives m DeclPlace.Local block.layout block.pieces ts us r in
    (h.0, all_alternatives allowed DeclPlace.Local block.pieces h.1)
