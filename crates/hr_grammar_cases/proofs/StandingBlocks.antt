-- A block that is read, if its parts stand: the four points of the layout rule.
use Rattle.std.proofs.Common.{◌≡◌, ◌⊎◌, ◌≤◌, ◌<◌, ℕ, ◌+◌, ◌==◌, nat_le, ◌||◌, ◌&&◌, Bool, true, false, List, [], ◌∷◌, map, drop, refl, sym, ap, ap₂, ◌∙◌, subst, inl, inr, add-zero, arith, eq-eqb, le-leb, leb-true, append-nil}
use Rattle.std.specs.List.{list_any}
use Rattle.hr_base.specs.declared.lexeme.Ending.{Ending}
use Rattle.hr_base.specs.declared.lexeme.Item.{Item}
use Rattle.hr_rules.specs.declared.block.BlockKind.{BlockKind}
use Rattle.hr_rules.specs.declared.block.Opened.{Opened}
use Rattle.hr_rules.specs.declared.block.Placed.{Placed}
use Rattle.hr_rules.specs.Blocks.{mark, opens, ends_block}
use Rattle.hr_tree.specs.declared.lists.Block.{Block}
use Rattle.hr_tree.specs.declared.lists.Layout.{Layout}
use Rattle.hr_tree.specs.declared.lists.Piece.{Piece}
use Rattle.hr_grammar.specs.Words.{IsLeftBrace, IsRightBrace, IsSemicolon}
use Rattle.hr_grammar.specs.Nodes.{DeclPlace}
use Rattle.hr_grammar.specs.Spans.{BlockSpan, Laid, one as one_laid, stretch_of, last_ending, block_laid}
use Rattle.hr_grammar.specs.Offside.{column_of, piece_starts, IsOffside, StandsWell}
use Rattle.hr_grammar_cases.specs.Readings.{Reading}
use Rattle.hr_grammar_cases.specs.Blocks.{Parts, part_then, pieces_reading, braced_reading, implicit_reading, layout_reading, block_reading}
use Rattle.hr_grammar_cases.proofs.Stretches.{beside, Has, has_first, is_empty_at, none_empty, Text, lexemes, seen, seen_plain, seen_empty}
use Rattle.hr_grammar_cases.proofs.Standing.{Right, Within, still_none, Known, Stands, Standing, then_stands, given_stands, ending_stands}
use Rattle.hr_grammar_cases.proofs.StandingLexemes.{none_between, nothing_stands, one_stands}
use Rattle.hr_grammar_cases.proofs.StandingPoints.{is_right, goes_down, least_down, opens_implicit, opens_empty, column_in, ends_in}
use Rattle.hr_grammar_cases.proofs.StandingPieces.{laids, pieces_laid, stretches, PartsStand, pieces_within, AtLeast, PiecesStanding, pieces_stand, Agree, pieces_end}

abbrev pub block_by : {T : Type 0} → (T → Laid) → Block T → Block Laid
block_by of block = record { layout = block.layout; pieces = laids of block.pieces }

-- the block itself, among its blocks the first one
abbrev pub the_span : BlockKind → ℕ → ℕ → Block Laid → BlockSpan
the_span kind m start block = record {
  layout = block.layout;
  kind = kind;
  enclosing = m;
  start = start;
  extent = (block_laid kind block).extent;
  pieces = map stretch_of block.pieces;
  ending = last_ending block.pieces;
}

abbrev pub implicit_block : {T : Type 0} → (T → Laid) → ℕ → List (Piece T) → Block Laid
implicit_block of col pieces = record { layout = Layout.Implicit col; pieces = laids of pieces }

abbrev pub explicit_block : {T : Type 0} → (T → Laid) → Item → Item → List (Piece T) → Block Laid
explicit_block of left right pieces = record { layout = Layout.Explicit left right; pieces = laids of pieces }

-- ---- a block without braces that has a column of its own
not_above : (m n : ℕ) → m < n → n ≤ m → ⊥
not_above m n l h = omega arith

pub none_over : (k : ℕ) → 0 + (k + 0) ≡ k
none_over k = omega arith

implicit_offside : {T : Type 0} (text : Text) (of : T → Laid) (kind : BlockKind) (m col start : ℕ) (pieces : List (Piece T)) (us : List Placed) → m < col → col ≡ column_of (drop start text.placed)
    → ends_block col kind (last_ending (laids of pieces)) us ≡ true → PiecesStanding text col start (pieces_laid of pieces) (stretches of pieces) us
    → IsOffside text.spans (lexemes text) (the_span kind m start (implicit_block of col pieces)) col
implicit_offside text of kind m col start pieces us l c ends p =
    let block = the_span kind m start (implicit_block of col pieces) in
    let extent = none_over (pieces_laid of pieces).extent in
    record {
      column = c ∙ column_in text start;
      empty = λ h. elim (not_above m col l h) [ ];
      parts = λ h. p.parts;
      stands = λ h j a b. is_right text block col j
          (subst (λ k. Right text col start (start + k) j ⊎ (AtLeast text col j × (list_any (λ s. s == j) (piece_starts start (stretches of pieces)) ≡ true))) (sym extent) (p.each j a (omega arith)));
      ends = λ h. subst (λ k. ends_block col kind (last_ending (laids of pieces)) (drop (start + k) (lexemes text)) ≡ true) (sym extent)
          (ends_in text col kind (last_ending (laids of pieces)) (start + (pieces_laid of pieces).extent) us p.after ends);
    }

inner_goes : (text : Text) (m n low high i : ℕ) (Begins : Type 0) → m < n → Right text n low high i ⊎ (AtLeast text n i × Begins) → Right text m low high i
inner_goes text m n low high i Begins l (inl (inl g)) = inl (goes_down text m n i l g)
inner_goes text m n low high i Begins l (inl (inr b)) = inr b
inner_goes text m n low high i Begins l (inr x) = inl (least_down text m n i l x.0)

implicit_standing : {T : Type 0} (text : Text) (of : T → Laid) (kind : BlockKind) (m col : ℕ) (begun : Bool) (start : ℕ) (pieces : List (Piece T)) (us : List Placed) → m < col
    → IsOffside text.spans (lexemes text) (the_span kind m start (implicit_block of col pieces)) col → PiecesStanding text col start (pieces_laid of pieces) (stretches of pieces) us
    → Standing text m true begun start (block_laid kind (implicit_block of col pieces)) us
implicit_standing text of kind m col begun start pieces us l o p = record {
  after = p.after ∙ ap (λ (k : ℕ). seen text false (start + k)) (sym (none_over (pieces_laid of pieces).extent));
  each = λ i a h. inl (subst (λ k. Right text m start (start + k) i) (sym (none_over (pieces_laid of pieces).extent))
      (inner_goes text m col start (start + (pieces_laid of pieces).extent) i (list_any (λ s. s == i) (piece_starts start (stretches of pieces)) ≡ true) l (p.each i a (omega arith))));
  blocks = λ span has. by span has;
}
  where
    by : (span : BlockSpan) → Has ((block_laid kind (implicit_block of col pieces)).blocks m start) span → StandsWell text.spans (lexemes text) span
    by span (inl same) = subst (StandsWell text.spans (lexemes text)) same o
    by span (inr has) = p.blocks span (subst (λ k. Has ((pieces_laid of pieces).blocks col k) span) (add-zero start) has)

-- no block starts where the pieces of this one begin
pub none_at_start : (text : Text) (start extent : ℕ) (spans : List BlockSpan) → ((span : BlockSpan) → Has spans span → Within false start extent span) → is_empty_at spans start ≡ false
none_at_start text start extent spans within = none_empty spans start (λ span has same. let b = (within span has).behind in omega arith)

not_empty : (m n : ℕ) → m < n → nat_le n m ≡ false
not_empty m n l = by (nat_le n m) refl
  where
    by : (t : Bool) → nat_le n m ≡ t → nat_le n m ≡ false
    by true e = let h = leb-true n m e in elim (not_above m n l h) [ ]
    by false e = e

-- the text's blocks that start in the block are the block itself, which is not left empty, and those in its pieces
pub implicit_known : {T : Type 0} {text : Text} (of : T → Laid) (kind : BlockKind) (m col start : ℕ) (pieces : List (Piece T)) → m < col
    → Known text true start (block_laid kind (implicit_block of col pieces)).extent ((block_laid kind (implicit_block of col pieces)).blocks m start)
    → Known text true start (pieces_laid of pieces).extent ((pieces_laid of pieces).blocks col start)
implicit_known {text = text} of kind m col start pieces l k = record {
  marks = λ i a h. k.marks i a (omega arith) ∙ ap (λ b. (b && (start == i)) || is_empty_at ((pieces_laid of pieces).blocks col (start + 0)) i) (not_empty m col l)
      ∙ ap (λ s. is_empty_at ((pieces_laid of pieces).blocks col s) i) (add-zero start);
  among = λ span has. k.among span (inr (subst (λ s. Has ((pieces_laid of pieces).blocks col s) span) (sym (add-zero start)) has));
}

pub later_known : {text : Text} {start extent : ℕ} {spans : List BlockSpan} → Known text true start extent spans → Known text false start extent spans
later_known k = record { marks = λ i a h. k.marks i (omega arith) h; among = k.among }

implicit_there : {T : Type 0} {text : Text} {of : T → Laid} {parts : Parts T} → PartsStand text of parts → (kind : BlockKind) (m : ℕ) (place : DeclPlace) (col : ℕ) (pieces : List (Piece T)) (ts us : List Placed)
    → opens m ts ≡ Opened.Implicit col → pieces_reading parts kind col place Ending.Nothing pieces ts us → ends_block col kind (last_ending (laids of pieces)) us ≡ true → (begun : Bool) (start : ℕ)
    → Known text true start (block_laid kind (implicit_block of col pieces)).extent ((block_laid kind (implicit_block of col pieces)).blocks m start)
    → ts ≡ drop start text.placed → Standing text m true begun start (block_laid kind (implicit_block of col pieces)) us
implicit_there {text = text} {of = of} p kind m place col pieces ts us opened r ends begun start k e =
    let o = opens_implicit m col ts opened in
    let known = implicit_known of kind m col start pieces o.0 k in
    let within = pieces_within p kind col place Ending.Nothing pieces ts us r start in
    let none = known.marks start (omega arith) (omega arith) ∙ none_at_start text start (pieces_laid of pieces).extent ((pieces_laid of pieces).blocks col start) within in
    let standing = pieces_stand p kind col place Ending.Nothing pieces ts us r start (later_known known) (e ∙ seen_plain text start none) in
    implicit_standing text of kind m col begun start pieces us o.0 (implicit_offside text of kind m col start pieces us o.0 (o.1 ∙ ap column_of e) ends standing) standing

-- ---- a block that is left empty
empty_offside : (text : Text) (kind : BlockKind) (m col start : ℕ) (laid : List (Piece Laid)) → laid ≡ [] → col ≤ m → col ≡ column_of (drop start text.placed)
    → IsOffside text.spans (lexemes text) (the_span kind m start (record { layout = Layout.Implicit col; pieces = laid })) col
empty_offside text kind m col start laid none l c = record {
  column = c ∙ column_in text start;
  empty = λ h. ap (λ (ps : List (Piece Laid)). map stretch_of ps) none;
  parts = λ h. elim (not_above m col h l) [ ];
  stands = λ h. elim (not_above m col h l) [ ];
  ends = λ h. elim (not_above m col h l) [ ];
}

abbrev empty_block : ℕ → Block Laid
empty_block col = record { layout = Layout.Implicit col; pieces = [] }

pub empty_mark : (m col start : ℕ) → col ≤ m → ((nat_le col m && (start == start)) || false) ≡ true
empty_mark m col start l = ap₂ (λ (a b : Bool). (a && b) || false) (le-leb col m l) (eq-eqb start start refl)

empty_there : (text : Text) (kind : BlockKind) (m col : ℕ) (ts us : List Placed) → opens m ts ≡ Opened.Empty → col ≡ column_of ts → us ≡ mark true ts → (begun : Bool) (start : ℕ)
    → Known text true start (block_laid kind (empty_block col)).extent ((block_laid kind (empty_block col)).blocks m start)
    → ts ≡ drop start text.placed → Standing text m true begun start (block_laid kind (empty_block col)) us
empty_there text kind m col ts us opened c u begun start k e =
    let l : col ≤ m = subst (λ x. x ≤ m) (sym c) (opens_empty m ts opened) in
    record {
      after = u ∙ ap (λ (q : List Placed). mark true q) e ∙ seen_empty text start (k.marks start (omega arith) (omega arith) ∙ empty_mark m col start l) ∙ ap (λ (i : ℕ). seen text false i) (sym (add-zero start));
      each = λ i a h. elim (none_between start i a h) [ ];
      blocks = λ span has. by span l has;
    }
  where
    by : (span : BlockSpan) → col ≤ m → Has ((block_laid kind (empty_block col)).blocks m start) span → StandsWell text.spans (lexemes text) span
    by span l (inl same) = subst (StandsWell text.spans (lexemes text)) same (empty_offside text kind m col start [] refl l (c ∙ ap column_of e))
    by span l (inr has) = elim has [ ]

-- ---- a block in braces
part_then_stands : {text : Text} {n : ℕ} {a b : Laid} {part rest : DeclPlace → Ending → Reading} → ((next : DeclPlace) (end : Ending) → Stands text n false a (part next end))
    → ((next : DeclPlace) (end : Ending) → Stands text n false b (rest next end)) → Stands text n false (beside a b) (part_then part rest)
part_then_stands g h = record {
  within = λ ts us r. (then_stands (g r.0 r.1) (h r.0 r.1)).within ts us r.2;
  stands = λ ts us r. (then_stands (g r.0 r.1) (h r.0 r.1)).stands ts us r.2;
}

braced_stands : {T : Type 0} {text : Text} {of : T → Laid} {parts : Parts T} → PartsStand text of parts → (place : DeclPlace) (begins : Bool) (pieces : List (Piece T))
    → Stands text 0 false (pieces_laid of pieces) (braced_reading parts place begins pieces)
braced_stands p place begins [] = nothing_stands
braced_stands p place begins (Piece.Semicolon item ∷ pieces) = then_stands (ending_stands Ending.Nothing (one_stands IsSemicolon item)) (braced_stands p place true pieces)
braced_stands p place begins (Piece.Part part ∷ pieces) =
    given_stands (begins ≡ true) (part_then_stands (λ next end. p.stands 0 place next part end) (λ next end. braced_stands p next false pieces))

-- the braces and what is between them
abbrev pub in_braces : {T : Type 0} → (T → Laid) → Item → Item → List (Piece T) → Laid
in_braces of left right pieces = beside (one_laid left) (beside (pieces_laid of pieces) (one_laid right))

explicit_stands : {T : Type 0} {text : Text} {of : T → Laid} {parts : Parts T} → PartsStand text of parts → (m : ℕ) (place : DeclPlace) (left right : Item) (pieces : List (Piece T))
    → Stands text 0 false (in_braces of left right pieces) (layout_reading parts BlockKind.Body m place (Layout.Explicit left right) pieces)
explicit_stands p m place left right pieces = then_stands (one_stands IsLeftBrace left) (then_stands (braced_stands p place true pieces) (one_stands IsRightBrace right))

explicit_there : {T : Type 0} {text : Text} {of : T → Laid} {parts : Parts T} → PartsStand text of parts → (kind : BlockKind) (m : ℕ) (place : DeclPlace) (left right : Item) (pieces : List (Piece T))
    (ts us : List Placed) → layout_reading parts kind m place (Layout.Explicit left right) pieces ts us → (begun : Bool) (start : ℕ)
    → Known text true start (block_laid kind (explicit_block of left right pieces)).extent ((block_laid kind (explicit_block of left right pieces)).blocks m start)
    → ts ≡ drop start text.placed → Standing text m true begun start (block_laid kind (explicit_block of left right pieces)) us
explicit_there {text = text} {of = of} p kind m place left right pieces ts us r begun start k e =
    let inner = explicit_stands p m place left right pieces in
    let spans = (pieces_laid of pieces).blocks 0 (start + 1) in
    let within : (span : BlockSpan) → Has spans span → Within false start (in_braces of left right pieces).extent span = λ span has. inner.within ts us r start span (has_first spans [] span has) in
    let none = k.marks start (omega arith) (omega arith) ∙ none_at_start text start (in_braces of left right pieces).extent spans within in
    let s = inner.stands ts us r false start
    (record { marks = λ i a h. k.marks i (omega arith) h ∙ ap (λ l. is_empty_at l i) (sym (append-nil spans)); among = λ span has. k.among span (inr (subst (λ l. Has l span) (append-nil spans) has)) })
    (e ∙ seen_plain text start none) in
    record {
      after = s.after ∙ ap (λ (b : Bool). seen text b (start + (in_braces of left right pieces).extent)) (still_none (in_braces of left right pieces).extent);
      each = λ i a h. inl (inr (record {
        span = the_span kind m start (explicit_block of left right pieces);
        among = k.among (the_span kind m start (explicit_block of left right pieces)) (inl refl);
        left = left;
        right = right;
        explicit = refl;
        lowest = omega arith;
        highest = omega arith;
        behind = a;
        before = h;
      }));
      blocks = λ span has. by s.blocks span has;
    }
  where
    by : ((span : BlockSpan) → Has ((in_braces of left right pieces).blocks 0 start) span → StandsWell text.spans (lexemes text) span) → (span : BlockSpan)
        → Has ((block_laid kind (explicit_block of left right pieces)).blocks m start) span → StandsWell text.spans (lexemes text) span
    by inside span (inl same) = subst (StandsWell text.spans (lexemes text)) same tt
    by inside span (inr has) = inside span (has_first ((pieces_laid of pieces).blocks 0 (start + 1)) [] span has)

-- ---- any block
-- the block itself lies where it starts, and so do those in it
span_within : (start extent : ℕ) (span : BlockSpan) → span.start ≡ start → span.extent ≡ extent → Within true start extent span
span_within start extent span s e = record { behind = omega arith; ends = omega arith }

pub in_block : {start e f : ℕ} {span : BlockSpan} → e ≤ f → Within false start e span → Within true start f span
in_block l w = record { behind = omega (arith, w.behind); ends = omega (arith, w.ends) }

pub same_within : (start extent : ℕ) (block span : BlockSpan) → block ≡ span → block.start ≡ start → block.extent ≡ extent → Within true start extent span
same_within start extent block span same s e = subst (Within true start extent) same (span_within start extent block s e)

implicit_within : {T : Type 0} {text : Text} {of : T → Laid} {parts : Parts T} → PartsStand text of parts → (kind : BlockKind) (m : ℕ) (place : DeclPlace) (col : ℕ) (pieces : List (Piece T))
    (ts us : List Placed) → implicit_reading parts kind m place col pieces ts us → (start : ℕ) (span : BlockSpan) → Has ((pieces_laid of pieces).blocks col start) span
    → Within false start (pieces_laid of pieces).extent span
implicit_within {of = of} p kind m place col pieces ts us (inl r) start span has = elim (subst (λ ps. Has ((pieces_laid of ps).blocks col start) span) r.1 has) [ ]
implicit_within p kind m place col pieces ts us (inr r) start span has = pieces_within p kind col place Ending.Nothing pieces ts us r.1 start span has

pub within_there : {T : Type 0} {text : Text} {of : T → Laid} {parts : Parts T} → PartsStand text of parts → (kind : BlockKind) (m : ℕ) (place : DeclPlace) (layout : Layout) (pieces : List (Piece T))
    (ts us : List Placed) → layout_reading parts kind m place layout pieces ts us → (start : ℕ) (span : BlockSpan)
    → Has ((block_laid kind (record { layout = layout; pieces = laids of pieces })).blocks m start) span
    → Within true start (block_laid kind (record { layout = layout; pieces = laids of pieces })).extent span
within_there {of = of} p kind m place layout pieces ts us r start span (inl same) =
    same_within start (block_laid kind (record { layout = layout; pieces = laids of pieces })).extent (the_span kind m start (record { layout = layout; pieces = laids of pieces })) span same refl refl
within_there {of = of} p kind m place (Layout.Implicit col) pieces ts us r start span (inr has) =
    in_block (omega arith) (implicit_within p kind m place col pieces ts us r start span (subst (λ k. Has ((pieces_laid of pieces).blocks col k) span) (add-zero start) has))
within_there {of = of} p kind m place (Layout.Explicit left right) pieces ts us r start span (inr has) =
    in_block (omega arith) ((explicit_stands p m place left right pieces).within ts us r start span (has_first ((pieces_laid of pieces).blocks 0 (start + 1)) [] span has))

-- where the block ends as the layout rule says
abbrev pub EndsWell : {T : Type 0} → (T → Laid) → Parts T → BlockKind → DeclPlace → List (Piece T) → List Placed → Type 0
EndsWell of parts kind place pieces us = (col : ℕ) (ts : List Placed) → pieces_reading parts kind col place Ending.Nothing pieces ts us → ends_block col kind (last_ending (laids of pieces)) us ≡ true

implicit_stands : {T : Type 0} {text : Text} {of : T → Laid} {parts : Parts T} → PartsStand text of parts → (kind : BlockKind) (m : ℕ) (place : DeclPlace) (col : ℕ) (pieces : List (Piece T)) (ts us : List Placed)
    → EndsWell of parts kind place pieces us → implicit_reading parts kind m place col pieces ts us → (begun : Bool) (start : ℕ)
    → Known text true start (block_laid kind (implicit_block of col pieces)).extent ((block_laid kind (implicit_block of col pieces)).blocks m start)
    → ts ≡ drop start text.placed → Standing text m true begun start (block_laid kind (implicit_block of col pieces)) us
implicit_stands {text = text} {of = of} p kind m place col pieces ts us ends (inl r) begun start k e =
    let none : laids of pieces ≡ [] = ap (λ (ps : List (Piece _)). laids of ps) r.1 in
    subst (λ l. Known text true start (block_laid kind (record { layout = Layout.Implicit col; pieces = l })).extent ((block_laid kind (record { layout = Layout.Implicit col; pieces = l })).blocks m start)
    → Standing text m true begun start (block_laid kind (record { layout = Layout.Implicit col; pieces = l })) us) (sym none)
    (λ known. empty_there text kind m col ts us r.0 r.2 r.3 begun start known e) k
implicit_stands p kind m place col pieces ts us ends (inr r) begun start k e =
    implicit_there p kind m place col pieces ts us r.0 r.1 (ends col ts r.1) begun start k e

pub stands_there : {T : Type 0} {text : Text} {of : T → Laid} {parts : Parts T} → PartsStand text of parts → (kind : BlockKind) (m : ℕ) (place : DeclPlace) (layout : Layout) (pieces : List (Piece T)) (ts us : List Placed)
    → EndsWell of parts kind place pieces us → layout_reading parts kind m place layout pieces ts us → (begun : Bool) (start : ℕ)
    → Known text true start (block_laid kind (record { layout = layout; pieces = laids of pieces })).extent ((block_laid kind (record { layout = layout; pieces = laids of pieces })).blocks m start)
    → ts ≡ drop start text.placed → Standing text m true begun start (block_laid kind (record { layout = layout; pieces = laids of pieces })) us
stands_there p kind m place (Layout.Implicit col) pieces ts us ends r begun start k e = implicit_stands p kind m place col pieces ts us ends r begun start k e
stands_there p kind m place (Layout.Explicit left right) pieces ts us ends r begun start k e = explicit_there p kind m place left right pieces ts us r begun start k e

pub block_stands : {T : Type 0} {text : Text} {of : T → Laid} {parts : Parts T} → PartsStand text of parts → (kind : BlockKind) (m : ℕ) (place : DeclPlace) → Agree of parts place → (block : Block T)
    → Stands text m true (block_laid kind (block_by of block)) (block_reading parts kind m place block)
block_stands {of = of} {parts = parts} p kind m place agree block = record {
  within = λ ts us r. within_there p kind m place block.layout block.pieces ts us r;
  stands = λ ts us r begun start k e. stands_there p kind m place block.layout block.pieces ts us (λ col q h. pieces_end of parts place agree kind col block.pieces q us h) r begun start k e;
}
