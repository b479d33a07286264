-- A block that stands as the layout rule says is read, if its parts are.
use Rattle.std.proofs.Common.{◌≡◌, ◌≢◌, ◌⊎◌, ◌≤◌, ◌<◌, ℕ, suc, ◌+◌, ◌==◌, ◌||◌, ◌&&◌, not, nat_lt, nat_le, Bool, true, false, if◌then◌else◌, List, [], ◌∷◌, ◌++◌, length, drop, refl, sym, ap, ap₂, ◌∙◌, subst, inl, inr, arith, lt-ltb, ltb-true, ltb-false, leb-true, eq-eqb, append-nil}
use Rattle.std.specs.List.{flat_map, list_any}
use lib.Chars.{codes}
use Rattle.hr_base.specs.declared.lexeme.Class.{Class}
use Rattle.hr_base.specs.declared.lexeme.Ending.{Ending}
use Rattle.hr_base.specs.declared.lexeme.Item.{Item}
use Rattle.hr_rules.specs.declared.block.BlockKind.{BlockKind}
use Rattle.hr_rules.specs.declared.block.Opened.{Opened}
use Rattle.hr_rules.specs.declared.block.Placed.{Placed}
use Rattle.hr_rules.specs.Blocks.{opens, goes_on, left_of, ends_block}
use Rattle.hr_tree.specs.declared.lists.Block.{Block}
use Rattle.hr_tree.specs.declared.lists.Layout.{Layout}
use Rattle.hr_tree.specs.declared.lists.Piece.{Piece}
use Rattle.hr_tree.specs.Lists.{piece_items, block_items, opening_items, closing_items}
use Rattle.hr_grammar.specs.Blocks.{AreBraced}
use Rattle.hr_grammar.specs.Words.{IsLeftBrace, IsRightBrace}
use Rattle.hr_grammar.specs.Nodes.{DeclPlace}
use Rattle.hr_grammar.specs.Spans.{BlockSpan, Stretch, stretch_length, Laid, block_laid, last_ending}
use Rattle.hr_grammar.specs.Offside.{column_of, placed_among, piece_starts, is_braced, StandsRight, Next, IsOffside}
use Rattle.hr_grammar_cases.specs.Blocks.{Parts, pieces_reading, implicit_reading, layout_reading, block_reading}
use Rattle.hr_grammar_cases.specs.Laws.{items_left}
use Rattle.hr_grammar_cases.proofs.Stretches.{Has, has_first, is_empty_at, Text, lexemes, mark_or, seen, lexemes_at, seen_plain, seen_empty}
use Rattle.hr_grammar_cases.proofs.Standing.{GoesAt, Within, still_none}
use Rattle.hr_grammar_cases.proofs.StandingPieces.{laids, pieces_laid, stretches, last_is}
use Rattle.hr_grammar_cases.proofs.StandingPoints.{with_layout, column_in}
use Rattle.hr_grammar_cases.proofs.StandingBlocks.{block_by, the_span, implicit_block, explicit_block, in_braces, none_over, none_at_start, implicit_known, later_known, empty_mark, in_block, same_within}
use Rattle.hr_grammar_cases_laws.proofs.Regaining.{NoBrace, text_firm, sum_size, Covered, BeginsAt, Given, Regains, then_regains, one_regains, one_then_regains}
use Rattle.hr_grammar_cases_laws.proofs.RegainingPieces.{PartsRegain, EndsAlike, PiecesFit, pieces_firm, pieces_size, pieces_lie, PieceAt, Closes, pieces_regain, braced_regain}

-- ---- lexemes in explicit braces
braced_in : (spans : List BlockSpan) (block : BlockSpan) (i : ℕ) → is_braced spans block i ≡ true → (span : BlockSpan) × Has spans span × (is_braced (span ∷ []) block i ≡ true)
braced_in [] block i e = let no : ⊥ = cc in elim no [ ]
braced_in (x ∷ spans) block i e = by (is_braced (x ∷ []) block i) refl (braced_in spans block i)
  where
    or_left : (a b : Bool) → (a || false) ≡ false → (a || b) ≡ true → b ≡ true
    or_left true b f t = let no : ⊥ = cc in elim no [ ]
    or_left false b f t = t

    by : (t : Bool) → is_braced (x ∷ []) block i ≡ t → (is_braced spans block i ≡ true → (span : BlockSpan) × Has spans span × (is_braced (span ∷ []) block i ≡ true))
        → (span : BlockSpan) × Has (x ∷ spans) span × (is_braced (span ∷ []) block i ≡ true)
    by true s later = (x, inl refl, s)
    by false s later = let r = later (or_left _ (is_braced spans block i) s e) in (r.0, inr r.1, r.2)

four_of : (a b c d : Bool) → ((((a && b)) && (c && d)) || false) ≡ true → (a ≡ true) × (b ≡ true) × (c ≡ true) × (d ≡ true)
four_of true true true true e = (refl, refl, refl, refl)
four_of false b c d e = let no : ⊥ = cc in elim no [ ]
four_of true false c d e = let no : ⊥ = cc in elim no [ ]
four_of true true false d e = let no : ⊥ = cc in elim no [ ]
four_of true true true false e = let no : ⊥ = cc in elim no [ ]

-- it stands in a span with braces that lies in the block
pub record Inside (block span : BlockSpan) (i : ℕ) : Type 0 where
  pub explicit : (col : ℕ) → span.layout ≢ Layout.Implicit col
  pub lowest : block.start ≤ span.start
  pub highest : span.start + span.extent ≤ block.start + block.extent
  pub behind : span.start ≤ i
  pub before : i < span.start + span.extent

is_explicit : (left right : Item) (col : ℕ) → Layout.Explicit left right ≢ Layout.Implicit col
is_explicit left right col = λ e. cc

one_inside : (block span : BlockSpan) (i : ℕ) (layout : Layout) → span.layout ≡ layout → is_braced (with_layout span layout ∷ []) block i ≡ true → Inside block span i
one_inside block span i (Layout.Implicit col) same e = let no : ⊥ = cc in elim no [ ]
one_inside block span i (Layout.Explicit left right) same e =
    let f = four_of (nat_le block.start span.start) (nat_le (span.start + span.extent) (block.start + block.extent)) (nat_le span.start i) (nat_lt i (span.start + span.extent)) e in
    record { explicit = λ col other. is_explicit left right col (sym same ∙ other); lowest = leb-true block.start span.start f.0; highest = leb-true (span.start + span.extent) (block.start + block.extent) f.1; behind = leb-true span.start i f.2; before = ltb-true i (span.start + span.extent) f.3 }

-- ---- what a block without braces says of its lexemes
stands_held : (text : Text) (block : BlockSpan) (n i : ℕ) (spans : List BlockSpan) → ((span : BlockSpan) → Has text.spans span → Inside block span i → Has spans span) → (n ≡ column_of (drop block.start (lexemes text)))
    → (ts : List Placed) → ts ≡ drop i (lexemes text) → (i ≡ block.start → list_any (λ s. s == i) (piece_starts block.start block.pieces) ≡ true) → Next (StandsRight text.spans block n i) ts
    → (Next (λ next. goes_on n next ≡ true) ts ⊎ Covered spans i) ⊎ (Next (λ next. left_of n next ≡ false) ts × (list_any (λ s. s == i) (piece_starts block.start block.pieces) ≡ true))
stands_held text block n i spans own column [] e starts s = inl (inl tt)
stands_held text block n i spans own column (next ∷ ts) e starts s = by next.first refl (is_braced text.spans block i) refl
  where
    not_first : (first right : Bool) → first ≡ false → (not first || right) ≡ true
    not_first true right f = let no : ⊥ = cc in elim no [ ]
    not_first false right f = refl

    is_right : (first right : Bool) → right ≡ true → (not first || right) ≡ true
    is_right true right f = f
    is_right false right f = refl

    not_left : (first left : Bool) → left ≡ false → (first && left) ≡ false
    not_left true left f = f
    not_left false left f = refl

    at_column : next.pos.col ≡ n → nat_lt next.pos.col n ≡ false
    at_column same = by_test (nat_lt next.pos.col n) refl
      where
        by_test : (t : Bool) → nat_lt next.pos.col n ≡ t → nat_lt next.pos.col n ≡ false
        by_test true f = let l = ltb-true next.pos.col n f in let no : ⊥ = omega arith in elim no [ ]
        by_test false f = f

    column_here : i ≡ block.start → next.pos.col ≡ n
    column_here same = ap column_of e ∙ ap (λ k. column_of (drop k (lexemes text))) same ∙ sym column

    from : (n < next.pos.col) ⊎ ((i ≡ block.start) ⊎ ((next.pos.col ≡ n) × (list_any (λ s. s == i) (piece_starts block.start block.pieces) ≡ true)))
        → ((goes_on n next ≡ true) ⊎ Covered spans i) ⊎ ((left_of n next ≡ false) × (list_any (λ s. s == i) (piece_starts block.start block.pieces) ≡ true))
    from (inl l) = inl (inl (is_right next.first (nat_lt n next.pos.col) (lt-ltb n next.pos.col l)))
    from (inr (inl same)) = inr (not_left next.first (nat_lt next.pos.col n) (at_column (column_here same)), starts same)
    from (inr (inr x)) = inr (not_left next.first (nat_lt next.pos.col n) (at_column x.0), x.1)

    in_braces_there : is_braced text.spans block i ≡ true → Covered spans i
    in_braces_there b =
        let r = braced_in text.spans block i b in let at = one_inside block r.0 i r.0.layout refl r.2 in
        record { span = r.0; among = own r.0 r.1 at; behind = at.behind; before = at.before }

    by : (first : Bool) → next.first ≡ first → (braced : Bool) → is_braced text.spans block i ≡ braced
        → ((goes_on n next ≡ true) ⊎ Covered spans i) ⊎ ((left_of n next ≡ false) × (list_any (λ s. s == i) (piece_starts block.start block.pieces) ≡ true))
    by false f braced b = inl (inl (not_first next.first (nat_lt n next.pos.col) f))
    by true f true b = inl (inr (in_braces_there b))
    by true f false b = from (s f b)

-- ---- how a block opens
open_here : (m col : ℕ) (items : List Item) (ts : List Placed) → items_left ts ≡ items → NoBrace items → m < col → col ≡ column_of ts → opens m ts ≡ Opened.Implicit col
open_here m col items [] e nb l c = let no : ⊥ = omega arith in elim no [ ]
open_here m col items (next ∷ ts) e nb l c =
    ap₂ (λ (brace right : Bool). if brace then Opened.Explicit else (if right then Opened.Implicit next.pos.col else Opened.Empty)) (subst NoBrace (sym e) nb) (lt-ltb m next.pos.col (subst (λ k. m < k) c l))
    ∙ ap (λ k. Opened.Implicit k) (sym c)

empty_here : (m col : ℕ) (items : List Item) (ts : List Placed) → items_left ts ≡ items → NoBrace items → col ≤ m → col ≡ column_of ts → opens m ts ≡ Opened.Empty
empty_here m col items [] e nb l c = refl
empty_here m col items (next ∷ ts) e nb l c =
    ap₂ (λ (brace right : Bool). if brace then Opened.Explicit else (if right then Opened.Implicit next.pos.col else Opened.Empty)) (subst NoBrace (sym e) nb) (not_right (nat_lt m next.pos.col) refl)
  where
    not_right : (t : Bool) → nat_lt m next.pos.col ≡ t → nat_lt m next.pos.col ≡ false
    not_right true f = let r = ltb-true m next.pos.col f in let no : ⊥ = omega arith in elim no [ ]
    not_right false f = f

-- ---- what is behind a block
ends_seen : (n : ℕ) (kind : BlockKind) (ending : Ending) (spans : List BlockSpan) (i : ℕ) (placed : List Placed) → ends_block n kind ending (placed_among spans i placed) ≡ true
    → ends_block n kind ending (mark_or (is_empty_at spans i) placed) ≡ true
ends_seen n kind ending spans i [] e = e
ends_seen n kind ending spans i (next ∷ placed) e = e

ends_there : (text : Text) (n : ℕ) (kind : BlockKind) (ending : Ending) (i : ℕ) → ends_block n kind ending (drop i (lexemes text)) ≡ true → ends_block n kind ending (seen text false i) ≡ true
ends_there text n kind ending i e = ends_seen n kind ending text.spans i (drop i text.placed) (subst (λ l. ends_block n kind ending l ≡ true) (lexemes_at text i) e)

-- ---- a block without braces that has a column of its own
none_more : (k : ℕ) → k + 0 ≡ k
none_more k = omega arith

other_start : (start extent : ℕ) (kind : BlockKind) (m : ℕ) (block : Block Laid) (spans : List BlockSpan) (span : BlockSpan) → suc start ≤ span.start → Has (the_span kind m start block ∷ spans) span → Has spans span
other_start start extent kind m block spans span l (inl same) = let e : start ≡ span.start = ap (λ (s : BlockSpan). s.start) same in let no : ⊥ = omega arith in elim no [ ]
other_start start extent kind m block spans span l (inr has) = has

no_spans : {span : BlockSpan} {spans : List BlockSpan} → span ∷ spans ≡ [] → ⊥
no_spans e = cc

clear_inside : (span : BlockSpan) (spans : List BlockSpan) (rest : List Item) → (span ∷ spans ≡ []) ⊎ NoBrace rest → NoBrace rest
clear_inside span spans rest (inl e) = elim (no_spans e) [ ]
clear_inside span spans rest (inr nb) = nb

begins_start : (text : Text) (start i : ℕ) (pieces : List Stretch) → pieces ≢ [] → i ≡ start → list_any (λ s. s == i) (piece_starts start pieces) ≡ true
begins_start text start i [] some same = absurd (some refl)
begins_start text start i (piece ∷ pieces) some same = ap (λ t. t || list_any (λ s. s == i) (piece_starts (start + stretch_length piece) pieces)) (eq-eqb start i (sym same))

some_pieces : {T : Type 0} (of : T → Laid) (pieces : List (Piece T)) (i start : ℕ) → start ≤ i → i < start + (pieces_laid of pieces).extent → stretches of pieces ≢ []
some_pieces of [] i start l h = λ e. let no : ⊥ = omega arith in no
some_pieces of (piece ∷ pieces) i start l h = λ e. cc

-- the block's pieces, from all that is known of the block
implicit_given : {T : Type 0} {text : Text} {of : T → Laid} {items_of : T → List Item} {parts : Parts T} {Fits : DeclPlace → DeclPlace → T → Type 0} → PartsRegain text of items_of parts Fits
    → (kind : BlockKind) (m : ℕ) (place : DeclPlace) (col : ℕ) (pieces : List (Piece T)) → PiecesFit Fits place pieces → (start : ℕ) (rest : List Item) → m < col
    → {Other : ℕ → Type 0} → Given text m true start (block_laid kind (implicit_block of col pieces)) (block_items items_of (record { layout = Layout.Implicit col; pieces = pieces })) rest Other
    → IsOffside text.spans (lexemes text) (the_span kind m start (implicit_block of col pieces)) col
    → Given text col false start (pieces_laid of pieces) (flat_map (piece_items items_of) pieces) rest (PieceAt text col start (stretches of pieces))
implicit_given {text = text} {of = of} {items_of = items_of} p kind m place col pieces fit start rest l k o = record {
  known = later_known (implicit_known of kind m col start pieces l k.known);
  owned = own;
  stands = λ span has. k.stands span (inr (subst (λ s. Has ((pieces_laid of pieces).blocks col s) span) (sym (none_more start)) has));
  each = λ i a h.
      stands_held text block col i ((pieces_laid of pieces).blocks col start) (λ span has at. braces span has i a h at)
      o.column (drop i (lexemes text)) refl (λ same. begins_start text start i (stretches of pieces) (some_pieces of pieces i start a h) same)
      (o.stands l i a (omega (arith, h, none_over (pieces_laid of pieces).extent)));
  items_are = k.items_are ∙ ap (λ (items : List Item). items ++ rest) (append-nil (flat_map (piece_items items_of) pieces));
  clear = inr (clear_inside block ((pieces_laid of pieces).blocks col (start + 0)) rest k.clear);
}
  where
    block : BlockSpan
    block = the_span kind m start (implicit_block of col pieces)

    own : (span : BlockSpan) → Has text.spans span → suc start ≤ span.start → span.start ≤ start + (pieces_laid of pieces).extent → Has ((pieces_laid of pieces).blocks col start) span
    own span has low high =
        subst (λ s. Has ((pieces_laid of pieces).blocks col s) span) (none_more start)
        (other_start start 0 kind m (implicit_block of col pieces) ((pieces_laid of pieces).blocks col (start + 0)) span low
        (k.owned span has (omega arith) (omega (arith, none_over (pieces_laid of pieces).extent))))

    not_this : (span : BlockSpan) (i : ℕ) → Inside block span i → Has (block ∷ (pieces_laid of pieces).blocks col (start + 0)) span → Has ((pieces_laid of pieces).blocks col start) span
    not_this span i at (inl same) = absurd (at.explicit col (sym (ap (λ (s : BlockSpan). s.layout) same)))
    not_this span i at (inr has) = subst (λ s. Has ((pieces_laid of pieces).blocks col s) span) (none_more start) has

    braces : (span : BlockSpan) → Has text.spans span → (i : ℕ) → start ≤ i → i < start + (pieces_laid of pieces).extent → Inside block span i → Has ((pieces_laid of pieces).blocks col start) span
    braces span has i a h at = not_this span i at (k.owned span has at.lowest (omega (arith, at.behind, h)))

-- ---- any block
implicit_regain : {T : Type 0} {text : Text} {of : T → Laid} {items_of : T → List Item} {parts : Parts T} {Fits : DeclPlace → DeclPlace → T → Type 0} → PartsRegain text of items_of parts Fits
    → (kind : BlockKind) (m : ℕ) (place : DeclPlace) (col : ℕ) (pieces : List (Piece T)) → PiecesFit Fits place pieces → (start : ℕ) (rest : List Item) → m < col
    → {Other : ℕ → Type 0} → Given text m true start (block_laid kind (implicit_block of col pieces)) (block_items items_of (record { layout = Layout.Implicit col; pieces = pieces })) rest Other
    → (seen text false (start + (block_laid kind (implicit_block of col pieces)).extent) ≡ []) ⊎ EndsAlike of parts Fits
    → implicit_reading parts kind m place col pieces (drop start text.placed) (seen text false (start + (block_laid kind (implicit_block of col pieces)).extent))
implicit_regain {text = text} {of = of} {items_of = items_of} {parts = parts} {Fits = Fits} p kind m place col pieces fit start rest l k ends =
    let o : IsOffside text.spans (lexemes text) (the_span kind m start (implicit_block of col pieces)) col = k.stands (the_span kind m start (implicit_block of col pieces)) (inl refl) in
    let g = implicit_given p kind m place col pieces fit start rest l k o in
    let firm = pieces_firm p place pieces fit rest (clear_inside (the_span kind m start (implicit_block of col pieces)) ((pieces_laid of pieces).blocks col (start + 0)) rest k.clear) in
    let known = implicit_known of kind m col start pieces l k.known in
    let none = none_at_start text start (pieces_laid of pieces).extent ((pieces_laid of pieces).blocks col start) (pieces_lie p col place pieces fit start) in
    let plain = seen_plain text start (known.marks start (omega arith) (omega arith) ∙ none) in
    let extent = none_over (pieces_laid of pieces).extent in
    inr (
      open_here m col (flat_map (piece_items items_of) pieces ++ rest) (drop start text.placed) g.items_are firm l (o.column ∙ sym (column_in text start)),
      subst (λ e. pieces_reading parts kind col place Ending.Nothing pieces (drop start text.placed) (seen text false (start + e))) (sym extent)
          (subst (λ ts. pieces_reading parts kind col place Ending.Nothing pieces ts (seen text false (start + (pieces_laid of pieces).extent))) (sym plain)
          (pieces_regain p kind col place Ending.Nothing pieces fit start rest g (o.parts l) (inl refl)
          (subst (λ e. Closes of parts Fits kind col Ending.Nothing pieces (seen text false (start + e))) extent (closing o ends)))),
    )
  where
    closing : IsOffside text.spans (lexemes text) (the_span kind m start (implicit_block of col pieces)) col
        → (seen text false (start + (block_laid kind (implicit_block of col pieces)).extent) ≡ []) ⊎ EndsAlike of parts Fits
        → Closes of parts Fits kind col Ending.Nothing pieces (seen text false (start + (block_laid kind (implicit_block of col pieces)).extent))
    closing o (inl none) = inl none
    closing o (inr alike) =
        inr (
          alike,
          subst (λ e. ends_block col kind e (seen text false (start + (block_laid kind (implicit_block of col pieces)).extent)) ≡ true) (sym (last_is (laids of pieces)))
              (ends_there text col kind (last_ending (laids of pieces)) (start + (block_laid kind (implicit_block of col pieces)).extent) (o.ends l)),
        )

-- a block that is left empty
empty_regain : {T : Type 0} {text : Text} (of : T → Laid) (items_of : T → List Item) (parts : Parts T) (kind : BlockKind) (m : ℕ) (place : DeclPlace) (col : ℕ) (pieces : List (Piece T)) (start : ℕ) (rest : List Item)
    → col ≤ m → {Other : ℕ → Type 0} → Given text m true start (block_laid kind (implicit_block of col pieces)) (block_items items_of (record { layout = Layout.Implicit col; pieces = pieces })) rest Other
    → implicit_reading parts kind m place col pieces (drop start text.placed) (seen text false (start + (block_laid kind (implicit_block of col pieces)).extent))
empty_regain {text = text} of items_of parts kind m place col [] start rest l k =
    let o : IsOffside text.spans (lexemes text) (the_span kind m start (implicit_block of col [])) col = k.stands (the_span kind m start (implicit_block of col [])) (inl refl) in
    let column = o.column ∙ sym (column_in text start) in
    inl (
      empty_here m col rest (drop start text.placed) k.items_are (clear_inside (the_span kind m start (implicit_block of col [])) [] rest k.clear) l column,
      refl,
      column,
      ap (λ (i : ℕ). seen text false i) (none_more start) ∙ sym (seen_empty text start (k.known.marks start (omega arith) (omega arith) ∙ empty_mark m col start l)),
    )
empty_regain {text = text} of items_of parts kind m place col (piece ∷ pieces) start rest l k =
    let o : IsOffside text.spans (lexemes text) (the_span kind m start (implicit_block of col (piece ∷ pieces))) col = k.stands (the_span kind m start (implicit_block of col (piece ∷ pieces))) (inl refl) in
    let none = o.empty l in let no : ⊥ = cc in elim no [ ]

-- ---- a block in braces
explicit_regains : {T : Type 0} {text : Text} {of : T → Laid} {items_of : T → List Item} {parts : Parts T} {Fits : DeclPlace → DeclPlace → T → Type 0} → PartsRegain text of items_of parts Fits
    → (kind : BlockKind) (m : ℕ) (place : DeclPlace) (left right : Item) (pieces : List (Piece T)) → PiecesFit Fits place pieces → AreBraced (Layout.Explicit left right) pieces
    → Regains text 0 false (in_braces of left right pieces) (left ∷ (flat_map (piece_items items_of) pieces ++ right ∷ [])) (layout_reading parts kind m place (Layout.Explicit left right) pieces)
explicit_regains p kind m place left right pieces fit are =
    one_then_regains IsLeftBrace left are.0
    (then_regains (inr (λ rest nb. text_firm Class.Special (codes "}") right are.1.0 refl)) (braced_regain p place true pieces fit are.1.1 tt) (one_regains IsRightBrace right are.1.0))

explicit_regain : {T : Type 0} {text : Text} {of : T → Laid} {items_of : T → List Item} {parts : Parts T} {Fits : DeclPlace → DeclPlace → T → Type 0} → ((i : ℕ) → GoesAt text 0 i)
    → PartsRegain text of items_of parts Fits → (kind : BlockKind) (m : ℕ) (place : DeclPlace) (left right : Item) (pieces : List (Piece T)) → PiecesFit Fits place pieces
    → AreBraced (Layout.Explicit left right) pieces → (start : ℕ) (rest : List Item)
    → {Other : ℕ → Type 0} → Given text m true start (block_laid kind (explicit_block of left right pieces)) (block_items items_of (record { layout = Layout.Explicit left right; pieces = pieces })) rest Other
    → layout_reading parts kind m place (Layout.Explicit left right) pieces (drop start text.placed) (seen text false (start + (block_laid kind (explicit_block of left right pieces)).extent))
explicit_regain {text = text} {of = of} {items_of = items_of} {parts = parts} columns p kind m place left right pieces fit are start rest k =
    let inner = explicit_regains p kind m place left right pieces fit are in
    let spans = (pieces_laid of pieces).blocks 0 (start + 1) in
    let none = k.known.marks start (omega arith) (omega arith) ∙ none_at_start text start (in_braces of left right pieces).extent spans (λ span has. inner.within start span (has_first spans [] span has)) in
    let g : Given text 0 false start (in_braces of left right pieces) (left ∷ (flat_map (piece_items items_of) pieces ++ right ∷ [])) rest (BeginsAt false false start) = record {
      known = record {
        marks = λ i a h. k.known.marks i (omega arith) h ∙ ap (λ l. is_empty_at l i) (sym (append-nil spans));
        among = λ span has. k.known.among span (inr (subst (λ l. Has l span) (append-nil spans) has));
      };
      owned = λ span has a h.
          has_first spans [] span (other_start start 0 kind m (explicit_block of left right pieces) spans span a (k.owned span has (omega (arith, a)) h));
      stands = λ span has. k.stands span (inr (subst (λ l. Has l span) (append-nil spans) has));
      each = λ i a h. inl (inl (columns i));
      items_are = k.items_are;
      clear = inr (clear_inside (the_span kind m start (explicit_block of left right pieces)) spans rest k.clear);
    } in
    subst (λ ts. layout_reading parts kind m place (Layout.Explicit left right) pieces ts (seen text false (start + (in_braces of left right pieces).extent))) (sym (seen_plain text start none))
    (subst (λ (b : Bool). layout_reading parts kind m place (Layout.Explicit left right) pieces (seen text false start) (seen text b (start + (in_braces of left right pieces).extent)))
    (still_none (in_braces of left right pieces).extent) (inner.regains false start rest g))

-- ---- any block, behind its opening word
pub regains_there : {T : Type 0} {text : Text} {of : T → Laid} {items_of : T → List Item} {parts : Parts T} {Fits : DeclPlace → DeclPlace → T → Type 0} → ((i : ℕ) → GoesAt text 0 i)
    → PartsRegain text of items_of parts Fits → (kind : BlockKind) (m : ℕ) (place : DeclPlace) (layout : Layout) (pieces : List (Piece T)) → PiecesFit Fits place pieces
    → AreBraced layout pieces → (start : ℕ) (rest : List Item)
    → {Other : ℕ → Type 0} → Given text m true start (block_laid kind (record { layout = layout; pieces = laids of pieces })) (block_items items_of (record { layout = layout; pieces = pieces })) rest Other
    → (seen text false (start + (block_laid kind (record { layout = layout; pieces = laids of pieces })).extent) ≡ []) ⊎ EndsAlike of parts Fits
    → layout_reading parts kind m place layout pieces (drop start text.placed) (seen text false (start + (block_laid kind (record { layout = layout; pieces = laids of pieces })).extent))
regains_there {text = text} {of = of} {items_of = items_of} {parts = parts} {Fits = Fits} columns p kind m place (Layout.Implicit col) pieces fit are start rest {Other} k ends = by (nat_lt m col) refl
  where
    by : (t : Bool) → nat_lt m col ≡ t
        → implicit_reading parts kind m place col pieces (drop start text.placed) (seen text false (start + (block_laid kind (implicit_block of col pieces)).extent))
    by true e = implicit_regain p kind m place col pieces fit start rest (ltb-true m col e) k ends
    by false e = empty_regain of items_of parts kind m place col pieces start rest (ltb-false m col e) k
regains_there columns p kind m place (Layout.Explicit left right) pieces fit are start rest k ends = explicit_regain columns p kind m place left right pieces fit are start rest k

pub block_size : {T : Type 0} {text : Text} {of : T → Laid} {items_of : T → List Item} {parts : Parts T} {Fits : DeclPlace → DeclPlace → T → Type 0} → PartsRegain text of items_of parts Fits
    → (kind : BlockKind) (place : DeclPlace) (layout : Layout) (pieces : List (Piece T)) → PiecesFit Fits place pieces
    → (block_laid kind (record { layout = layout; pieces = laids of pieces })).extent ≡ length (block_items items_of (record { layout = layout; pieces = pieces }))
block_size {of = of} {items_of = items_of} p kind place layout pieces fit =
    sum_size (length (opening_items layout)) ((pieces_laid of pieces).extent + length (closing_items layout)) (opening_items layout) (flat_map (piece_items items_of) pieces ++ closing_items layout) refl
    (sum_size (pieces_laid of pieces).extent (length (closing_items layout)) (flat_map (piece_items items_of) pieces) (closing_items layout) (pieces_size p place pieces fit) refl)

block_lies : {T : Type 0} {text : Text} {of : T → Laid} {items_of : T → List Item} {parts : Parts T} {Fits : DeclPlace → DeclPlace → T → Type 0} → PartsRegain text of items_of parts Fits
    → (kind : BlockKind) (m : ℕ) (place : DeclPlace) (layout : Layout) (pieces : List (Piece T)) → PiecesFit Fits place pieces → AreBraced layout pieces → (start : ℕ) (span : BlockSpan)
    → Has ((block_laid kind (record { layout = layout; pieces = laids of pieces })).blocks m start) span
    → Within true start (block_laid kind (record { layout = layout; pieces = laids of pieces })).extent span
block_lies {of = of} p kind m place layout pieces fit are start span (inl same) =
    same_within start (block_laid kind (record { layout = layout; pieces = laids of pieces })).extent (the_span kind m start (record { layout = layout; pieces = laids of pieces })) span same refl refl
block_lies {of = of} p kind m place (Layout.Implicit col) pieces fit are start span (inr has) =
    in_block (omega arith) (pieces_lie p col place pieces fit start span (subst (λ k. Has ((pieces_laid of pieces).blocks col k) span) (none_more start) has))
block_lies {of = of} p kind m place (Layout.Explicit left right) pieces fit are start span (inr has) =
    in_block (omega arith) ((explicit_regains p kind m place left right pieces fit are).within start span (has_first ((pieces_laid of pieces).blocks 0 (start + 1)) [] span has))

pub block_regains : {T : Type 0} {text : Text} {of : T → Laid} {items_of : T → List Item} {parts : Parts T} {Fits : DeclPlace → DeclPlace → T → Type 0} → ((i : ℕ) → GoesAt text 0 i)
    → PartsRegain text of items_of parts Fits → EndsAlike of parts Fits → (kind : BlockKind) (m : ℕ) (place : DeclPlace) (block : Block T) → PiecesFit Fits place block.pieces
    → AreBraced block.layout block.pieces → Regains text m true (block_laid kind (block_by of block)) (block_items items_of block) (block_reading parts kind m place block)
block_regains columns p alike kind m place block fit are = record {
  size = block_size p kind place block.layout block.pieces fit;
  within = λ start span has. block_lies p kind m place block.layout block.pieces fit are start span has;
  regains = λ begun start rest k. regains_there columns p kind m place block.layout block.pieces fit are start rest k (inr alike);
}
