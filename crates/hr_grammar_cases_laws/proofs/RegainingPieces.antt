-- The pieces of a block: where they stand as the layout rule says, they are read.
use Rattle.std.proofs.Common.{◌≡◌, ◌≢◌, ◌⊎◌, ◌≤◌, ◌<◌, ℕ, zero, suc, ◌+◌, ◌==◌, ◌||◌, ◌&&◌, not, nat_lt, Bool, true, false, List, [], ◌∷◌, ◌++◌, length, drop, refl, sym, ap, ◌∙◌, subst, inl, inr, arith, add_assoc, eqb-true, ne_eqb, ltb-true, drop-drop}
use Rattle.std.specs.List.{flat_map, list_any}
use lib.Chars.{codes}
use Rattle.hr_base.specs.declared.lexeme.Class.{Class}
use Rattle.hr_base.specs.declared.lexeme.Ending.{Ending}
use Rattle.hr_base.specs.declared.lexeme.Item.{Item}
use Rattle.hr_rules.specs.declared.block.BlockKind.{BlockKind}
use Rattle.hr_rules.specs.declared.block.Placed.{Placed}
use Rattle.hr_rules.specs.Blocks.{left_of, goes_on, is_open_brace, starts_part, ends_block}
use Rattle.hr_rules.specs.Roles.{role_of}
use Rattle.hr_tree.specs.declared.lists.Piece.{Piece}
use Rattle.hr_tree.specs.Lists.{piece_items}
use Rattle.hr_grammar.specs.Words.{IsSemicolon}
use Rattle.hr_grammar.specs.Blocks.{PartsAreSeparated}
use Rattle.hr_grammar.specs.Nodes.{DeclPlace}
use Rattle.hr_grammar.specs.Spans.{BlockSpan, Stretch, stretch_length, Laid}
use Rattle.hr_grammar.specs.Offside.{IsAtMargin, PartsBegin, piece_starts, placed_among, Next}
use Rattle.hr_grammar_cases.specs.Readings.{inside}
use Rattle.hr_grammar_cases.specs.Blocks.{Parts, takes_semicolon, pieces_reading, braced_reading}
use Rattle.hr_grammar_cases.specs.Laws.{items_left}
use Rattle.hr_grammar_cases.proofs.Readings.{append_assoc}
use Rattle.hr_grammar_cases.proofs.Stretches.{Has, is_empty_at, Text, lexemes, mark_or, seen, lexemes_at, seen_plain, seen_begun}
use Rattle.hr_grammar_cases.proofs.Standing.{GoesAt, Within, known_first, in_second, both_within}
use Rattle.hr_grammar_cases.proofs.StandingPoints.{next_map}
use Rattle.hr_grammar_cases.proofs.StandingPieces.{laids, pieces_laid, stretches, AtLeast, margin_least, still_ended, last_from}
use Rattle.hr_grammar_cases_laws.proofs.Regaining.{Firm, text_firm, nothing_firm, both_firm, sum_size, Held, BeginsAt, Given, Regains, through, ending_regains, given_first, given_second, then_regains, one_regains, nothing_regains, next_seen, the_first}

-- ---- first items
-- there is a first item, and it is no `{`
abbrev pub Begun : List Item → Type 0
Begun [] = ⊥
Begun (item ∷ items) = is_open_brace (role_of item.lexeme) ≡ false

pub begun_firm : (items : List Item) → Begun items → Firm items
begun_firm [] b rest nb = elim b [ ]
begun_firm (item ∷ items) b rest nb = b

one_more_none : (k : ℕ) → suc k ≢ 0
one_more_none k = λ e. omega arith

begun_some : (items : List Item) → Begun items → length items ≢ 0
begun_some [] b = elim b [ ]
begun_some (item ∷ items) b = one_more_none (length items)

pub semicolon_begun : (item : Item) (items : List Item) → IsSemicolon item → Begun (item ∷ items)
semicolon_begun item items is = text_firm Class.Special (codes ";") item is refl

-- ---- parts and pieces
-- the parts of the grammar at their places, each behind a place, are read where they may stand, and begin with no `{`
pub record PartsRegain {T : Type 0} (text : Text) (of : T → Laid) (items_of : T → List Item) (parts : Parts T) (Fits : DeclPlace → DeclPlace → T → Type 0) : Type 0 where
  pub regains : (n : ℕ) (place next : DeclPlace) (part : T) → Fits place next part → Regains text n false (of part) (items_of part) (inside (parts n place next part))
  pub begins : (place next : DeclPlace) (part : T) → Fits place next part → Begun (items_of part)

-- a part ends as it is read
abbrev pub EndsAlike : {T : Type 0} → (T → Laid) → Parts T → (DeclPlace → DeclPlace → T → Type 0) → Type 0
EndsAlike {T} of parts Fits = (n : ℕ) (place next : DeclPlace) (part : T) (ending : Ending) (ts us : List Placed) → Fits place next part → parts n place next part ending ts us → (of part).ending ≡ ending

abbrev pub PiecesFit : {T : Type 0} → (DeclPlace → DeclPlace → T → Type 0) → DeclPlace → List (Piece T) → Type 0
PiecesFit Fits place [] = Unit {0}
PiecesFit Fits place (Piece.Semicolon item ∷ pieces) = IsSemicolon item × PiecesFit Fits place pieces
PiecesFit Fits place (Piece.Part part ∷ pieces) = (next : DeclPlace) × Fits place next part × PiecesFit Fits next pieces

pub pieces_firm : {T : Type 0} {text : Text} {of : T → Laid} {items_of : T → List Item} {parts : Parts T} {Fits : DeclPlace → DeclPlace → T → Type 0} → PartsRegain text of items_of parts Fits
    → (place : DeclPlace) (pieces : List (Piece T)) → PiecesFit Fits place pieces → Firm (flat_map (piece_items items_of) pieces)
pieces_firm p place [] fit = nothing_firm
pieces_firm {items_of = items_of} p place (Piece.Semicolon item ∷ pieces) fit = λ rest nb. semicolon_begun item (flat_map (piece_items items_of) pieces ++ rest) fit.0
pieces_firm {items_of = items_of} p place (Piece.Part part ∷ pieces) fit =
    both_firm (items_of part) (flat_map (piece_items items_of) pieces) (begun_firm (items_of part) (p.begins place fit.0 part fit.1)) (pieces_firm p fit.0 pieces fit.2)

pub pieces_size : {T : Type 0} {text : Text} {of : T → Laid} {items_of : T → List Item} {parts : Parts T} {Fits : DeclPlace → DeclPlace → T → Type 0} → PartsRegain text of items_of parts Fits
    → (place : DeclPlace) (pieces : List (Piece T)) → PiecesFit Fits place pieces → (pieces_laid of pieces).extent ≡ length (flat_map (piece_items items_of) pieces)
pieces_size p place [] fit = refl
pieces_size {of = of} {items_of = items_of} p place (Piece.Semicolon item ∷ pieces) fit =
    sum_size 1 (pieces_laid of pieces).extent (item ∷ []) (flat_map (piece_items items_of) pieces) refl (pieces_size p place pieces fit.1)
pieces_size {of = of} {items_of = items_of} p place (Piece.Part part ∷ pieces) fit =
    sum_size (of part).extent (pieces_laid of pieces).extent (items_of part) (flat_map (piece_items items_of) pieces) (p.regains 0 place fit.0 part fit.1).size (pieces_size p fit.0 pieces fit.2)

pub pieces_lie : {T : Type 0} {text : Text} {of : T → Laid} {items_of : T → List Item} {parts : Parts T} {Fits : DeclPlace → DeclPlace → T → Type 0} → PartsRegain text of items_of parts Fits
    → (n : ℕ) (place : DeclPlace) (pieces : List (Piece T)) → PiecesFit Fits place pieces → (start : ℕ) (span : BlockSpan) → Has ((pieces_laid of pieces).blocks n start) span
    → Within false start (pieces_laid of pieces).extent span
pieces_lie p n place [] fit start span has = elim has [ ]
pieces_lie {of = of} p n place (Piece.Semicolon item ∷ pieces) fit start span has =
    in_second false start 1 (pieces_laid of pieces).extent (pieces_lie p n place pieces fit.1 (start + 1) span has)
pieces_lie {of = of} p n place (Piece.Part part ∷ pieces) fit start span has =
    both_within n false (of part) (pieces_laid of pieces) start ((p.regains n place fit.0 part fit.1).within start)
    (pieces_lie p n fit.0 pieces fit.2 (start + (of part).extent)) span has

-- ---- with which lexemes pieces begin
-- the lexeme is not left of the column, and a piece begins with it
abbrev pub PieceAt : Text → ℕ → ℕ → List Stretch → ℕ → Type 0
PieceAt text n start pieces i = AtLeast text n i × (list_any (λ s. s == i) (piece_starts start pieces) ≡ true)

begins_behind : (pieces : List Stretch) (start i : ℕ) → list_any (λ s. s == i) (piece_starts start pieces) ≡ true → start ≤ i
begins_behind [] start i e = let no : ⊥ = cc in elim no [ ]
begins_behind (piece ∷ pieces) start i e = by (start == i) refl (begins_behind pieces (start + stretch_length piece) i)
  where
    by : (t : Bool) → (start == i) ≡ t → (list_any (λ s. s == i) (piece_starts (start + stretch_length piece) pieces) ≡ true → start + stretch_length piece ≤ i) → start ≤ i
    by true same later = let f = eqb-true start i same in omega arith
    by false same later =
        let rest = later (sym (ap (λ t. t || list_any (λ s. s == i) (piece_starts (start + stretch_length piece) pieces)) same) ∙ e) in omega arith

-- the first piece alone begins inside it, and the others behind it
begins_first : (pieces : List Stretch) (start e i : ℕ) → i < start + e → list_any (λ s. s == i) (start ∷ piece_starts (start + e) pieces) ≡ true → i ≡ start
begins_first pieces start e i l b = by (start == i) refl
  where
    by : (t : Bool) → (start == i) ≡ t → i ≡ start
    by true same = sym (eqb-true start i same)
    by false same = let h = begins_behind pieces (start + e) i (sym (ap (λ t. t || list_any (λ s. s == i) (piece_starts (start + e) pieces)) same) ∙ b) in let no : ⊥ = omega arith in elim no [ ]

begins_later : (pieces : List Stretch) (start e i : ℕ) → e ≢ 0 → start + e ≤ i → list_any (λ s. s == i) (start ∷ piece_starts (start + e) pieces) ≡ true → list_any (λ s. s == i) (piece_starts (start + e) pieces) ≡ true
begins_later pieces start e i some l b =
    sym (ap (λ t. t || list_any (λ s. s == i) (piece_starts (start + e) pieces)) (ne_eqb start i (apart e some l))) ∙ b
  where
    apart : (k : ℕ) → k ≢ 0 → start + k ≤ i → start ≢ i
    apart zero o h = absurd (o refl)
    apart (suc k) o h = λ same. let no : ⊥ = omega arith in no

-- ---- the first lexeme of a piece
go_least : (first right left : Bool) → (right ≡ true → left ≡ false) → (not first || right) ≡ true → (first && left) ≡ false
go_least true right left h e = h e
go_least false right left h e = refl

not_less : (a b : ℕ) → b < a → nat_lt a b ≡ false
not_less a b l = by (nat_lt a b) refl
  where
    by : (t : Bool) → nat_lt a b ≡ t → nat_lt a b ≡ false
    by true e = let h = ltb-true a b e in let no : ⊥ = omega arith in elim no [ ]
    by false e = e

pub goes_least : (text : Text) (n i : ℕ) → GoesAt text n i → AtLeast text n i
goes_least text n i g =
    next_map (λ next. goes_on n next ≡ true) (λ next. left_of n next ≡ false) (drop i (lexemes text))
    (λ next. go_least next.first (nat_lt n next.pos.col) (nat_lt next.pos.col n) (λ e. not_less next.pos.col n (ltb-true n next.pos.col e))) g

first_least : (text : Text) (n start f : ℕ) (spans : List BlockSpan) (pieces : List Stretch) → ((span : BlockSpan) → Has spans span → Within false start f span)
    → Held text n spans start ⊎ PieceAt text n start pieces start → AtLeast text n start
first_least text n start f spans pieces w (inl (inl g)) = goes_least text n start g
first_least text n start f spans pieces w (inl (inr c)) = let m = (w c.span c.among).behind in let l = c.behind in let no : ⊥ = omega arith in elim no [ ]
first_least text n start f spans pieces w (inr x) = x.0

-- ---- where a part may start
-- behind a piece with an ending the lexeme is at the margin
abbrev pub Margin : ℕ → List Stretch → List Placed → Type 0
Margin n [] rest = Unit {0}
Margin n (Stretch.Semicolon ∷ pieces) rest = Unit {0}
Margin n (Stretch.Part k ∷ pieces) rest = IsAtMargin n rest

margin_behind : (n start k : ℕ) (pieces : List Stretch) (ts : List Placed) → PartsBegin n ts start (Stretch.Part k ∷ pieces) → Margin n pieces (drop (start + k) ts) × PartsBegin n ts (start + k) pieces
margin_behind n start k [] ts p = (tt, tt)
margin_behind n start k (Stretch.Semicolon ∷ pieces) ts p = (tt, p)
margin_behind n start k (Stretch.Part j ∷ pieces) ts p = p

margin_seen : (n : ℕ) (spans : List BlockSpan) (i : ℕ) (placed : List Placed) → IsAtMargin n (placed_among spans i placed) → IsAtMargin n (mark_or (is_empty_at spans i) placed)
margin_seen n spans i [] m = m
margin_seen n spans i (next ∷ placed) m = m

not_false : (b : Bool) → b ≡ false → not b ≡ true
not_false true e = let no : ⊥ = cc in elim no [ ]
not_false false e = refl

starts_margin : (n : ℕ) (ending : Ending) (ts : List Placed) → IsAtMargin n ts → starts_part n ending ts ≡ true
starts_margin n ending [] m = elim m [ ]
starts_margin n Ending.Nothing (next ∷ ts) m = not_false (left_of n next) (margin_least n next m)
starts_margin n (Ending.Applied where_free guarded) (next ∷ ts) m = m
starts_margin n (Ending.Closed where_free guarded) (next ∷ ts) m = m
starts_margin n (Ending.Annotated where_free guarded) (next ∷ ts) m = m
starts_margin n Ending.Signature (next ∷ ts) m = m
starts_margin n Ending.WhereBlock (next ∷ ts) m = m
starts_margin n Ending.Fixity (next ∷ ts) m = m

starts_first : (n : ℕ) (empty : Bool) (items rest : List Item) (placed : List Placed) → Begun items → items_left placed ≡ items ++ rest → Next (λ next. left_of n next ≡ false) (mark_or empty placed)
    → starts_part n Ending.Nothing (mark_or empty placed) ≡ true
starts_first n empty [] rest placed b e l = elim b [ ]
starts_first n empty (item ∷ items) rest [] b e l = let no : ⊥ = cc in elim no [ ]
starts_first n empty (item ∷ items) rest (next ∷ placed) b e l = not_false (left_of n (record { item = next.item; pos = next.pos; first = next.first || empty })) l

starts_here : (text : Text) (n : ℕ) (ending : Ending) (items rest : List Item) (start k : ℕ) (pieces : List Stretch) → Begun items → items_left (drop start text.placed) ≡ items ++ rest → AtLeast text n start
    → (ending ≡ Ending.Nothing) ⊎ Margin n (Stretch.Part k ∷ pieces) (drop start (lexemes text)) → starts_part n ending (seen text false start) ≡ true
starts_here text n ending items rest start k pieces b e l (inl same) =
    subst (λ x. starts_part n x (seen text false start) ≡ true) (sym same)
    (starts_first n (is_empty_at text.spans start) items rest (drop start text.placed) b e (next_seen (λ next. left_of n next ≡ false) text start l))
starts_here text n ending items rest start k pieces b e l (inr m) =
    starts_margin n ending (seen text false start) (margin_seen n text.spans start (drop start text.placed) (subst (IsAtMargin n) (lexemes_at text start) m))

-- ---- a `;`
next_semicolon : (n : ℕ) (item : Item) (rest : List Item) (empty : Bool) (ts us : List Placed) → items_left ts ≡ item ∷ rest → Next (λ next. left_of n next ≡ false) (mark_or empty ts) → us ≡ drop 1 ts
    → takes_semicolon n item (mark_or empty ts) us
next_semicolon n item rest empty [] us e l u = let no : ⊥ = cc in elim no [ ]
next_semicolon n item rest empty (next ∷ ts) us e l u = (l, the_first e, u)

semicolon_here : (text : Text) (n : ℕ) (item : Item) (rest : List Item) (start : ℕ) (us : List Placed) → items_left (drop start text.placed) ≡ item ∷ rest → AtLeast text n start
    → us ≡ drop (start + 1) text.placed → takes_semicolon n item (seen text false start) us
semicolon_here text n item rest start us e l u =
    next_semicolon n item rest (is_empty_at text.spans start) (drop start text.placed) us e (next_seen (λ next. left_of n next ≡ false) text start l) (u ∙ sym (drop-drop 1 start text.placed))

-- ---- the pieces of a block without braces
-- nothing is left, or the block ends as its last part is read
abbrev pub Closes : {T : Type 0} → (T → Laid) → Parts T → (DeclPlace → DeclPlace → T → Type 0) → BlockKind → ℕ → Ending → List (Piece T) → List Placed → Type 0
Closes of parts Fits kind n ending pieces us = (us ≡ []) ⊎ (EndsAlike of parts Fits × (ends_block n kind (last_from ending (laids of pieces)) us ≡ true))

closed_here : (n : ℕ) (kind : BlockKind) (ending : Ending) (ts us : List Placed) → us ≡ ts → (us ≡ []) → ends_block n kind ending ts ≡ true
closed_here n kind ending ts us same none = subst (λ l. ends_block n kind ending l ≡ true) (sym (sym same ∙ none)) refl

pub pieces_regain : {T : Type 0} {text : Text} {of : T → Laid} {items_of : T → List Item} {parts : Parts T} {Fits : DeclPlace → DeclPlace → T → Type 0} → PartsRegain text of items_of parts Fits
    → (kind : BlockKind) (n : ℕ) (place : DeclPlace) (ending : Ending) (pieces : List (Piece T)) → PiecesFit Fits place pieces → (start : ℕ) (rest : List Item)
    → Given text n false start (pieces_laid of pieces) (flat_map (piece_items items_of) pieces) rest (PieceAt text n start (stretches of pieces))
    → PartsBegin n (lexemes text) start (stretches of pieces) → (ending ≡ Ending.Nothing) ⊎ Margin n (stretches of pieces) (drop start (lexemes text))
    → Closes of parts Fits kind n ending pieces (seen text false (start + (pieces_laid of pieces).extent))
    → pieces_reading parts kind n place ending pieces (seen text false start) (seen text false (start + (pieces_laid of pieces).extent))
pieces_regain {text = text} {of = of} {parts = parts} {Fits = Fits} p kind n place ending [] fit start rest k begin ready closes = (by closes, same)
  where
    no_more : (i : ℕ) → i + 0 ≡ i
    no_more i = omega arith

    same : seen text false (start + 0) ≡ seen text false start
    same = ap (λ (i : ℕ). seen text false i) (no_more start)

    by : Closes of parts Fits kind n ending [] (seen text false (start + 0)) → ends_block n kind ending (seen text false start) ≡ true
    by (inl none) = closed_here n kind ending (seen text false start) (seen text false (start + 0)) same none
    by (inr e) = subst (λ l. ends_block n kind ending l ≡ true) same e.1
pieces_regain {text = text} {of = of} {items_of = items_of} {parts = parts} {Fits = Fits} p kind n place ending (Piece.Semicolon item ∷ pieces) fit start rest k begin ready closes =
    let others = pieces_laid of pieces in
    let within = pieces_lie p n place (Piece.Semicolon item ∷ pieces) fit start in
    let least = first_least text n start (1 + others.extent) (others.blocks n (start + 1)) (Stretch.Semicolon ∷ stretches of pieces) within (k.each start (omega arith) (omega arith)) in
    let later = given_second {Second = PieceAt text n (start + 1) (stretches of pieces)} (item ∷ []) (flat_map (piece_items items_of) pieces) rest (record { extent = 1; ending = Ending.Nothing; blocks = λ m s. [] }) others refl
    (λ span has. elim has [ ]) (λ i l x. (x.0, begins_later (stretches of pieces) start 1 i (one_more_none 0) l x.1)) k in
    let none = (known_first {f = others.extent} [] (others.blocks n (start + 1)) (pieces_lie p n place pieces fit.1 (start + 1)) k.known).marks (start + 1) (omega arith) (omega arith) in
    let same = add_assoc start 1 others.extent in (
      seen text false (start + 1),
      (fit.0, semicolon_here text n item (flat_map (piece_items items_of) pieces ++ rest) start (seen text false (start + 1)) k.items_are least (sym (seen_plain text (start + 1) none))),
      subst (λ i. pieces_reading parts kind n place Ending.Nothing pieces (seen text false (start + 1)) (seen text false i)) same
          (pieces_regain p kind n place Ending.Nothing pieces fit.1 (start + 1) rest later begin (inl refl)
          (subst (λ i. Closes of parts Fits kind n Ending.Nothing pieces (seen text false i)) (sym same) closes)),
    )
pieces_regain {text = text} {of = of} {items_of = items_of} {parts = parts} {Fits = Fits} p kind n place ending (Piece.Part part ∷ pieces) fit start rest k begin ready closes =
    let next = fit.0 in let others = pieces_laid of pieces in
    let one_part = p.regains n place next part fit.1 in
    let begun = p.begins place next part fit.1 in
    let some : (of part).extent ≢ 0 = λ e. begun_some (items_of part) begun (sym one_part.size ∙ e) in
    let inner = pieces_lie p n next pieces fit.2 (start + (of part).extent) in
    let within = pieces_lie p n place (Piece.Part part ∷ pieces) fit start in
    let least = first_least text n start ((of part).extent + others.extent) ((of part).blocks n start ++ others.blocks n (start + (of part).extent)) (Stretch.Part (of part).extent ∷ stretches of pieces) within
    (k.each start (omega arith) (some_more start (of part).extent others.extent some)) in
    let first = given_first {First = BeginsAt false true start} (items_of part) (flat_map (piece_items items_of) pieces) rest (of part) others (inr (pieces_firm p next pieces fit.2)) inner
    (λ i l x. (begins_first (stretches of pieces) start (of part).extent i l x.1, refl)) k in
    let later = given_second {Second = PieceAt text n (start + (of part).extent) (stretches of pieces)} (items_of part) (flat_map (piece_items items_of) pieces) rest (of part) others one_part.size (one_part.within start)
    (λ i l x. (x.0, begins_later (stretches of pieces) start (of part).extent i some l x.1)) k in
    let r = one_part.regains true start (flat_map (piece_items items_of) pieces ++ rest) first in
    let here = subst (λ (b : Bool). parts n place next part r.0 (seen text true start) (seen text b (start + (of part).extent))) (still_ended (of part).extent some) r.1 in
    let behind = margin_behind n start (of part).extent (stretches of pieces) (lexemes text) begin in
    let same = add_assoc start (of part).extent others.extent in (
      seen text true start,
      (
        starts_here text n ending (items_of part) (flat_map (piece_items items_of) pieces ++ rest) start (of part).extent (stretches of pieces) begun (k.items_are ∙ append_assoc (items_of part) (flat_map (piece_items items_of) pieces) rest) least ready,
        sym (seen_begun text start),
      ),
      (
        next,
        r.0,
        (
          seen text false (start + (of part).extent),
          here,
          subst (λ i. pieces_reading parts kind n next r.0 pieces (seen text false (start + (of part).extent)) (seen text false i)) same
              (pieces_regain p kind n next r.0 pieces fit.2 (start + (of part).extent) rest later behind.1
              (inr behind.0)
              (subst (λ i. Closes of parts Fits kind n r.0 pieces (seen text false i)) (sym same) (turned r.0 (seen text false (start + (of part).extent)) here closes))),
        ),
      ),
    )
  where
    some_more : (s e f : ℕ) → e ≢ 0 → s < s + (e + f)
    some_more s zero f o = absurd (o refl)
    some_more s (suc e) f o = omega arith

    turned : (end : Ending) (vs : List Placed) → parts n place fit.0 part end (seen text true start) vs
        → Closes of parts Fits kind n ending (Piece.Part part ∷ pieces) (seen text false (start + ((of part).extent + (pieces_laid of pieces).extent)))
        → Closes of parts Fits kind n end pieces (seen text false (start + ((of part).extent + (pieces_laid of pieces).extent)))
    turned end vs h (inl none) = inl none
    turned end vs h (inr e) =
        inr (e.0, subst (λ x. ends_block n kind (last_from x (laids of pieces)) (seen text false (start + ((of part).extent + (pieces_laid of pieces).extent))) ≡ true) (e.0 n place fit.0 part end (seen text true start) vs fit.1 h) e.1)

-- ---- between braces
-- a part may begin there, or none does
abbrev pub Free : {T : Type 0} → Bool → List (Piece T) → Type 0
Free true pieces = Unit {0}
Free false [] = Unit {0}
Free false (Piece.Semicolon item ∷ pieces) = Unit {0}
Free false (Piece.Part part ∷ pieces) = ⊥

free_part : {T : Type 0} (begins : Bool) (part : T) (pieces : List (Piece T)) → Free begins (Piece.Part part ∷ pieces) → begins ≡ true
free_part true part pieces f = refl
free_part false part pieces f = elim f [ ]

apart_behind : {T : Type 0} (part : T) (pieces : List (Piece T)) → PartsAreSeparated (Piece.Part part ∷ pieces) → Free false pieces × PartsAreSeparated pieces
apart_behind part [] a = (tt, tt)
apart_behind part (Piece.Semicolon item ∷ pieces) a = (tt, a)
apart_behind part (Piece.Part next ∷ pieces) a = elim a [ ]

apart_semicolon : {T : Type 0} (item : Item) (pieces : List (Piece T)) → PartsAreSeparated (Piece.Semicolon item ∷ pieces) → PartsAreSeparated pieces
apart_semicolon item [] a = tt
apart_semicolon item (next ∷ pieces) a = a

pub braced_regain : {T : Type 0} {text : Text} {of : T → Laid} {items_of : T → List Item} {parts : Parts T} {Fits : DeclPlace → DeclPlace → T → Type 0} → PartsRegain text of items_of parts Fits
    → (place : DeclPlace) (begins : Bool) (pieces : List (Piece T)) → PiecesFit Fits place pieces → PartsAreSeparated pieces → Free begins pieces
    → Regains text 0 false (pieces_laid of pieces) (flat_map (piece_items items_of) pieces) (braced_reading parts place begins pieces)
braced_regain p place begins [] fit apart free = nothing_regains
braced_regain p place begins (Piece.Semicolon item ∷ pieces) fit apart free =
    then_regains (inl (λ start. refl)) (ending_regains Ending.Nothing (one_regains IsSemicolon item fit.0)) (braced_regain p place true pieces fit.1 (apart_semicolon item pieces apart) tt)
braced_regain p place begins (Piece.Part part ∷ pieces) fit apart free =
    through (λ ts us r. (free_part begins part pieces free, (fit.0, r.1.0, (r.0, r.1.1, r.2))))
    (then_regains (inr (pieces_firm p fit.0 pieces fit.2)) (p.regains 0 place fit.0 part fit.1)
    (braced_regain p fit.0 false pieces fit.2 (apart_behind part pieces apart).1 (apart_behind part pieces apart).0))
