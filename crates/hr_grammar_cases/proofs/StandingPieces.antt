-- The pieces of a block without braces: points 2 and 3 of the layout rule, and the ending of the last one.
use Rattle.std.proofs.Common.{◌≡◌, ◌≢◌, ◌⊎◌, ◌≤◌, ◌<◌, ℕ, zero, suc, ◌+◌, ◌==◌, ◌||◌, ◌&&◌, Bool, true, false, List, [], ◌∷◌, map, drop, refl, sym, ap, ◌∙◌, subst, inl, inr, add-zero, add_assoc, arith, eq-eqb}
use Rattle.std.specs.List.{list_any}
use Rattle.std.proofs.lemmas.Bool.{not-true, or_left, or_right}
use Rattle.hr_base.specs.declared.lexeme.Ending.{Ending}
use Rattle.hr_base.specs.declared.lexeme.Item.{Item}
use Rattle.hr_rules.specs.declared.block.BlockKind.{BlockKind}
use Rattle.hr_rules.specs.declared.block.Placed.{Placed}
use Rattle.hr_rules.specs.Blocks.{mark, left_of, at_margin, starts_part, ends_block}
use Rattle.hr_rules.proofs.Margins.{margins}
use Rattle.hr_tree.specs.declared.lists.Piece.{Piece}
use Rattle.hr_grammar.specs.Nodes.{DeclPlace}
use Rattle.hr_grammar.specs.Spans.{BlockSpan, Stretch, Laid, blockless, row, piece_laid, stretch_of, last_ending}
use Rattle.hr_grammar.specs.Offside.{IsAtMargin, PartsBegin, piece_starts, placed_among, StandsWell, Next}
use Rattle.hr_grammar_cases.specs.Blocks.{Parts, takes_semicolon, pieces_reading}
use Rattle.hr_grammar_cases.proofs.Stops.{starts_at}
use Rattle.hr_grammar_cases.proofs.Stretches.{beside, Has, has_either, is_empty_at, Text, lexemes, mark_or, seen, lexemes_at, next_in, seen_plain, seen_begun, before_or_behind}
use Rattle.hr_grammar_cases.proofs.Standing.{Right, wider, Within, still, Known, Stands, Standing, in_second, known_first, known_second, both_within}
use Rattle.hr_grammar_cases.proofs.StandingLexemes.{none_between, took}

-- the pieces, by where their parts lie
abbrev pub piece_by : {T : Type 0} → (T → Laid) → Piece T → Piece Laid
piece_by of (Piece.Semicolon item) = Piece.Semicolon item
piece_by of (Piece.Part part) = Piece.Part (of part)

abbrev pub laids : {T : Type 0} → (T → Laid) → List (Piece T) → List (Piece Laid)
laids of pieces = map (piece_by of) pieces

abbrev pub pieces_laid : {T : Type 0} → (T → Laid) → List (Piece T) → Laid
pieces_laid of pieces = row (map piece_laid (laids of pieces))

abbrev pub stretches : {T : Type 0} → (T → Laid) → List (Piece T) → List Stretch
stretches of pieces = map stretch_of (laids of pieces)

-- parts that stand at any column, have a lexeme, and end as no empty part does
pub record PartsStand {T : Type 0} (text : Text) (of : T → Laid) (parts : Parts T) : Type 0 where
  pub stands : (n : ℕ) (place next : DeclPlace) (part : T) (ending : Ending) → Stands text n false (of part) (parts n place next part ending)
  pub some : (n : ℕ) (place next : DeclPlace) (part : T) (ending : Ending) (ts us : List Placed) → parts n place next part ending ts us → (of part).extent ≢ 0
  pub ends : (n : ℕ) (place next : DeclPlace) (part : T) (ending : Ending) (ts us : List Placed) → parts n place next part ending ts us → ending ≢ Ending.Nothing

-- ---- where the blocks lie
pub pieces_within : {T : Type 0} {text : Text} {of : T → Laid} {parts : Parts T} → PartsStand text of parts → (kind : BlockKind) (n : ℕ) (place : DeclPlace) (ending : Ending) (pieces : List (Piece T))
    (ts us : List Placed) → pieces_reading parts kind n place ending pieces ts us → (start : ℕ) (span : BlockSpan) → Has ((pieces_laid of pieces).blocks n start) span
    → Within false start (pieces_laid of pieces).extent span
pieces_within p kind n place ending [] ts us r start span has = elim has [ ]
pieces_within {of = of} p kind n place ending (Piece.Semicolon item ∷ pieces) ts us r start span has =
    in_second false start 1 (pieces_laid of pieces).extent (pieces_within p kind n place Ending.Nothing pieces r.0 us r.2 (start + 1) span has)
pieces_within {of = of} p kind n place ending (Piece.Part part ∷ pieces) ts us r start span has =
    let next = r.2.0 in let end = r.2.1 in
    both_within n false (of part) (pieces_laid of pieces) start ((p.stands n place next part end).within r.0 r.2.2.0 r.2.2.1 start)
    (pieces_within p kind n next end pieces r.2.2.0 us r.2.2.2 (start + (of part).extent)) span has

-- ---- where a part or a `;` begins
-- the lexeme of that number, if it is first on its line, is not left of the column
abbrev pub AtLeast : Text → ℕ → ℕ → Type 0
AtLeast text n i = Next (λ next. left_of n next ≡ false) (drop i (lexemes text))

not_both : (a b : Bool) → (a && b) ≡ false → b ≡ true → a ≡ false
not_both true true e f = e
not_both true false e f = let no : ⊥ = cc in elim no [ ]
not_both false b e f = refl

pub margin_least : (n : ℕ) (next : Placed) → at_margin n next ≡ true → left_of n next ≡ false
margin_least n next e = not_both (left_of n next) (at_margin n next) (margins n next).apart e

start_least : (n : ℕ) (ending : Ending) (next : Placed) (rest : List Placed) → starts_part n ending (next ∷ rest) ≡ true → left_of n next ≡ false
start_least n Ending.Nothing next rest s = not-true (left_of n next) s
start_least n (Ending.Applied where_free guarded) next rest s = margin_least n next s
start_least n (Ending.Closed where_free guarded) next rest s = margin_least n next s
start_least n (Ending.Annotated where_free guarded) next rest s = margin_least n next s
start_least n Ending.Signature next rest s = margin_least n next s
start_least n Ending.WhereBlock next rest s = margin_least n next s
start_least n Ending.Fixity next rest s = margin_least n next s

starts_least : (n : ℕ) (ending : Ending) (ts : List Placed) → starts_part n ending ts ≡ true → Next (λ next. left_of n next ≡ false) ts
starts_least n ending [] s = tt
starts_least n ending (next ∷ ts) s = start_least n ending next ts s

start_at_least : (text : Text) (n : ℕ) (ending : Ending) (start : ℕ) (ts : List Placed) → starts_part n ending ts ≡ true → ts ≡ seen text false start → AtLeast text n start
start_at_least text n ending start ts s e = next_in (λ next. left_of n next ≡ false) text start (subst (λ l. Next (λ next. left_of n next ≡ false) l) e (starts_least n ending ts s))

semicolon_at_least : (text : Text) (n : ℕ) (item : Item) (start : ℕ) (ts us : List Placed) → takes_semicolon n item ts us → ts ≡ seen text false start → AtLeast text n start
semicolon_at_least text n item start [] us r e = elim r [ ]
semicolon_at_least text n item start (next ∷ ts) us r e = next_in (λ x. left_of n x ≡ false) text start (subst (λ l. Next (λ x. left_of n x ≡ false) l) e r.0)

semicolon_took : (text : Text) (n : ℕ) (item : Item) (start : ℕ) (ts us : List Placed) → takes_semicolon n item ts us → ts ≡ seen text false start → us ≡ drop (start + 1) text.placed
semicolon_took text n item start [] us r e = elim r [ ]
semicolon_took text n item start (next ∷ ts) us r e = took text false start next ts us r.2 e

margin_among : (n : ℕ) (ending : Ending) (spans : List BlockSpan) (i : ℕ) (placed : List Placed) → ending ≢ Ending.Nothing
    → starts_part n ending (mark_or (is_empty_at spans i) placed) ≡ true → IsAtMargin n (placed_among spans i placed)
margin_among n ending spans i [] other s = let no : ⊥ = cc in elim no [ ]
margin_among n ending spans i (next ∷ placed) other s =
    starts_at n ending (record { item = next.item; pos = next.pos; first = next.first || is_empty_at spans i }) placed other s

margin_in : (text : Text) (n : ℕ) (ending : Ending) (i : ℕ) (ws : List Placed) → ending ≢ Ending.Nothing → starts_part n ending ws ≡ true → ws ≡ seen text false i → IsAtMargin n (drop i (lexemes text))
margin_in text n ending i ws other s e =
    subst (IsAtMargin n) (sym (lexemes_at text i)) (margin_among n ending text.spans i (drop i text.placed) other (subst (λ l. starts_part n ending l ≡ true) e s))

-- ---- point 2
part_begins : {T : Type 0} (of : T → Laid) (parts : Parts T) (text : Text) (kind : BlockKind) (n : ℕ) (place : DeclPlace) (ending : Ending) (pieces : List (Piece T)) (ws us : List Placed)
    → pieces_reading parts kind n place ending pieces ws us → ending ≢ Ending.Nothing → (start k : ℕ) → ws ≡ seen text false (start + k)
    → PartsBegin n (lexemes text) (start + k) (stretches of pieces) → PartsBegin n (lexemes text) start (Stretch.Part k ∷ stretches of pieces)
part_begins of parts text kind n place ending [] ws us r other start k e p = tt
part_begins of parts text kind n place ending (Piece.Semicolon item ∷ pieces) ws us r other start k e p = p
part_begins of parts text kind n place ending (Piece.Part part ∷ pieces) ws us r other start k e p = (margin_in text n ending (start + k) ws other r.1.0 e, p)

-- ---- the pieces
-- behind them; each of their lexemes; their blocks; point 2
pub record PiecesStanding (text : Text) (n start : ℕ) (laid : Laid) (pieces : List Stretch) (us : List Placed) : Type 0 where
  pub after : us ≡ seen text false (start + laid.extent)
  pub each : (i : ℕ) → start ≤ i → i < start + laid.extent → Right text n start (start + laid.extent) i ⊎ (AtLeast text n i × (list_any (λ s. s == i) (piece_starts start pieces) ≡ true))
  pub blocks : (span : BlockSpan) → Has (laid.blocks n start) span → StandsWell text.spans (lexemes text) span
  pub parts : PartsBegin n (lexemes text) start pieces

first_begins : (i start : ℕ) (rest : List ℕ) → i ≡ start → list_any (λ s. s == i) (start ∷ rest) ≡ true
first_begins i start rest same = or_left (start == i) (list_any (λ s. s == i) rest) (eq-eqb start i (sym same))

-- what stands behind the first piece
later : (text : Text) (n start e f : ℕ) (pieces : List Stretch) (i : ℕ)
    → Right text n (start + e) ((start + e) + f) i ⊎ (AtLeast text n i × (list_any (λ s. s == i) (piece_starts (start + e) pieces) ≡ true))
    → Right text n start (start + (e + f)) i ⊎ (AtLeast text n i × (list_any (λ s. s == i) (start ∷ piece_starts (start + e) pieces) ≡ true))
later text n start e f pieces i (inl r) = inl (wider text n (start + e) ((start + e) + f) start (start + (e + f)) i (omega arith) (omega arith) r)
later text n start e f pieces i (inr b) = inr (b.0, or_right (start == i) (list_any (λ s. s == i) (piece_starts (start + e) pieces)) b.1)

begins_here : (text : Text) (n start : ℕ) (rest : List ℕ) (i : ℕ) → i ≡ start → AtLeast text n start → AtLeast text n i × (list_any (λ s. s == i) (start ∷ rest) ≡ true)
begins_here text n start rest i same l = (subst (λ j. AtLeast text n j) (sym same) l, first_begins i start rest same)

nothing_standing : (text : Text) (n start : ℕ) (ts us : List Placed) → us ≡ ts → ts ≡ seen text false start → PiecesStanding text n start (blockless []) [] us
nothing_standing text n start ts us u e = record {
  after = u ∙ e ∙ ap (λ (i : ℕ). seen text false i) (sym (add-zero start));
  each = λ i l h. elim (none_between start i l h) [ ];
  blocks = λ span has. elim has [ ];
  parts = tt;
}

semicolon_standing : (text : Text) (n start : ℕ) (laid : Laid) (pieces : List Stretch) (us : List Placed) → AtLeast text n start → PiecesStanding text n (start + 1) laid pieces us
    → PiecesStanding text n start (beside (record { extent = 1; ending = Ending.Nothing; blocks = λ m s. [] }) laid) (Stretch.Semicolon ∷ pieces) us
semicolon_standing text n start laid pieces us l t = record {
  after = t.after ∙ ap (λ (k : ℕ). seen text false k) (add_assoc start 1 laid.extent);
  each = λ i a h. by i a h (before_or_behind i (start + 1));
  blocks = t.blocks;
  parts = t.parts;
}
  where
    by : (i : ℕ) → start ≤ i → i < start + (1 + laid.extent) → (i < start + 1) ⊎ (start + 1 ≤ i)
        → Right text n start (start + (1 + laid.extent)) i ⊎ (AtLeast text n i × (list_any (λ s. s == i) (start ∷ piece_starts (start + 1) pieces) ≡ true))
    by i a h (inl c) = inr (begins_here text n start (piece_starts (start + 1) pieces) i (omega arith) l)
    by i a h (inr c) = later text n start 1 laid.extent pieces i (t.each i c (omega arith))

part_standing : (text : Text) (n start : ℕ) (part laid : Laid) (pieces : List Stretch) (vs us : List Placed) → AtLeast text n start → Standing text n false true start part vs
    → PiecesStanding text n (start + part.extent) laid pieces us → PartsBegin n (lexemes text) start (Stretch.Part part.extent ∷ pieces)
    → PiecesStanding text n start (beside part laid) (Stretch.Part part.extent ∷ pieces) us
part_standing text n start part laid pieces vs us l s t p = record {
  after = t.after ∙ ap (λ (k : ℕ). seen text false k) (add_assoc start part.extent laid.extent);
  each = λ i a h. by i a h (before_or_behind i (start + part.extent));
  blocks = λ span has. with_block span (has_either (part.blocks n start) (laid.blocks n (start + part.extent)) span has);
  parts = p;
}
  where
    in_part : (i : ℕ) → Right text n start (start + part.extent) i ⊎ ((i ≡ start) × (true ≡ true))
        → Right text n start (start + (part.extent + laid.extent)) i ⊎ (AtLeast text n i × (list_any (λ s. s == i) (start ∷ piece_starts (start + part.extent) pieces) ≡ true))
    in_part i (inl r) = inl (wider text n start (start + part.extent) start (start + (part.extent + laid.extent)) i (omega arith) (omega arith) r)
    in_part i (inr x) = inr (begins_here text n start (piece_starts (start + part.extent) pieces) i x.0 l)

    by : (i : ℕ) → start ≤ i → i < start + (part.extent + laid.extent) → (i < start + part.extent) ⊎ (start + part.extent ≤ i)
        → Right text n start (start + (part.extent + laid.extent)) i ⊎ (AtLeast text n i × (list_any (λ s. s == i) (start ∷ piece_starts (start + part.extent) pieces) ≡ true))
    by i a h (inl c) = in_part i (s.each i a c)
    by i a h (inr c) = later text n start part.extent laid.extent pieces i (t.each i c (omega arith))

    with_block : (span : BlockSpan) → Has (part.blocks n start) span ⊎ Has (laid.blocks n (start + part.extent)) span → StandsWell text.spans (lexemes text) span
    with_block span (inl c) = s.blocks span c
    with_block span (inr c) = t.blocks span c

pub still_ended : (extent : ℕ) → extent ≢ 0 → still false true extent ≡ false
still_ended zero other = absurd (other refl)
still_ended (suc extent) other = refl

pub pieces_stand : {T : Type 0} {text : Text} {of : T → Laid} {parts : Parts T} → PartsStand text of parts → (kind : BlockKind) (n : ℕ) (place : DeclPlace) (ending : Ending) (pieces : List (Piece T))
    (ts us : List Placed) → pieces_reading parts kind n place ending pieces ts us → (start : ℕ) → Known text false start (pieces_laid of pieces).extent ((pieces_laid of pieces).blocks n start)
    → ts ≡ seen text false start → PiecesStanding text n start (pieces_laid of pieces) (stretches of pieces) us
pieces_stand {text = text} p kind n place ending [] ts us r start k e = nothing_standing text n start ts us r.1 e
pieces_stand {text = text} {of = of} p kind n place ending (Piece.Semicolon item ∷ pieces) ts us r start k e =
    let within = pieces_within p kind n place Ending.Nothing pieces r.0 us r.2 (start + 1) in
    let first : Known text false start 1 [] = known_first [] ((pieces_laid of pieces).blocks n (start + 1)) within k in
    let rest : Known text false (start + 1) (pieces_laid of pieces).extent ((pieces_laid of pieces).blocks n (start + 1)) =
    known_second [] ((pieces_laid of pieces).blocks n (start + 1)) (λ span has. elim has [ ]) k in
    let here = semicolon_took text n item start ts r.0 r.1.1 e ∙ seen_plain text (start + 1) (first.marks (start + 1) (omega arith) (omega arith)) in
    semicolon_standing text n start (pieces_laid of pieces) (stretches of pieces) us (semicolon_at_least text n item start ts r.0 r.1.1 e)
    (pieces_stand p kind n place Ending.Nothing pieces r.0 us r.2 (start + 1) rest here)
pieces_stand {text = text} {of = of} {parts = parts} p kind n place ending (Piece.Part part ∷ pieces) ts us r start k e =
    let next = r.2.0 in let end = r.2.1 in let vs = r.2.2.0 in
    let one_part = p.stands n place next part end in
    let within = pieces_within p kind n next end pieces vs us r.2.2.2 (start + (of part).extent) in
    let first = known_first ((of part).blocks n start) ((pieces_laid of pieces).blocks n (start + (of part).extent)) within k in
    let rest = known_second ((of part).blocks n start) ((pieces_laid of pieces).blocks n (start + (of part).extent)) (one_part.within r.0 vs r.2.2.1 start) k in
    let s = one_part.stands r.0 vs r.2.2.1 true start first (r.1.1 ∙ ap (λ (l : List Placed). mark false l) e ∙ seen_begun text start) in
    let here = s.after ∙ ap (λ (b : Bool). seen text b (start + (of part).extent)) (still_ended (of part).extent (p.some n place next part end r.0 vs r.2.2.1)) in
    let t = pieces_stand p kind n next end pieces vs us r.2.2.2 (start + (of part).extent) rest here in
    part_standing text n start (of part) (pieces_laid of pieces) (stretches of pieces) vs us (start_at_least text n ending start ts r.1.0 e) s t
    (part_begins of parts text kind n next end pieces vs us r.2.2.2 (p.ends n place next part end r.0 vs r.2.2.1) start (of part).extent here t.parts)

-- ---- the ending of the last piece
abbrev pub last_from : Ending → List (Piece Laid) → Ending
last_from ending [] = ending
last_from ending (piece ∷ pieces) = last_from (piece_laid piece).ending pieces

last_any : (ending : Ending) (piece : Piece Laid) (pieces : List (Piece Laid)) → last_from ending (piece ∷ pieces) ≡ last_ending (piece ∷ pieces)
last_any ending piece [] = refl
last_any ending piece (next ∷ pieces) = last_any (piece_laid piece).ending next pieces

pub last_is : (pieces : List (Piece Laid)) → last_from Ending.Nothing pieces ≡ last_ending pieces
last_is [] = refl
last_is (piece ∷ pieces) = last_any Ending.Nothing piece pieces

-- a part of a block has the block's place, and ends as it is read
abbrev pub Agree : {T : Type 0} → (T → Laid) → Parts T → DeclPlace → Type 0
Agree {T} of parts place = (n : ℕ) (next : DeclPlace) (part : T) (ending : Ending) (ts us : List Placed) → parts n place next part ending ts us → (next ≡ place) × ((of part).ending ≡ ending)

ends_from : {T : Type 0} (of : T → Laid) (parts : Parts T) (place : DeclPlace) → Agree of parts place → (kind : BlockKind) (n : ℕ) (ending : Ending) (pieces : List (Piece T)) (ts us : List Placed)
    → pieces_reading parts kind n place ending pieces ts us → ends_block n kind (last_from ending (laids of pieces)) us ≡ true
ends_from of parts place agree kind n ending [] ts us r = subst (λ l. ends_block n kind ending l ≡ true) (sym r.1) r.0
ends_from of parts place agree kind n ending (Piece.Semicolon item ∷ pieces) ts us r = ends_from of parts place agree kind n Ending.Nothing pieces r.0 us r.2
ends_from of parts place agree kind n ending (Piece.Part part ∷ pieces) ts us r =
    let same = agree n r.2.0 part r.2.1 r.0 r.2.2.0 r.2.2.1 in
    subst (λ e. ends_block n kind (last_from e (laids of pieces)) us ≡ true) (sym same.1)
    (ends_from of parts place agree kind n r.2.1 pieces r.2.2.0 us (subst (λ q. pieces_reading parts kind n q r.2.1 pieces r.2.2.0 us) same.0 r.2.2.2))

pub pieces_end : {T : Type 0} (of : T → Laid) (parts : Parts T) (place : DeclPlace) → Agree of parts place → (kind : BlockKind) (n : ℕ) (pieces : List (Piece T)) (ts us : List Placed)
    → pieces_reading parts kind n place Ending.Nothing pieces ts us → ends_block n kind (last_ending (laids of pieces)) us ≡ true
pieces_end of parts place agree kind n pieces ts us r =
    subst (λ e. ends_block n kind e us ≡ true) (last_is (laids of pieces)) (ends_from of parts place agree kind n Ending.Nothing pieces ts us r)
