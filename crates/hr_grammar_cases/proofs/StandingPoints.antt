-- The points of the layout rule: lexemes that stand right of a column, and how a block opens and ends.
use Rattle.std.proofs.Common.{◌≡◌, ◌⊎◌, ◌≤◌, ◌<◌, ℕ, ◌+◌, ◌==◌, nat_lt, if◌then◌else◌, not, ◌||◌, ◌&&◌, Bool, true, false, List, [], ◌∷◌, drop, refl, sym, ap, ◌∙◌, subst, inl, inr, arith, le-leb, lt-ltb, ltb-true, ltb-false}
use Rattle.std.specs.List.{list_any}
use Rattle.std.proofs.lemmas.Bool.{and_from, or_left, or_right}
use Rattle.hr_base.specs.declared.lexeme.Ending.{Ending}
use Rattle.hr_base.specs.declared.lexeme.Item.{Item}
use Rattle.hr_rules.specs.declared.block.BlockKind.{BlockKind}
use Rattle.hr_rules.specs.declared.block.Opened.{Opened}
use Rattle.hr_rules.specs.declared.block.Placed.{Placed}
use Rattle.hr_rules.specs.Blocks.{role, is_open_brace, opens, goes_on, left_of, ends_block}
use Rattle.hr_tree.specs.declared.lists.Layout.{Layout}
use Rattle.hr_grammar.specs.Spans.{BlockSpan}
use Rattle.hr_grammar.specs.Offside.{column_of, placed_among, piece_starts, is_braced, StandsRight, Next}
use Rattle.hr_grammar_cases.proofs.Stretches.{or_false, Has, is_empty_at, Text, lexemes, mark_or, seen, lexemes_at}
use Rattle.hr_grammar_cases.proofs.Standing.{GoesAt, Braced, Right}
use Rattle.hr_grammar_cases.proofs.StandingPieces.{AtLeast}

-- ---- lexemes in explicit braces
abbrev pub with_layout : BlockSpan → Layout → BlockSpan
with_layout span layout = record { layout = layout; kind = span.kind; enclosing = span.enclosing; start = span.start; extent = span.extent; pieces = span.pieces; ending = span.ending }

or_first : (a b : Bool) → (a || false) ≡ true → (a || b) ≡ true
or_first a b e = or_left a b (sym (or_false a) ∙ e)

one_braced : (block span : BlockSpan) (i : ℕ) (left right : Item) → block.start ≤ span.start → span.start + span.extent ≤ block.start + block.extent → span.start ≤ i → i < span.start + span.extent
    → is_braced (with_layout span (Layout.Explicit left right) ∷ []) block i ≡ true
one_braced block span i left right a b c d =
    or_left _ false
    (and_from _ _ (and_from _ _ (le-leb block.start span.start a) (le-leb (span.start + span.extent) (block.start + block.extent) b)) (and_from _ _ (le-leb span.start i c) (lt-ltb i (span.start + span.extent) d)))

braced_among : (spans : List BlockSpan) (block span : BlockSpan) (i : ℕ) → Has spans span → is_braced (span ∷ []) block i ≡ true → is_braced spans block i ≡ true
braced_among [] block span i has b = elim has [ ]
braced_among (x ∷ spans) block span i (inl same) b = or_first _ (is_braced spans block i) (subst (λ s. is_braced (s ∷ []) block i ≡ true) (sym same) b)
braced_among (x ∷ spans) block span i (inr has) b = or_right _ (is_braced spans block i) (braced_among spans block span i has b)

pub stands_braced : (text : Text) (block : BlockSpan) (i : ℕ) → Braced text block.start (block.start + block.extent) i → is_braced text.spans block i ≡ true
stands_braced text block i b =
    let same : with_layout b.span (Layout.Explicit b.left b.right) ≡ b.span = ap (with_layout b.span) (sym b.explicit) in
    braced_among text.spans block b.span i b.among
    (subst (λ s. is_braced (s ∷ []) block i ≡ true) same (one_braced block b.span i b.left b.right b.lowest b.highest b.behind b.before))

-- ---- point 3
pub next_map : (P Q : Placed → Type 0) (ts : List Placed) → ((next : Placed) → P next → Q next) → Next P ts → Next Q ts
next_map P Q [] each h = tt
next_map P Q (next ∷ ts) each h = each next h

next_each : (Q : Placed → Type 0) (ts : List Placed) → ((next : Placed) → Q next) → Next Q ts
next_each Q [] each = tt
next_each Q (next ∷ ts) each = each next

goes_right : (first right : Bool) → (not first || right) ≡ true → first ≡ true → right ≡ true
goes_right true right e f = e
goes_right false right e f = let no : ⊥ = cc in elim no [ ]

not_left : (first left : Bool) → (first && left) ≡ false → first ≡ true → left ≡ false
not_left true left e f = e
not_left false left e f = let no : ⊥ = cc in elim no [ ]

at_or_right : (n col : ℕ) → n ≤ col → (n < col) ⊎ (col ≡ n)
at_or_right n col l = by (nat_lt n col) refl
  where
    by : (t : Bool) → nat_lt n col ≡ t → (n < col) ⊎ (col ≡ n)
    by true e = inl (ltb-true n col e)
    by false e = let m = ltb-false n col e in inr (omega arith)

by_least : (n col i start : ℕ) (begin : Bool) → (n < col) ⊎ (col ≡ n) → begin ≡ true → (n < col) ⊎ ((i ≡ start) ⊎ ((col ≡ n) × (begin ≡ true)))
by_least n col i start begin (inl l) b = inl l
by_least n col i start begin (inr e) b = inr (inr (e, b))

pub is_right : (text : Text) (block : BlockSpan) (n i : ℕ)
    → Right text n block.start (block.start + block.extent) i ⊎ (AtLeast text n i × (list_any (λ s. s == i) (piece_starts block.start block.pieces) ≡ true))
    → Next (StandsRight text.spans block n i) (drop i (lexemes text))
is_right text block n i (inl (inl goes)) =
    next_map (λ next. goes_on n next ≡ true) (StandsRight text.spans block n i) (drop i (lexemes text))
    (λ next g first braced. inl (ltb-true n next.pos.col (goes_right next.first (nat_lt n next.pos.col) g first))) goes
is_right text block n i (inl (inr b)) =
    next_each (StandsRight text.spans block n i) (drop i (lexemes text)) (λ next first braced. let both = sym braced ∙ stands_braced text block i b in let no : ⊥ = cc in elim no [ ])
is_right text block n i (inr x) =
    next_map (λ next. left_of n next ≡ false) (StandsRight text.spans block n i) (drop i (lexemes text))
    (λ next g first braced. by_least n next.pos.col i block.start (list_any (λ s. s == i) (piece_starts block.start block.pieces))
    (at_or_right n next.pos.col (ltb-false next.pos.col n (not_left next.first (nat_lt next.pos.col n) g first))) x.1) x.0

-- ---- inner columns exceed outer ones
goes_outwards : (first inner outer : Bool) → (inner ≡ true → outer ≡ true) → (not first || inner) ≡ true → (not first || outer) ≡ true
goes_outwards true inner outer h e = h e
goes_outwards false inner outer h e = refl

least_outwards : (first left outer : Bool) → (left ≡ false → outer ≡ true) → (first && left) ≡ false → (not first || outer) ≡ true
least_outwards true left outer h e = h e
least_outwards false left outer h e = refl

pub goes_down : (text : Text) (m n i : ℕ) → m < n → GoesAt text n i → GoesAt text m i
goes_down text m n i l =
    next_map (λ next. goes_on n next ≡ true) (λ next. goes_on m next ≡ true) (drop i (lexemes text))
    (λ next. goes_outwards next.first (nat_lt n next.pos.col) (nat_lt m next.pos.col) (λ e. let r = ltb-true n next.pos.col e in lt-ltb m next.pos.col (omega arith)))

pub least_down : (text : Text) (m n i : ℕ) → m < n → AtLeast text n i → GoesAt text m i
least_down text m n i l =
    next_map (λ next. left_of n next ≡ false) (λ next. goes_on m next ≡ true) (drop i (lexemes text))
    (λ next. least_outwards next.first (nat_lt next.pos.col n) (nat_lt m next.pos.col) (λ e. let r = ltb-false next.pos.col n e in lt-ltb m next.pos.col (omega arith)))

-- ---- how a block opens
abbrev column_opened : Opened → ℕ
column_opened (Opened.Implicit col) = col
column_opened Opened.Explicit = 0
column_opened Opened.Empty = 0

abbrev is_implicit : Opened → Bool
is_implicit (Opened.Implicit col) = true
is_implicit _ = false

abbrev is_empty : Opened → Bool
is_empty Opened.Empty = true
is_empty _ = false

opened_implicit : (brace right : Bool) (at col : ℕ) → (if brace then Opened.Explicit else (if right then Opened.Implicit at else Opened.Empty)) ≡ Opened.Implicit col → (right ≡ true) × (col ≡ at)
opened_implicit true right at col e = let h : false ≡ true = ap is_implicit e in let no : ⊥ = cc in elim no [ ]
opened_implicit false true at col e = (refl, sym (ap column_opened e))
opened_implicit false false at col e = let h : false ≡ true = ap is_implicit e in let no : ⊥ = cc in elim no [ ]

opened_empty : (brace right : Bool) (at : ℕ) → (if brace then Opened.Explicit else (if right then Opened.Implicit at else Opened.Empty)) ≡ Opened.Empty → right ≡ false
opened_empty true right at e = let h : false ≡ true = ap is_empty e in let no : ⊥ = cc in elim no [ ]
opened_empty false true at e = let h : false ≡ true = ap is_empty e in let no : ⊥ = cc in elim no [ ]
opened_empty false false at e = refl

pub opens_implicit : (m col : ℕ) (ts : List Placed) → opens m ts ≡ Opened.Implicit col → (m < col) × (col ≡ column_of ts)
opens_implicit m col [] e = let h : false ≡ true = ap is_implicit e in let no : ⊥ = cc in elim no [ ]
opens_implicit m col (next ∷ ts) e =
    let o = opened_implicit (is_open_brace (role next)) (nat_lt m next.pos.col) next.pos.col col e in
    let r = ltb-true m next.pos.col o.0 in (subst (λ c. m < c) (sym o.1) r, o.1)

pub opens_empty : (m : ℕ) (ts : List Placed) → opens m ts ≡ Opened.Empty → column_of ts ≤ m
opens_empty m [] e = omega arith
opens_empty m (next ∷ ts) e = ltb-false m next.pos.col (opened_empty (is_open_brace (role next)) (nat_lt m next.pos.col) next.pos.col e)

column_among : (spans : List BlockSpan) (i : ℕ) (placed : List Placed) → column_of placed ≡ column_of (placed_among spans i placed)
column_among spans i [] = refl
column_among spans i (next ∷ placed) = refl

pub column_in : (text : Text) (i : ℕ) → column_of (drop i text.placed) ≡ column_of (drop i (lexemes text))
column_in text i = column_among text.spans i (drop i text.placed) ∙ ap column_of (sym (lexemes_at text i))

-- ---- what is behind a block
ends_listed : (n : ℕ) (kind : BlockKind) (ending : Ending) (spans : List BlockSpan) (i : ℕ) (placed : List Placed)
    → ends_block n kind ending (mark_or (is_empty_at spans i) placed) ≡ true → ends_block n kind ending (placed_among spans i placed) ≡ true
ends_listed n kind ending spans i [] e = e
ends_listed n kind ending spans i (next ∷ placed) e = e

pub ends_in : (text : Text) (n : ℕ) (kind : BlockKind) (ending : Ending) (i : ℕ) (us : List Placed) → us ≡ seen text false i → ends_block n kind ending us ≡ true
    → ends_block n kind ending (drop i (lexemes text)) ≡ true
ends_in text n kind ending i us u e =
    subst (λ l. ends_block n kind ending l ≡ true) (sym (lexemes_at text i))
    (ends_listed n kind ending text.spans i (drop i text.placed) (subst (λ l. ends_block n kind ending l ≡ true) u e))
