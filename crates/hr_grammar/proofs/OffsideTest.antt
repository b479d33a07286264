-- A test of the layout rule that computes: what passes it stands as the rule says.
use Rattle.std.proofs.Common.{◌≡◌, ◌⊎◌, ◌≤◌, ◌<◌, ℕ, zero, suc, ◌+◌, ◌==◌, nat_lt, not, ◌||◌, ◌&&◌, Bool, true, false, List, [], ◌∷◌, drop, refl, sym, ap, ◌∙◌, subst, inl, inr, arith, ltb-false, drop-drop}
use Rattle.std.specs.List.{AllByRecursion, list_any}
use Rattle.std.proofs.lemmas.Bool.{ltb-true, lt-ltb, eqb-true}
use Rattle.hr_rules.specs.declared.block.Placed.{Placed}
use Rattle.hr_rules.specs.Blocks.{at_margin, ends_block}
use Rattle.hr_tree.specs.declared.lists.Layout.{Layout}
use Rattle.hr_grammar.specs.Spans.{BlockSpan, Stretch}
use Rattle.hr_grammar.specs.Offside.{column_of, IsAtMargin, undivided, piece_starts, is_braced, StandsRight, Next, IsOffside, StandsAs, StandsWell}
use Rattle.hr_grammar.proofs.Tables.{both_true}

abbrev stands_right : List BlockSpan → BlockSpan → ℕ → ℕ → Placed → Bool
stands_right spans block n i next =
    not next.first || (is_braced spans block i || (nat_lt n next.pos.col || ((i == block.start) || ((next.pos.col == n) && list_any (λ s. s == i) (piece_starts block.start block.pieces)))))

one_of : (f b l a c d : Bool) → f ≡ true → b ≡ false → (not f || (b || (l || (a || (c && d))))) ≡ true → (l ≡ true) ⊎ ((a ≡ true) ⊎ ((c ≡ true) × (d ≡ true)))
one_of false b l a c d f e r = let no : ⊥ = cc in elim no [ ]
one_of true true l a c d f e r = let no : ⊥ = cc in elim no [ ]
one_of true false true a c d f e r = inl refl
one_of true false false true c d f e r = inr (inl refl)
one_of true false false false true true f e r = inr (inr (refl, refl))
one_of true false false false true false f e r = let no : ⊥ = cc in elim no [ ]
one_of true false false false false d f e r = let no : ⊥ = cc in elim no [ ]

stands_right_is : (spans : List BlockSpan) (block : BlockSpan) (n i : ℕ) (next : Placed) → stands_right spans block n i next ≡ true → StandsRight spans block n i next
stands_right_is spans block n i next r first braced = by (one_of next.first (is_braced spans block i) (nat_lt n next.pos.col) (i == block.start) (next.pos.col == n) (list_any (λ s. s == i) (piece_starts block.start block.pieces)) first braced r)
  where
    by : (nat_lt n next.pos.col ≡ true) ⊎ (((i == block.start) ≡ true) ⊎ (((next.pos.col == n) ≡ true) × (list_any (λ s. s == i) (piece_starts block.start block.pieces) ≡ true)))
        → (n < next.pos.col) ⊎ ((i ≡ block.start) ⊎ ((next.pos.col ≡ n) × (list_any (λ s. s == i) (piece_starts block.start block.pieces) ≡ true)))
    by (inl l) = inl (ltb-true n next.pos.col l)
    by (inr (inl a)) = inr (inl (eqb-true i block.start a))
    by (inr (inr both)) = inr (inr (eqb-true next.pos.col n both.0, both.1))

abbrev all_right : List BlockSpan → BlockSpan → ℕ → ℕ → ℕ → List Placed → Bool
all_right spans block n i zero rest = true
all_right spans block n i (suc k) [] = true
all_right spans block n i (suc k) (next ∷ rest) = stands_right spans block n i next && all_right spans block n (suc i) k rest

none_left : (i j : ℕ) (ts : List Placed) → drop i ts ≡ [] → i ≤ j → drop j ts ≡ []
none_left zero zero ts e l = e
none_left zero (suc j) [] e l = refl
none_left zero (suc j) (next ∷ ts) e l = let no : ⊥ = cc in elim no [ ]
none_left (suc i) zero ts e l = let no : ⊥ = omega arith in elim no [ ]
none_left (suc i) (suc j) [] e l = refl
none_left (suc i) (suc j) (next ∷ ts) e l = none_left i j ts e (omega arith)

-- what is tested of lexeme after lexeme is true of each
all_right_is : (spans : List BlockSpan) (lexemes : List Placed) (block : BlockSpan) (n i k : ℕ) (rest : List Placed) → rest ≡ drop i lexemes → all_right spans block n i k rest ≡ true
    → (j : ℕ) → i ≤ j → j < i + k → Next (StandsRight spans block n j) (drop j lexemes)
all_right_is spans lexemes block n i zero rest e r j l h = let no : ⊥ = omega arith in elim no [ ]
all_right_is spans lexemes block n i (suc k) [] e r j l h = subst (Next (StandsRight spans block n j)) (sym (none_left i j lexemes (sym e) l)) tt
all_right_is spans lexemes block n i (suc k) (next ∷ rest) e r j l h =
    by (nat_lt i j) refl (all_right_is spans lexemes block n (suc i) k rest behind both.1)
  where
    both : (stands_right spans block n i next ≡ true) × (all_right spans block n (suc i) k rest ≡ true)
    both = both_true (stands_right spans block n i next) (all_right spans block n (suc i) k rest) r

    one_more : (m : ℕ) → m + 1 ≡ suc m
    one_more m = omega arith

    behind : rest ≡ drop (suc i) lexemes
    behind = ap (λ (ts : List Placed). drop 1 ts) e ∙ drop-drop 1 i lexemes ∙ ap (λ m. drop m lexemes) (one_more i)

    here : j ≡ i → Next (StandsRight spans block n j) (drop j lexemes)
    here same = subst (λ m. Next (StandsRight spans block n m) (drop m lexemes)) (sym same) (subst (Next (StandsRight spans block n i)) e (stands_right_is spans block n i next both.0))

    by : (t : Bool) → nat_lt i j ≡ t → ((m : ℕ) → suc i ≤ m → m < suc i + k → Next (StandsRight spans block n m) (drop m lexemes)) → Next (StandsRight spans block n j) (drop j lexemes)
    by true s later = let lt = ltb-true i j s in later j (omega arith) (omega arith)
    by false s later = let ge = ltb-false i j s in here (omega arith)

abbrev is_at_margin : ℕ → List Placed → Bool
is_at_margin n [] = false
is_at_margin n (next ∷ rest) = at_margin n next

is_at_margin_is : (n : ℕ) (rest : List Placed) → is_at_margin n rest ≡ true → IsAtMargin n rest
is_at_margin_is n [] r = let no : ⊥ = cc in elim no [ ]
is_at_margin_is n (next ∷ rest) r = r

abbrev at_margins : ℕ → List Placed → List ℕ → Bool
at_margins n lexemes [] = true
at_margins n lexemes (i ∷ numbers) = is_at_margin n (drop i lexemes) && at_margins n lexemes numbers

at_margins_are : (n : ℕ) (lexemes : List Placed) (numbers : List ℕ) → at_margins n lexemes numbers ≡ true → AllByRecursion (λ i. IsAtMargin n (drop i lexemes)) numbers
at_margins_are n lexemes [] r = tt
at_margins_are n lexemes (i ∷ numbers) r =
    let both = both_true (is_at_margin n (drop i lexemes)) (at_margins n lexemes numbers) r in
    (is_at_margin_is n (drop i lexemes) both.0, at_margins_are n lexemes numbers both.1)

abbrev are_none : List Stretch → Bool
are_none [] = true
are_none (piece ∷ pieces) = false

are_none_is : (pieces : List Stretch) → are_none pieces ≡ true → pieces ≡ []
are_none_is [] r = refl
are_none_is (piece ∷ pieces) r = let no : ⊥ = cc in elim no [ ]

-- the points of a block that has lexemes, and of one that is left empty
abbrev has_points : List BlockSpan → List Placed → BlockSpan → ℕ → Bool
has_points spans lexemes block n =
    at_margins n lexemes (undivided block.start block.pieces)
    && (all_right spans block n block.start block.extent (drop block.start lexemes) && ends_block n block.kind block.ending (drop (block.start + block.extent) lexemes))

abbrev is_offside : List BlockSpan → List Placed → BlockSpan → ℕ → Bool
is_offside spans lexemes block n =
    (n == column_of (drop block.start lexemes)) && ((not (nat_lt block.enclosing n) && are_none block.pieces) || (nat_lt block.enclosing n && has_points spans lexemes block n))

empty_or : (l e p : Bool) → ((not l && e) || (l && p)) ≡ true → (l ≡ false → e ≡ true) × (l ≡ true → p ≡ true)
empty_or true e true r = (λ f. let no : ⊥ = cc in elim no [ ], λ t. refl)
empty_or true e false r = let no : ⊥ = cc in elim no [ ]
empty_or false true p r = (λ f. refl, λ t. let no : ⊥ = cc in elim no [ ])
empty_or false false p r = let no : ⊥ = cc in elim no [ ]

not_less : (a b : ℕ) → b ≤ a → nat_lt a b ≡ false
not_less a b h = by (nat_lt a b) refl
  where
    by : (t : Bool) → nat_lt a b ≡ t → t ≡ false
    by false e = refl
    by true e = let l : a < b = ltb-true a b e in let no : ⊥ = omega (arith, l, h) in elim no [ ]

is_offside_is : (spans : List BlockSpan) (lexemes : List Placed) (block : BlockSpan) (n : ℕ) → is_offside spans lexemes block n ≡ true → IsOffside spans lexemes block n
is_offside_is spans lexemes block n r =
    let both = both_true (n == column_of (drop block.start lexemes)) ((not (nat_lt block.enclosing n) && are_none block.pieces) || (nat_lt block.enclosing n && has_points spans lexemes block n)) r in
    let ways = empty_or (nat_lt block.enclosing n) (are_none block.pieces) (has_points spans lexemes block n) both.1 in
    let points = λ (l : block.enclosing < n). both_true (at_margins n lexemes (undivided block.start block.pieces))
    (all_right spans block n block.start block.extent (drop block.start lexemes) && ends_block n block.kind block.ending (drop (block.start + block.extent) lexemes)) (ways.1 (lt-ltb block.enclosing n l)) in
    let others = λ (l : block.enclosing < n). both_true (all_right spans block n block.start block.extent (drop block.start lexemes)) (ends_block n block.kind block.ending (drop (block.start + block.extent) lexemes)) (points l).1 in
    record {
      column = eqb-true n (column_of (drop block.start lexemes)) both.0;
      empty = λ h. are_none_is block.pieces (ways.0 (not_less block.enclosing n h));
      parts = λ l. at_margins_are n lexemes (undivided block.start block.pieces) (points l).0;
      stands = λ l. all_right_is spans lexemes block n block.start block.extent (drop block.start lexemes) refl (others l).0;
      ends = λ l. (others l).1;
    }

abbrev stands_as : List BlockSpan → List Placed → BlockSpan → Layout → Bool
stands_as spans lexemes block (Layout.Implicit col) = is_offside spans lexemes block col
stands_as spans lexemes block (Layout.Explicit left right) = true

stands_as_is : (spans : List BlockSpan) (lexemes : List Placed) (block : BlockSpan) (layout : Layout) → stands_as spans lexemes block layout ≡ true → StandsAs spans lexemes block layout
stands_as_is spans lexemes block (Layout.Implicit col) r = is_offside_is spans lexemes block col r
stands_as_is spans lexemes block (Layout.Explicit left right) r = tt

abbrev pub all_stand_well : List BlockSpan → List Placed → List BlockSpan → Bool
all_stand_well spans lexemes [] = true
all_stand_well spans lexemes (block ∷ blocks) = stands_as spans lexemes block block.layout && all_stand_well spans lexemes blocks

pub all_stand_well_is : (spans : List BlockSpan) (lexemes : List Placed) (blocks : List BlockSpan) → all_stand_well spans lexemes blocks ≡ true → AllByRecursion (StandsWell spans lexemes) blocks
all_stand_well_is spans lexemes [] r = tt
all_stand_well_is spans lexemes (block ∷ blocks) r =
    let both = both_true (stands_as spans lexemes block block.layout) (all_stand_well spans lexemes blocks) r in
    (stands_as_is spans lexemes block block.layout both.0, all_stand_well_is spans lexemes blocks both.1)
