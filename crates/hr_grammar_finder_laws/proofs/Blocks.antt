-- The blocks that are found are those that are read, if their parts are.
use Rattle.std.proofs.Common.{◌≡◌, ◌≤◌, ◌<◌, ℕ, zero, suc, Bool, true, false, not, ◌&&◌, List, [], ◌∷◌, length, refl, sym, ap, ◌∙◌, subst, inl, inr, arith}
use lib.Chars.{codes}
use Rattle.hr_base.specs.declared.lexeme.Ending.{Ending}
use Rattle.hr_base.specs.declared.lexeme.Item.{Item}
use Rattle.hr_rules.specs.declared.block.BlockKind.{BlockKind}
use Rattle.hr_rules.specs.declared.block.Opened.{Opened}
use Rattle.hr_rules.specs.declared.block.Placed.{Placed}
use Rattle.hr_rules.specs.Blocks.{mark, left_of, opens, starts_part, ends_block}
use Rattle.hr_tree.specs.declared.lists.Block.{Block}
use Rattle.hr_tree.specs.declared.lists.Layout.{Layout}
use Rattle.hr_tree.specs.declared.lists.Piece.{Piece}
use Rattle.hr_grammar.specs.Words.{IsSemicolon}
use Rattle.hr_grammar.specs.Nodes.{DeclPlace}
use Rattle.hr_grammar_cases.specs.Readings.{given}
use Rattle.hr_grammar_cases.specs.Readings as reading
use Rattle.hr_grammar_cases.specs.Blocks.{Parts, takes_semicolon, pieces_reading, braced_reading, implicit_reading, layout_reading, block_reading}
use Rattle.hr_grammar_finder_laws.specs.Ways.{Among, Way, Finder, gives, made_by, followed_by, ◌▶◌, one}
use Rattle.hr_grammar_finder_laws.specs.Tests.{is_special}
use Rattle.hr_grammar_finder_laws.specs.Blocks.{PartFinder, semicolon, ends, starting, semicolon_then, part_then, piece_ways, pieces_by, pieces, braced_ways, braced_by, braced, opened_as, implicit, without_braces, with_braces, block_ways, block}
use Rattle.hr_grammar_finder_laws.proofs.Ways.{Sound, Matches, is_sound, gives_sound, made_sound, made_found, on_sound_by, on_sound, found_on, followed_by_sound, followed_by_found, any_sound, chosen, among_map, if_among, among_if, both_are, are_both, one_matches, then_matches}
use Rattle.hr_grammar_finder_laws.proofs.Tests.{tests_special}
use Rattle.hr_grammar_finder_laws.proofs.Lists.{shorter, none_left, all_fit}
use Rattle.hr_grammar_finder_laws.proofs.Names.{one_shrinks}

-- the parts match, and take a lexeme or more
abbrev pub PartsMatch : {T : Type 0} → Parts T → PartFinder T → Type 0
PartsMatch {T} parts found = (n : ℕ) (place : DeclPlace) → Matches (λ (p : T × (DeclPlace × Ending)). parts n place p.1.0 p.0 p.1.1) (found n place)

abbrev pub PartsShrink : {T : Type 0} → Parts T → Type 0
PartsShrink {T} parts = (n : ℕ) (place next : DeclPlace) (part : T) (ending : Ending) (ts us : List Placed) → parts n place next part ending ts us → length us < length ts

is_false : (b : Bool) → not b ≡ true → b ≡ false
is_false true e = let never : ⊥ = cc in elim never [ ]
is_false false e = refl

not_false : (b : Bool) → b ≡ false → not b ≡ true
not_false true e = let never : ⊥ = cc in elim never [ ]
not_false false e = refl

semicolon_matches : (n : ℕ) → Matches (λ item. given (IsSemicolon item) (takes_semicolon n item)) (semicolon n)
semicolon_matches n = record { sound = found; complete = read }
  where
    found : (item : Item) (ts us : List Placed) → Among {T = Way Item} (item, us) (semicolon n ts) → given (IsSemicolon item) (takes_semicolon n item) ts us
    found item [] us h = elim h [ ]
    found item (next ∷ ts) us h =
        let k = if_among (item, us) (next.item, ts) (is_special (codes ";") next.item && not (left_of n next)) h in
        let b = both_are (is_special (codes ";") next.item) (not (left_of n next)) k.0 in (
          subst IsSemicolon (sym (ap (λ (w : Way Item). w.0) k.1)) ((tests_special (codes ";")).passes next.item b.0),
          (is_false (left_of n next) b.1, sym (ap (λ (w : Way Item). w.0) k.1), ap (λ (w : Way Item). w.1) k.1),
        )

    read : (item : Item) (ts us : List Placed) → given (IsSemicolon item) (takes_semicolon n item) ts us → Among {T = Way Item} (item, us) (semicolon n ts)
    read item [] us r = elim r.1 [ ]
    read item (next ∷ ts) us r =
        among_if (item, us) (next.item, ts) (is_special (codes ";") next.item && not (left_of n next))
        (are_both (is_special (codes ";") next.item) (not (left_of n next)) ((tests_special (codes ";")).passed next.item (subst IsSemicolon (sym r.1.1) r.0)) (not_false (left_of n next) r.1.0))
        (λ j. (sym r.1.1 j, r.1.2 j))

semicolon_shrinks : (n : ℕ) (item : Item) (ts us : List Placed) → takes_semicolon n item ts us → length us < length ts
semicolon_shrinks n item [] us t = elim t [ ]
semicolon_shrinks n item (next ∷ ts) us t = subst (λ k. length k < length (next ∷ ts)) (sym t.2) (just_one (length ts))
  where
    just_one : (k : ℕ) → k < suc k
    just_one k = omega arith

marked_length : (first : Bool) (ts : List Placed) → length (mark first ts) ≡ length ts
marked_length first [] = refl
marked_length first (next ∷ ts) = refl

-- the pieces of a block without braces
ends_sound : {T : Type 0} (parts : Parts T) (kind : BlockKind) (n : ℕ) (place : DeclPlace) (ending : Ending) → Sound (pieces_reading parts kind n place ending) (ends kind n ending)
ends_sound {T} parts kind n place ending = record {
  sound = λ x ts us h. let k = on_sound_by (ends_block n kind ending ts) (gives []) (x, us) ts h in by x ts us k.0 k.1;
}
  where
    by : (x : List (Piece T)) (ts us : List Placed) → ends_block n kind ending ts ≡ true → Among {T = Way (List (Piece T))} (x, us) (gives [] ts) → pieces_reading parts kind n place ending x ts us
    by x ts us e (inl f) = subst (λ (w : Way (List (Piece T))). pieces_reading parts kind n place ending w.0 ts w.1) (sym f) (e, refl)
    by x ts us e (inr h) = elim h [ ]

part_sound : {T : Type 0} (parts : Parts T) (found : PartFinder T) → PartsMatch parts found → (kind : BlockKind) (n : ℕ) (place : DeclPlace) (ending : Ending)
    (rest : DeclPlace → Ending → Finder (List (Piece T))) → ((next : DeclPlace) (end : Ending) → Sound (pieces_reading parts kind n next end) (rest next end))
    → Sound (pieces_reading parts kind n place ending) (made_by part_then (starting n ending (followed_by (found n place) (λ q. rest q.1.0 q.1.1))))
part_sound {T} parts found m kind n place ending rest s = made_sound part_then (record {
  sound = λ p ts us h.
      let k = on_sound_by (starts_part n ending ts) (followed_by (found n place) (λ q. rest q.1.0 q.1.1)) (p, us) (mark false ts) h in (
        mark false ts,
        (k.0, refl),
        (
          p.0.1.0,
          p.0.1.1,
          (followed_by_sound {R = λ (q : T × (DeclPlace × Ending)). parts n place q.1.0 q.0 q.1.1} {Q = λ (q : T × (DeclPlace × Ending)). pieces_reading parts kind n q.1.0 q.1.1}
              (is_sound (m n place)) (λ q. s q.1.0 q.1.1)).sound p (mark false ts) us k.1,
        ),
      );
})

pieces_sound : {T : Type 0} (parts : Parts T) (found : PartFinder T) → PartsMatch parts found → (kind : BlockKind) (n k : ℕ) (place : DeclPlace) (ending : Ending)
    → Sound (pieces_reading parts kind n place ending) (pieces_by found kind n k place ending)
pieces_sound parts found m kind n zero place ending = ends_sound parts kind n place ending
pieces_sound {T} parts found m kind n (suc k) place ending =
    any_sound (piece_ways found kind n place ending (pieces_by found kind n k)) (
      ends_sound parts kind n place ending,
      (
        made_sound semicolon_then (followed_by_sound {R = λ item. given (IsSemicolon item) (takes_semicolon n item)} {Q = λ item. pieces_reading parts kind n place Ending.Nothing}
            (is_sound (semicolon_matches n)) (λ item. pieces_sound parts found m kind n k place Ending.Nothing)),
        (part_sound parts found m kind n place ending (pieces_by found kind n k) (λ next end. pieces_sound parts found m kind n k next end), tt),
      ),
    )

ends_found : (T : Type 0) (kind : BlockKind) (n : ℕ) (ending : Ending) (ts us : List Placed) → ends_block n kind ending ts ≡ true → us ≡ ts
    → Among {T = Way (List (Piece T))} ([], us) (ends kind n ending ts)
ends_found T kind n ending ts us e f = found_on (ends_block n kind ending ts) (gives []) ([], us) ts e (inl (λ j. ([], f j)))

marked_fits : (k : ℕ) (ts vs us : List Placed) → vs ≡ mark false ts → length us < length vs → length ts ≤ suc k → length us ≤ k
marked_fits k ts vs us e l m = let f : length vs ≡ length ts = ap length e ∙ marked_length false ts in omega arith

none_marked : {A : Type 0} (ts vs us : List Placed) → vs ≡ mark false ts → length us < length vs → length ts ≤ zero → A
none_marked ts vs us e l m = let f : length vs ≡ length ts = ap length e ∙ marked_length false ts in absurd (omega arith)

pieces_complete : {T : Type 0} (parts : Parts T) (found : PartFinder T) → PartsMatch parts found → PartsShrink parts → (kind : BlockKind) (n k : ℕ) (place : DeclPlace) (ending : Ending)
    (xs : List (Piece T)) (ts us : List Placed) → length ts ≤ k → pieces_reading parts kind n place ending xs ts us
    → Among {T = Way (List (Piece T))} (xs, us) (pieces_by found kind n k place ending ts)
pieces_complete {T} parts found m less kind n zero place ending [] ts us l r = ends_found T kind n ending ts us r.0 r.1
pieces_complete parts found m less kind n zero place ending (Piece.Semicolon item ∷ xs) ts us l r = none_left (length r.0) (length ts) (semicolon_shrinks n item ts r.0 r.1.1) l
pieces_complete parts found m less kind n zero place ending (Piece.Part part ∷ xs) ts us l r =
    none_marked ts r.0 r.2.2.0 r.1.1 (less n place r.2.0 part r.2.1 r.0 r.2.2.0 r.2.2.1) l
pieces_complete {T} parts found m less kind n (suc k) place ending [] ts us l r =
    chosen (piece_ways found kind n place ending (pieces_by found kind n k)) 0 _ ts us (ends_found T kind n ending ts us r.0 r.1)
pieces_complete {T} parts found m less kind n (suc k) place ending (Piece.Semicolon item ∷ xs) ts us l r =
    chosen (piece_ways found kind n place ending (pieces_by found kind n k)) 1 _ ts us
    (made_found semicolon_then (semicolon n ▶ pieces_by found kind n k place Ending.Nothing) (item, xs) ts us
    (followed_by_found (semicolon n) (λ x. pieces_by found kind n k place Ending.Nothing) item xs ts r.0 us ((semicolon_matches n).complete item ts r.0 r.1)
    (pieces_complete parts found m less kind n k place Ending.Nothing xs r.0 us (shorter (length r.0) (length ts) k (semicolon_shrinks n item ts r.0 r.1.1) l) r.2)))
pieces_complete {T} parts found m less kind n (suc k) place ending (Piece.Part part ∷ xs) ts us l r =
    chosen (piece_ways found kind n place ending (pieces_by found kind n k)) 2 _ ts us
    (made_found part_then (starting n ending (followed_by (found n place) (λ q. pieces_by found kind n k q.1.0 q.1.1))) ((part, (r.2.0, r.2.1)), xs) ts us
    (found_on (starts_part n ending ts) (followed_by (found n place) (λ q. pieces_by found kind n k q.1.0 q.1.1)) (((part, (r.2.0, r.2.1)), xs), us) (mark false ts) r.1.0
    (followed_by_found (found n place) (λ q. pieces_by found kind n k q.1.0 q.1.1) (part, (r.2.0, r.2.1)) xs (mark false ts) r.2.2.0 us
    ((m n place).complete (part, (r.2.0, r.2.1)) (mark false ts) r.2.2.0 (subst (λ vs. parts n place r.2.0 part r.2.1 vs r.2.2.0) r.1.1 r.2.2.1))
    (pieces_complete parts found m less kind n k r.2.0 r.2.1 xs r.2.2.0 us (marked_fits k ts r.0 r.2.2.0 r.1.1 (less n place r.2.0 part r.2.1 r.0 r.2.2.0 r.2.2.1) l) r.2.2.2))))

pieces_match : {T : Type 0} (parts : Parts T) (found : PartFinder T) → PartsMatch parts found → PartsShrink parts → (kind : BlockKind) (n : ℕ) (place : DeclPlace) (ending : Ending)
    → Matches (pieces_reading parts kind n place ending) (pieces found kind n place ending)
pieces_match parts found m less kind n place ending = record {
  sound = λ xs ts us h. (pieces_sound parts found m kind n (length ts) place ending).sound xs ts us h;
  complete = λ xs ts us r. pieces_complete parts found m less kind n (length ts) place ending xs ts us (all_fit (length ts)) r;
}

-- between braces
braced_sound : {T : Type 0} (parts : Parts T) (found : PartFinder T) → PartsMatch parts found → (k : ℕ) (place : DeclPlace) (begins : Bool)
    → Sound (braced_reading parts place begins) (braced_by found k place begins)
braced_sound parts found m zero place begins = gives_sound (λ ts. refl)
braced_sound {T} parts found m (suc k) place begins =
    any_sound (braced_ways found place begins (braced_by found k)) (
      gives_sound (λ ts. refl),
      (
        made_sound semicolon_then (followed_by_sound {R = reading.one 0 IsSemicolon} {Q = λ item. braced_reading parts place true} (is_sound (one_matches 0 (tests_special (codes ";"))))
            (λ item. braced_sound parts found m k place true)),
        (
          on_sound begins (λ e. made_sound part_then (record {
            sound = λ p ts us h. (
              e,
              (
                p.0.1.0,
                p.0.1.1,
                (followed_by_sound {R = λ (q : T × (DeclPlace × Ending)). parts 0 place q.1.0 q.0 q.1.1} {Q = λ (q : T × (DeclPlace × Ending)). braced_reading parts q.1.0 false}
                    (is_sound (m 0 place)) (λ q. braced_sound parts found m k q.1.0 false)).sound p ts us h,
              ),
            );
          })),
          tt,
        ),
      ),
    )

braced_complete : {T : Type 0} (parts : Parts T) (found : PartFinder T) → PartsMatch parts found → PartsShrink parts → (k : ℕ) (place : DeclPlace) (begins : Bool)
    (xs : List (Piece T)) (ts us : List Placed) → length ts ≤ k → braced_reading parts place begins xs ts us → Among {T = Way (List (Piece T))} (xs, us) (braced_by found k place begins ts)
braced_complete parts found m less zero place begins [] ts us l r = inl (λ j. ([], r j))
braced_complete parts found m less zero place begins (Piece.Semicolon item ∷ xs) ts us l r = none_left (length r.0) (length ts) (one_shrinks 0 IsSemicolon item ts r.0 r.1) l
braced_complete parts found m less zero place begins (Piece.Part part ∷ xs) ts us l r =
    none_left (length r.1.2.0) (length ts) (less 0 place r.1.0 part r.1.1 ts r.1.2.0 r.1.2.1) l
braced_complete parts found m less (suc k) place begins [] ts us l r = chosen (braced_ways found place begins (braced_by found k)) 0 _ ts us (inl (λ j. ([], r j)))
braced_complete parts found m less (suc k) place begins (Piece.Semicolon item ∷ xs) ts us l r =
    chosen (braced_ways found place begins (braced_by found k)) 1 _ ts us
    (made_found semicolon_then (one 0 (is_special (codes ";")) ▶ braced_by found k place true) (item, xs) ts us
    (followed_by_found (one 0 (is_special (codes ";"))) (λ x. braced_by found k place true) item xs ts r.0 us ((one_matches 0 (tests_special (codes ";"))).complete item ts r.0 r.1)
    (braced_complete parts found m less k place true xs r.0 us (shorter (length r.0) (length ts) k (one_shrinks 0 IsSemicolon item ts r.0 r.1) l) r.2)))
braced_complete parts found m less (suc k) place begins (Piece.Part part ∷ xs) ts us l r =
    chosen (braced_ways found place begins (braced_by found k)) 2 _ ts us
    (found_on begins (made_by part_then (followed_by (found 0 place) (λ q. braced_by found k q.1.0 false))) (Piece.Part part ∷ xs, us) ts r.0
    (made_found part_then (followed_by (found 0 place) (λ q. braced_by found k q.1.0 false)) ((part, (r.1.0, r.1.1)), xs) ts us
    (followed_by_found (found 0 place) (λ q. braced_by found k q.1.0 false) (part, (r.1.0, r.1.1)) xs ts r.1.2.0 us
    ((m 0 place).complete (part, (r.1.0, r.1.1)) ts r.1.2.0 r.1.2.1)
    (braced_complete parts found m less k r.1.0 false xs r.1.2.0 us (shorter (length r.1.2.0) (length ts) k (less 0 place r.1.0 part r.1.1 ts r.1.2.0 r.1.2.1) l) r.1.2.2))))

braced_match : {T : Type 0} (parts : Parts T) (found : PartFinder T) → PartsMatch parts found → PartsShrink parts → (place : DeclPlace) (begins : Bool)
    → Matches (braced_reading parts place begins) (braced found place begins)
braced_match parts found m less place begins = record {
  sound = λ xs ts us h. (braced_sound parts found m (length ts) place begins).sound xs ts us h;
  complete = λ xs ts us r. braced_complete parts found m less (length ts) place begins xs ts us (all_fit (length ts)) r;
}

-- a block without braces, by how it opens
implicit_found : {T : Type 0} (parts : Parts T) (found : PartFinder T) → PartsMatch parts found → PartsShrink parts → (kind : BlockKind) (m : ℕ) (place : DeclPlace) (opened : Opened)
    (p : ℕ × List (Piece T)) (ts us : List Placed) → opens m ts ≡ opened → Among {T = Way (ℕ × List (Piece T))} (p, us) (opened_as found kind place opened ts)
    → implicit_reading parts kind m place p.0 p.1 ts us
implicit_found {T} parts found q less kind m place Opened.Empty p ts us e (inl f) =
    inl (e, ap (λ (w : Way (ℕ × List (Piece T))). w.0.1) f, ap (λ (w : Way (ℕ × List (Piece T))). w.0.0) f, ap (λ (w : Way (ℕ × List (Piece T))). w.1) f)
implicit_found parts found q less kind m place Opened.Empty p ts us e (inr h) = elim h [ ]
implicit_found {T} parts found q less kind m place (Opened.Implicit col) p ts us e h =
    let k = among_map (λ (way : Way (List (Piece T))). ((col, way.0), way.1)) (pieces found kind col place Ending.Nothing ts) (p, us) h in
    subst (λ (w : Way (ℕ × List (Piece T))). implicit_reading parts kind m place w.0.0 w.0.1 ts w.1) (sym k.1)
    (inr (e, (pieces_match parts found q less kind col place Ending.Nothing).sound k.0.0 ts k.0.1 k.2))
implicit_found parts found q less kind m place Opened.Explicit p ts us e h = elim h [ ]

implicit_complete : {T : Type 0} (parts : Parts T) (found : PartFinder T) → PartsMatch parts found → PartsShrink parts → (kind : BlockKind) (m : ℕ) (place : DeclPlace)
    (p : ℕ × List (Piece T)) (ts us : List Placed) → implicit_reading parts kind m place p.0 p.1 ts us → Among {T = Way (ℕ × List (Piece T))} (p, us) (implicit found kind m place ts)
implicit_complete {T} parts found q less kind m place p ts us (inl r) =
    subst (λ o. Among {T = Way (ℕ × List (Piece T))} (p, us) (opened_as found kind place o ts)) (sym r.0) (inl (λ j. ((r.2 j, r.1 j), r.3 j)))
implicit_complete {T} parts found q less kind m place p ts us (inr r) =
    subst (λ o. Among {T = Way (ℕ × List (Piece T))} (p, us) (opened_as found kind place o ts)) (sym r.0)
    (made_found (λ (xs : List (Piece T)). (p.0, xs)) (pieces found kind p.0 place Ending.Nothing) p.1 ts us ((pieces_match parts found q less kind p.0 place Ending.Nothing).complete p.1 ts us r.1))

implicit_match : {T : Type 0} (parts : Parts T) (found : PartFinder T) → PartsMatch parts found → PartsShrink parts → (kind : BlockKind) (m : ℕ) (place : DeclPlace)
    → Matches (λ (p : ℕ × List (Piece T)). implicit_reading parts kind m place p.0 p.1) (implicit found kind m place)
implicit_match parts found q less kind m place = record {
  sound = λ p ts us h. implicit_found parts found q less kind m place (opens m ts) p ts us refl h;
  complete = λ p ts us r. implicit_complete parts found q less kind m place p ts us r;
}

explicit_match : {T : Type 0} (parts : Parts T) (found : PartFinder T) → PartsMatch parts found → PartsShrink parts → (kind : BlockKind) (m : ℕ) (place : DeclPlace)
    → Matches (λ (p : Item × (List (Piece T) × Item)). layout_reading parts kind m place (Layout.Explicit p.0 p.1.1) p.1.0)
    (one 0 (is_special (codes "{")) ▶ braced found place true ▶ one 0 (is_special (codes "}")))
explicit_match parts found q less kind m place =
    then_matches (one_matches 0 (tests_special (codes "{"))) (then_matches (braced_match parts found q less place true) (one_matches 0 (tests_special (codes "}"))))

block_complete : {T : Type 0} (parts : Parts T) (found : PartFinder T) → PartsMatch parts found → PartsShrink parts → (kind : BlockKind) (m : ℕ) (place : DeclPlace) (layout : Layout)
    (xs : List (Piece T)) (ts us : List Placed) → layout_reading parts kind m place layout xs ts us
    → Among {T = Way (Block T)} (record { layout = layout; pieces = xs }, us) (block found kind m place ts)
block_complete parts found q less kind m place (Layout.Implicit col) xs ts us r =
    chosen (block_ways found kind m place) 0 _ ts us
    (made_found without_braces (implicit found kind m place) (col, xs) ts us ((implicit_match parts found q less kind m place).complete (col, xs) ts us r))
block_complete parts found q less kind m place (Layout.Explicit left right) xs ts us r =
    chosen (block_ways found kind m place) 1 _ ts us
    (made_found with_braces (one 0 (is_special (codes "{")) ▶ braced found place true ▶ one 0 (is_special (codes "}"))) (left, (xs, right)) ts us
    ((explicit_match parts found q less kind m place).complete (left, (xs, right)) ts us r))

pub block_matches : {T : Type 0} (parts : Parts T) (found : PartFinder T) → PartsMatch parts found → PartsShrink parts → (kind : BlockKind) (m : ℕ) (place : DeclPlace)
    → Matches (block_reading parts kind m place) (block found kind m place)
block_matches parts found q less kind m place = record {
  sound = (any_sound {R = block_reading parts kind m place} (block_ways found kind m place)
      (made_sound without_braces (is_sound (implicit_match parts found q less kind m place)), (made_sound with_braces (is_sound (explicit_match parts found q less kind m place)), tt))).sound;
  complete = λ x ts us r. block_complete parts found q less kind m place x.layout x.pieces ts us r;
}
