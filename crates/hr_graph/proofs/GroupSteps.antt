-- The least nodes of the components, and their members, one node at a time.
use Rattle.std.proofs.Common.{◌≡◌, ◌≢◌, ◌+◌, ◌<◌, ◌≤◌, ◌++◌, ◌∷◌, ℕ, [], List, Option, Some, None, length, take, get_or, set, replicate, arith, sym, ◌∙◌, ap, subst, refl, inl, inr}
use Rattle.std.specs.Prelude.{Contains, unwrap_or}
use Rattle.std.specs.List.Sorted.{IsStrictlyIncreasing}
use Rattle.std.proofs.lemmas.Bool.{cases_eq, cases_lt}
use Rattle.std.proofs.lemmas.List.{length_push, length-set, length-replicate, length-take-le, get_or_push, get_or_append_left, get_or-set_same, get_or-set_other, get_or-replicate, get_or_past, take_more, get_or_read}
use Rattle.std.proofs.lemmas.List.Elements.{Contains-push, Contains-get_or}
use Rattle.hr_graph.specs.Groups.{IsLeastOf, AreLeasts, AreLinks, AreGathered}
use Rattle.hr_graph.proofs.Members.{contains_none, contains_more, contains_kept, at_set}
use Rattle.hr_graph.proofs.RowLemmas.{empty_row}
use Rattle.hr_graph.proofs.StrongSteps.{at_push}

-- the first node of each label below a node, and the least ones so far
pub record AreFirsts (labels : List ℕ) (i : ℕ) (first : List (Option ℕ)) (leasts : List ℕ) : Type 0 where
  pub long : length first ≡ length labels
  pub known : (w : ℕ) → w < i → (f : ℕ) × (get_or first (get_or labels w 0) None ≡ Some f) × (f ≤ w)
  pub sound : (l f : ℕ) → get_or first l None ≡ Some f → (get_or labels f 0 ≡ l) × (f < i)
  pub leasts_long : length leasts ≡ i
  pub each : (v : ℕ) → v < i → IsLeastOf labels v (get_or leasts v 0)

no_first : (n l f : ℕ) → get_or (replicate n None) l None ≡ Some f → ⊥
no_first n l f is = elim (cases_lt l n) [
  | inl lt ↦ let clash : ◌≡◌ {A = Option ℕ} None (Some f) = sym (get_or-replicate n l None None lt) ∙ is in cc
  | inr ge ↦ let clash : ◌≡◌ {A = Option ℕ} None (Some f) = sym (get_or_past (replicate n None) l None (omega (arith, length-replicate n (let o : Option ℕ = None in o), ge))) ∙ is in cc
]

pub no_firsts : (labels : List ℕ) (n : ℕ) (first : List (Option ℕ)) (leasts : List ℕ) → first ≡ replicate n None → n ≡ length labels → leasts ≡ [] → AreFirsts labels 0 first leasts
no_firsts labels n first leasts is long none = record {
  long = ap length is ∙ length-replicate n None ∙ long;
  known = λ w lt. absurd (omega (arith, lt));
  sound = λ l f at. absurd (no_first n l f (sym (ap (λ xs. get_or xs l None) is) ∙ at));
  leasts_long = ap length none;
  each = λ v lt. absurd (omega (arith, lt));
}

some_is : (j k : ℕ) → ◌≡◌ {A = Option ℕ} (Some j) (Some k) → j ≡ k
some_is j k e = cc

-- the node at i has this least one
least_now : (labels : List ℕ) (i : ℕ) (first : List (Option ℕ)) (leasts : List ℕ) (o : Option ℕ) → AreFirsts labels i first leasts → get_or first (get_or labels i 0) None ≡ o → IsLeastOf labels i (unwrap_or o i)
least_now labels i first leasts None keeps is = record {
  same = refl;
  below = omega arith;
  least_of = λ w w_in same. elim (cases_lt w i) [
    | inl lt ↦
        let k : (f : ℕ) × (get_or first (get_or labels w 0) None ≡ Some f) × (f ≤ w) = keeps.known w lt in
        let clash : ◌≡◌ {A = Option ℕ} None (Some k.0) = sym is ∙ ap (λ l. get_or first l None) (sym same) ∙ k.1 in cc
    | inr ge ↦ ge
  ];
}
least_now labels i first leasts (Some f) keeps is =
    let s : (get_or labels f 0 ≡ get_or labels i 0) × (f < i) = keeps.sound (get_or labels i 0) f is in
    record {
      same = s.0;
      below = omega (arith, s.1);
      least_of = λ w w_in same. elim (cases_lt w i) [
        | inl lt ↦
            let k : (g : ℕ) × (get_or first (get_or labels w 0) None ≡ Some g) × (g ≤ w) = keeps.known w lt in
            let e : f ≡ k.0 = some_is f k.0 (sym is ∙ ap (λ l. get_or first l None) (sym same) ∙ k.1) in omega (arith, k.2)
        | inr ge ↦ omega (arith, s.1)
      ];
    }

pub firsts_more : (labels : List ℕ) (i : ℕ) (first after : List (Option ℕ)) (leasts grown : List ℕ) (least : ℕ) → AreFirsts labels i first leasts → i < length labels → get_or labels i 0 < length labels
    → least ≡ unwrap_or (get_or first (get_or labels i 0) None) i → after ≡ set first (get_or labels i 0) (Some least) → grown ≡ leasts ++ least ∷ []
    → AreFirsts labels (i + 1) after grown
firsts_more labels i first after leasts grown least keeps within label_in is after_is grown_is =
    let l : ℕ = get_or labels i 0 in
    let now : IsLeastOf labels i least = subst (IsLeastOf labels i) (sym is) (least_now labels i first leasts (get_or first l None) keeps refl) in
    let new : get_or after l None ≡ Some least = ap (λ xs. get_or xs l None) after_is ∙ get_or-set_same first l (Some least) None (omega (arith, keeps.long)) in
    let other : (m : ℕ) → (m ≡ l → ⊥) → get_or after m None ≡ get_or first m None = λ m ne. ap (λ xs. get_or xs m None) after_is ∙ get_or-set_other first l m (Some least) None ne in
    record {
      long = ap length after_is ∙ length-set first l (Some least) ∙ keeps.long;
      known = λ w lt. elim (cases_eq (get_or labels w 0) l) [
        | inl e ↦ (least, ap (λ m. get_or after m None) e ∙ new, now.least_of w (omega arith) e)
        | inr ne ↦ elim (cases_lt w i) [
          | inl lt ↦ let k : (f : ℕ) × (get_or first (get_or labels w 0) None ≡ Some f) × (f ≤ w) = keeps.known w lt in (k.0, other (get_or labels w 0) ne ∙ k.1, k.2)
          | inr ge ↦ let same : w ≡ i = omega arith in absurd (ne (ap (λ w. get_or labels w 0) same))
        ]
      ];
      sound = λ m f at. elim (cases_eq m l) [
        | inl e ↦
            let same : least ≡ f = some_is least f (sym new ∙ ap (λ m. get_or after m None) (sym e) ∙ at) in
            (ap (λ x. get_or labels x 0) (sym same) ∙ now.same ∙ sym e, omega (arith, now.below))
        | inr ne ↦ let s : (get_or labels f 0 ≡ m) × (f < i) = keeps.sound m f (sym (other m ne) ∙ at) in (s.0, omega (arith, s.1))
      ];
      leasts_long = ap length grown_is ∙ length_push leasts least ∙ ap (λ n. n + 1) keeps.leasts_long;
      each = λ v lt. subst (λ xs. IsLeastOf labels v (get_or xs v 0)) (sym grown_is)
          (at_push (λ v x. IsLeastOf labels v x) leasts least 0 (λ v lt. keeps.each v (omega (arith, keeps.leasts_long)))
          (subst (λ v. IsLeastOf labels v least) (sym keeps.leasts_long) now) v (omega (arith, length_push leasts least, keeps.leasts_long)));
    }

pub firsts_done : (labels : List ℕ) (i : ℕ) (first : List (Option ℕ)) (leasts : List ℕ) → AreFirsts labels i first leasts → i ≡ length labels → AreLeasts labels leasts
firsts_done labels i first leasts keeps all = record { long = keeps.leasts_long ∙ all; each = λ v lt. keeps.each v (omega arith) }

-- ---- links

pub links_none : (leasts : List ℕ) (links : List (ℕ × ℕ)) → links ≡ [] → AreLinks [] leasts links
links_none leasts links is = record {
  sound = λ a b h. absurd (contains_none (a, b) (subst (λ xs. Contains xs (a, b)) is h));
  complete = λ u v h. absurd (contains_none (u, v) h);
}

pub links_yes : (edges : List (ℕ × ℕ)) (leasts : List ℕ) (links : List (ℕ × ℕ)) (e : ℕ × ℕ) → AreLinks edges leasts links → get_or leasts e.0 0 ≢ get_or leasts e.1 0
    → AreLinks (edges ++ e ∷ []) leasts (links ++ (get_or leasts e.0 0, get_or leasts e.1 0) ∷ [])
links_yes edges leasts links e keeps differ = record {
  sound = λ a b h. contains_more (λ x. (x.0 ≢ x.1) × ((u : ℕ) × (v : ℕ) × Contains (edges ++ e ∷ []) (u, v) × (get_or leasts u 0 ≡ x.0) × (get_or leasts v 0 ≡ x.1))) links (get_or leasts e.0 0, get_or leasts e.1 0)
      (λ x old. let s : (x.0 ≢ x.1) × ((u : ℕ) × (v : ℕ) × Contains edges (u, v) × (get_or leasts u 0 ≡ x.0) × (get_or leasts v 0 ≡ x.1)) = keeps.sound x.0 x.1 old in
      (s.0, (s.1.0, s.1.1, contains_kept edges e (s.1.0, s.1.1) s.1.2, s.1.3, s.1.4)))
      (differ, (e.0, e.1, Contains-push edges e, refl, refl)) (a, b) h;
  complete = λ u v h ne. contains_more (λ x. get_or leasts x.0 0 ≢ get_or leasts x.1 0 → Contains (links ++ (get_or leasts e.0 0, get_or leasts e.1 0) ∷ []) (get_or leasts x.0 0, get_or leasts x.1 0)) edges e
      (λ x old ne. contains_kept links (get_or leasts e.0 0, get_or leasts e.1 0) (get_or leasts x.0 0, get_or leasts x.1 0) (keeps.complete x.0 x.1 old ne))
      (λ _. Contains-push links (get_or leasts e.0 0, get_or leasts e.1 0)) (u, v) h ne;
}

pub links_no : (edges : List (ℕ × ℕ)) (leasts : List ℕ) (links : List (ℕ × ℕ)) (e : ℕ × ℕ) → AreLinks edges leasts links → get_or leasts e.0 0 ≡ get_or leasts e.1 0 → AreLinks (edges ++ e ∷ []) leasts links
links_no edges leasts links e keeps same = record {
  sound = λ a b h. let s : (a ≢ b) × ((u : ℕ) × (v : ℕ) × Contains edges (u, v) × (get_or leasts u 0 ≡ a) × (get_or leasts v 0 ≡ b)) = keeps.sound a b h in
      (s.0, (s.1.0, s.1.1, contains_kept edges e (s.1.0, s.1.1) s.1.2, s.1.3, s.1.4));
  complete = λ u v h ne. contains_more (λ x. get_or leasts x.0 0 ≢ get_or leasts x.1 0 → Contains links (get_or leasts x.0 0, get_or leasts x.1 0)) edges e
      (λ x old ne. keeps.complete x.0 x.1 old ne) (λ ne. absurd (ne same)) (u, v) h ne;
}

-- ---- members

rise_more : (row : List ℕ) (v : ℕ) → IsStrictlyIncreasing row → ((w : ℕ) → Contains row w → w < v) → IsStrictlyIncreasing (row ++ v ∷ [])
rise_more row v rise below k lt = elim (cases_lt (k + 1) (length row)) [
  | inl inner ↦
      let a : get_or (row ++ v ∷ []) k 0 ≡ get_or row k 0 = get_or_append_left row (v ∷ []) 0 k (omega arith) in
      let b : get_or (row ++ v ∷ []) (k + 1) 0 ≡ get_or row (k + 1) 0 = get_or_append_left row (v ∷ []) 0 (k + 1) inner in
      let up : get_or row k 0 < get_or row (k + 1) 0 = rise k inner in omega arith
  | inr outer ↦
      let end : length row ≡ k + 1 = omega (arith, length_push row v) in
      let a : get_or (row ++ v ∷ []) k 0 ≡ get_or row k 0 = get_or_append_left row (v ∷ []) 0 k (omega arith) in
      let b : get_or (row ++ v ∷ []) (k + 1) 0 ≡ v = get_or_push row v 0 (k + 1) end in
      let up : get_or row k 0 < v = below (get_or row k 0) (Contains-get_or row k 0 (omega arith)) in omega arith
]

pub members_none : (n : ℕ) (rows : List (List ℕ)) → rows ≡ replicate n [] → AreGathered [] rows
members_none n rows is =
    let none : (a : ℕ) → get_or rows a [] ≡ [] = λ a. ap (λ rs. get_or rs a []) is ∙ empty_row n a in
    record {
      sound = λ a v h. absurd (contains_none v (subst (λ r. Contains r v) (none a) h));
      complete = λ v lt. absurd (omega (arith, lt));
      ascending = λ a. subst IsStrictlyIncreasing (sym (none a)) (λ k lt. absurd (omega (arith, lt)));
    }

pub members_more : (leasts : List ℕ) (rows : List (List ℕ)) (least : ℕ) → AreGathered leasts rows → least < length rows
    → AreGathered (leasts ++ least ∷ []) (set rows least (get_or rows least [] ++ length leasts ∷ []))
members_more leasts rows least keeps within =
    let new : List ℕ = get_or rows least [] ++ length leasts ∷ [] in
    let last : get_or (leasts ++ least ∷ []) (length leasts) 0 ≡ least = get_or_push leasts least 0 (length leasts) refl in
    let old : (v : ℕ) → v < length leasts → get_or (leasts ++ least ∷ []) v 0 ≡ get_or leasts v 0 = λ v lt. get_or_append_left leasts (least ∷ []) 0 v lt in
    let was : (a v : ℕ) → Contains (get_or rows a []) v → (v < length (leasts ++ least ∷ [])) × (get_or (leasts ++ least ∷ []) v 0 ≡ a)
    = λ a v h. let s : (v < length leasts) × (get_or leasts v 0 ≡ a) = keeps.sound a v h in (omega (arith, s.0, length_push leasts least), old v s.0 ∙ s.1) in
    let here : Contains (get_or (set rows least new) least []) (length leasts) = subst (λ r. Contains r (length leasts)) (sym (get_or-set_same rows least new [] within)) (Contains-push (get_or rows least []) (length leasts)) in
    let stays : (a v : ℕ) → Contains (get_or rows a []) v → Contains (get_or (set rows least new) a []) v
    = λ a v h. at_set (λ b r. b ≡ a → Contains r v) rows least new [] within
    (λ same. contains_kept (get_or rows least []) (length leasts) v (subst (λ b. Contains (get_or rows b []) v) (sym same) h))
    (λ b ne same. subst (λ b. Contains (get_or rows b []) v) (sym same) h) a refl in
    record {
      sound = at_set (λ a r. (v : ℕ) → Contains r v → (v < length (leasts ++ least ∷ [])) × (get_or (leasts ++ least ∷ []) v 0 ≡ a)) rows least new [] within
          (contains_more (λ v. (v < length (leasts ++ least ∷ [])) × (get_or (leasts ++ least ∷ []) v 0 ≡ least)) (get_or rows least []) (length leasts) (was least) (omega (arith, length_push leasts least), last))
          (λ a ne. was a);
      complete = λ v lt. at_push (λ v x. Contains (get_or (set rows least new) x []) v) leasts least 0
          (λ v lt. stays (get_or leasts v 0) v (keeps.complete v lt)) here v lt;
      ascending = at_set (λ a r. IsStrictlyIncreasing r) rows least new [] within
          (rise_more (get_or rows least []) (length leasts) (keeps.ascending least) (λ w h. (keeps.sound least w h).0)) (λ a ne. keeps.ascending a);
    }

pub members_step : (leasts : List ℕ) (i : ℕ) (rows : List (List ℕ)) (read new : List ℕ) → AreGathered (take i leasts) rows → i < length leasts → get_or leasts i 0 < length rows
    → read ≡ get_or rows (get_or leasts i 0) read → new ≡ read ++ i ∷ [] → AreGathered (take (i + 1) leasts) (set rows (get_or leasts i 0) new)
members_step leasts i rows read new keeps within row_in is grown =
    let least : ℕ = get_or leasts i 0 in
    let long : length (take i leasts) ≡ i = length-take-le i leasts (omega arith) in
    let same : new ≡ get_or rows least [] ++ length (take i leasts) ∷ [] = grown ∙ ap (λ r. r ++ i ∷ []) (get_or_read rows least read row_in is []) ∙ ap (λ n. get_or rows least [] ++ n ∷ []) (sym long) in
    subst (λ r. AreGathered (take (i + 1) leasts) (set rows least r)) (sym same)
    (subst (λ ls. AreGathered ls (set rows least (get_or rows least [] ++ length (take i leasts) ∷ []))) (sym (take_more leasts i 0 within)) (members_more (take i leasts) rows least keeps row_in))
