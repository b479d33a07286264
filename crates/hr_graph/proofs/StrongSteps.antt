-- The search for strong components keeps its invariant, step by step.
use Rattle.std.proofs.Common.{◌≡◌, ◌⊎◌, ◌+◌, ◌-◌, ◌<◌, ◌≤◌, ◌++◌, ◌∷◌, ℕ, [], List, length, take, get_or, set, arith, sym, ◌∙◌, ap, subst, refl, inl, inr}
use Rattle.std.specs.Prelude.{Contains, AllPairs}
use Rattle.std.proofs.lemmas.Bool.{cases_eq, cases_lt}
use Rattle.std.proofs.lemmas.Bool.Decides.{nat_tests}
use Rattle.std.proofs.lemmas.List.{length_push, get_or_push, get_or_append_left, get_or-append_right, get_or-set_same, get_or-set_other, length-append, length-take-le, get_or-take}
use Rattle.std.proofs.lemmas.List.Elements.{Contains-push, Contains-push_cases, Contains-append_left, Contains-append_right, Contains-append_cases, Contains-get_or}
use Rattle.std.proofs.lemmas.List.Quantifiers.{all_pairs_push}
use Rattle.hr_graph.specs.declared.strong.Mark.{Mark}
use Rattle.hr_graph.specs.declared.strong.Mark.TheVariants.{Unseen, Open, Labelled}
use Rattle.hr_graph.specs.Strong.{IsSuccessor, WayAlong, stay, go, mark_of, ComesBack, IsPath, AreStarts, ArePending, IsSettled, IsNotLater, AreLabelled, IsSearch, IsSearchBut, labelled_from, waiting}
use Rattle.hr_graph.proofs.Members.{contains_none, contains_more, contains_kept}

-- ways join
pub way_on : {rows : List (List ℕ)} (u v w : ℕ) → WayAlong rows u v → WayAlong rows v w → WayAlong rows u w
way_on u v w (stay _) second = second
way_on u v w (go _ next _ edge rest) second = go u next w edge (way_on next v w rest second)

-- an element of a list with one more
pub at_push : {X : Type 0} (P : ℕ → X → Type 0) (xs : List X) (x d : X) → ((p : ℕ) → p < length xs → P p (get_or xs p d)) → P (length xs) x → (p : ℕ) → p < length (xs ++ x ∷ []) → P p (get_or (xs ++ x ∷ []) p d)
at_push P xs x d each last p within =
    elim (cases_lt p (length xs)) [
      | inl lt ↦ subst (λ y. P p y) (sym (get_or_append_left xs (x ∷ []) d p lt)) (each p lt)
      | inr ge ↦
          let e : p ≡ length xs = omega (arith, length_push xs x) in
          subst (λ q. P q (get_or (xs ++ x ∷ []) q d)) (sym e) (subst (λ y. P (length xs) y) (sym (get_or_push xs x d (length xs) refl)) last)
    ]

-- what is settled stays so where the groups that begin are fewer
settled_fewer : (starts fewer : List ℕ) (p : ℕ) (m : Mark) → ((s : ℕ) → Contains fewer s → Contains starts s) → IsSettled starts p m → IsSettled fewer p m
settled_fewer starts fewer p Unseen sub h = h
settled_fewer starts fewer p (Open q) sub h = λ s in' lt. h s (sub s in') lt
settled_fewer starts fewer p (Labelled label) sub h = h

-- and where a group begins behind the place
settled_more : (starts : List ℕ) (p new : ℕ) (m : Mark) → p < new → IsSettled starts p m → IsSettled (starts ++ new ∷ []) p m
settled_more starts p new Unseen before h = h
settled_more starts p new (Open q) before h = λ s in' lt. contains_more (λ s. q < s → p < s) starts new (λ s old lt. h s old lt) (λ _. before) s in' lt
settled_more starts p new (Labelled label) before h = h

comes_back_fewer : (starts : List ℕ) (new p q : ℕ) → ComesBack (starts ++ new ∷ []) p q → ComesBack starts p q
comes_back_fewer starts new p q h = λ s in' lt. h s (contains_kept starts new s in') lt

-- ---- a node is entered

pub mark_same : (marks : List Mark) (v w : ℕ) (new : Mark) → (w ≡ v → ⊥) → mark_of (set marks v new) w ≡ mark_of marks w
mark_same marks v w new ne = get_or-set_other marks v w new Unseen ne

pub mark_new : (marks : List Mark) (v : ℕ) (new : Mark) → v < length marks → mark_of (set marks v new) v ≡ new
mark_new marks v new within = get_or-set_same marks v new Unseen within

pub place_is : (p q : ℕ) → Open p ≡ Open q → p ≡ q
place_is p q e = cc

pub label_is : (p q : ℕ) → Labelled p ≡ Labelled q → p ≡ q
label_is p q e = cc

enter_path : (marks : List Mark) (path : List ℕ) (v : ℕ) → IsPath marks path → v < length marks → mark_of marks v ≡ Unseen → IsPath (set marks v (Open (length path))) (path ++ v ∷ [])
enter_path marks path v on within unseen = record {
  place = λ w p is. elim (cases_eq w v) [
    | inl e ↦
        let at : Open (length path) ≡ Open p = sym (mark_new marks v (Open (length path)) within) ∙ ap (mark_of (set marks v (Open (length path)))) (sym e) ∙ is in
        let same : length path ≡ p = place_is (length path) p at in
        (omega (arith, length_push path v), subst (λ q. get_or (path ++ v ∷ []) q 0 ≡ w) same (get_or_push path v 0 (length path) refl ∙ sym e))
    | inr ne ↦
        let old : (p < length path) × (get_or path p 0 ≡ w) = on.place w p (sym (mark_same marks v w (Open (length path)) ne) ∙ is) in
        (omega (arith, old.0, length_push path v), get_or_append_left path (v ∷ []) 0 p old.0 ∙ old.1)
  ];
  mark = at_push (λ p w. mark_of (set marks v (Open (length path))) w ≡ Open p) path v 0
      (λ p lt. let ne : get_or path p 0 ≡ v → ⊥ = λ e. let clash : Open p ≡ Unseen = sym (on.mark p lt) ∙ ap (mark_of marks) e ∙ unseen in cc in
      mark_same marks v (get_or path p 0) (Open (length path)) ne ∙ on.mark p lt)
      (mark_new marks v (Open (length path)) within);
}

enter_starts : (path starts : List ℕ) (v : ℕ) → AreStarts path starts → AreStarts (path ++ v ∷ []) (starts ++ length path ∷ [])
enter_starts path starts v begins = record {
  below = contains_more (λ s. s < length (path ++ v ∷ [])) starts (length path) (λ s h. omega (arith, begins.below s h, length_push path v)) (omega (arith, length_push path v));
  rise = all_pairs_push (λ s t. s < t) starts (length path) begins.rise (λ k d lt. begins.below (get_or starts k d) (Contains-get_or starts k d lt));
  cover = λ p within. elim (cases_lt p (length path)) [
    | inl lt ↦ let old : (s : ℕ) × Contains starts s × (s ≤ p) = begins.cover p lt in (old.0, contains_kept starts (length path) old.0 old.1, old.2)
    | inr ge ↦ (length path, Contains-push starts (length path), ge)
  ];
}

-- all pairs of two lists joined, where R holds of each element of the first with each of the second
pairs_joined : {X : Type 0} (R : X → X → Type 0) (xs ys : List X) → AllPairs R xs → AllPairs R ys → ((x y : X) → Contains xs x → Contains ys y → R x y) → AllPairs R (xs ++ ys)
pairs_joined R xs ys first second across i j d lt within =
    elim (cases_lt j (length xs)) [
      | inl left ↦
          let li : i < length xs = omega arith in
          subst (λ x. R x (get_or (xs ++ ys) j d)) (sym (get_or_append_left xs ys d i li))
          (subst (λ y. R (get_or xs i d) y) (sym (get_or_append_left xs ys d j left)) (first i j d lt left))
      | inr right ↦
          let lj : j - length xs < length ys = omega (arith, length-append xs ys, within) in
          subst (λ y. R (get_or (xs ++ ys) i d) y) (sym (get_or-append_right xs ys (length xs) j d refl right))
          (elim (cases_lt i (length xs)) [
            | inl li ↦ subst (λ x. R x (get_or ys (j - length xs) d)) (sym (get_or_append_left xs ys d i li))
                (across (get_or xs i d) (get_or ys (j - length xs) d) (Contains-get_or xs i d li) (Contains-get_or ys (j - length xs) d lj))
            | inr ge ↦ subst (λ x. R x (get_or ys (j - length xs) d)) (sym (get_or-append_right xs ys (length xs) i d refl ge))
                (second (i - length xs) (j - length xs) d (omega arith) lj)
          ])
    ]

-- what is in the edges of a row, by the place of the node
in_waiting : (place : ℕ) (row : List ℕ) (e : ℕ × ℕ) → Contains (waiting place row) e → (e.0 ≡ place) × Contains row e.1
in_waiting place [] e h = absurd (contains_none e h)
in_waiting place (w ∷ row) e h =
    elim (Contains-append_cases ((place, w) ∷ []) (waiting place row) e h) [
      | inl first ↦ elim (Contains-push_cases [] (place, w) e first) [
        | inl none ↦ absurd (contains_none e none)
        | inr is ↦ (ap (λ e. e.0) (sym is), subst (λ y. Contains (w ∷ row) y) (ap (λ e. e.1) is) (Contains-append_left (w ∷ []) row w (Contains-push [] w)))
      ]
      | inr rest ↦ let old : (e.0 ≡ place) × Contains row e.1 = in_waiting place row e rest in (old.0, Contains-append_right (w ∷ []) row e.1 old.1)
    ]

waits_for : (place : ℕ) (row : List ℕ) (v : ℕ) → Contains row v → Contains (waiting place row) (place, v)
waits_for place [] v h = absurd (contains_none v h)
waits_for place (w ∷ row) v h =
    elim (Contains-append_cases (w ∷ []) row v h) [
      | inl first ↦ elim (Contains-push_cases [] w v first) [
        | inl none ↦ absurd (contains_none v none)
        | inr is ↦ subst (λ y. Contains {X = ℕ × ℕ} ((place, w) ∷ waiting place row) (place, y)) is (Contains-append_left ((place, w) ∷ []) (waiting place row) (place, w) (Contains-push [] (place, w)))
      ]
      | inr rest ↦ Contains-append_right ((place, w) ∷ []) (waiting place row) (place, v) (waits_for place row v rest)
    ]

same_place : (place : ℕ) (row : List ℕ) → AllPairs {X = ℕ × ℕ} (λ e f. e.0 ≤ f.0) (waiting place row)
same_place place row i j d lt within =
    let a : (get_or (waiting place row) i d).0 ≡ place = (in_waiting place row (get_or (waiting place row) i d) (Contains-get_or (waiting place row) i d (omega arith))).0 in
    let b : (get_or (waiting place row) j d).0 ≡ place = (in_waiting place row (get_or (waiting place row) j d) (Contains-get_or (waiting place row) j d within)).0 in
    omega arith

enter_pending : (rows : List (List ℕ)) (path : List ℕ) (pending : List (ℕ × ℕ)) (v : ℕ) → ArePending rows path pending → ArePending rows (path ++ v ∷ []) (pending ++ waiting (length path) (get_or rows v []))
enter_pending rows path pending v waits = record {
  edge = λ p w h. elim (Contains-append_cases pending (waiting (length path) (get_or rows v [])) (p, w) h) [
    | inl old ↦
        let known : (p < length path) × IsSuccessor rows (get_or path p 0) w = waits.edge p w old in
        (omega (arith, known.0, length_push path v), subst (λ u. IsSuccessor rows u w) (sym (get_or_append_left path (v ∷ []) 0 p known.0)) known.1)
    | inr new ↦
        let known : (p ≡ length path) × Contains (get_or rows v []) w = in_waiting (length path) (get_or rows v []) (p, w) new in
        (omega (arith, known.0, length_push path v), subst (λ u. IsSuccessor rows u w) (sym (get_or_push path v 0 p (sym known.0))) known.1)
  ];
  rise = pairs_joined (λ e f. e.0 ≤ f.0) pending (waiting (length path) (get_or rows v [])) waits.rise (same_place (length path) (get_or rows v []))
      (λ e f old new. let a : e.0 < length path = (waits.edge e.0 e.1 old).0 in let b : f.0 ≡ length path = (in_waiting (length path) (get_or rows v []) f new).0 in omega arith);
}

enter_way : (rows : List (List ℕ)) (path starts : List ℕ) (v : ℕ)
    → ((p q : ℕ) → p < length path → q < length path → ComesBack starts p q → WayAlong rows (get_or path p 0) (get_or path q 0))
    → ((q : ℕ) → q < length path → WayAlong rows (get_or path q 0) v)
    → (p q : ℕ) → p < length (path ++ v ∷ []) → q < length (path ++ v ∷ []) → ComesBack (starts ++ length path ∷ []) p q → WayAlong rows (get_or (path ++ v ∷ []) p 0) (get_or (path ++ v ∷ []) q 0)
enter_way rows path starts v way reaches p q p_in q_in back =
    at_push (λ p u. ComesBack (starts ++ length path ∷ []) p q → WayAlong rows u (get_or (path ++ v ∷ []) q 0)) path v 0
    (λ p p_lt. at_push (λ q w. ComesBack (starts ++ length path ∷ []) p q → WayAlong rows (get_or path p 0) w) path v 0
    (λ q q_lt back. way p q p_lt q_lt (comes_back_fewer starts (length path) p q back))
    (λ _. reaches p p_lt) q q_in)
    (at_push (λ q w. ComesBack (starts ++ length path ∷ []) (length path) q → WayAlong rows v w) path v 0
    (λ q q_lt back. let lt : length path < length path = back (length path) (Contains-push starts (length path)) q_lt in absurd (omega arith))
    (λ _. stay v) q q_in)
    p p_in back

-- a mark after a node was entered that was not seen
settled_entered : (marks : List Mark) (path starts : List ℕ) (v p w : ℕ) → v < length marks → p < length path
    → ((s : ℕ) → Contains starts s → s < length path)
    → IsSettled starts p (mark_of marks w) ⊎ (w ≡ v) → mark_of marks v ≡ Unseen
    → IsSettled (starts ++ length path ∷ []) p (mark_of (set marks v (Open (length path))) w)
settled_entered marks path starts v p w within before below h unseen =
    elim (cases_eq w v) [
      | inl e ↦ subst (λ m. IsSettled (starts ++ length path ∷ []) p m) (sym (ap (mark_of (set marks v (Open (length path)))) e ∙ mark_new marks v (Open (length path)) within))
          (λ s in' lt. absurd (contains_more (λ s. length path < s → ⊥) starts (length path) (λ s old lt. let b : s < length path = below s old in omega arith) (λ lt. omega arith) s in' lt))
      | inr ne ↦ elim h [
        | inl old ↦ subst (λ m. IsSettled (starts ++ length path ∷ []) p m) (sym (mark_same marks v w (Open (length path)) ne)) (settled_more starts p (length path) (mark_of marks w) before old)
        | inr e ↦ absurd (ne e)
      ]
    ]

enter_labelled : (rows : List (List ℕ)) (marks : List Mark) (labelled v place : ℕ) → AreLabelled rows marks labelled → v < length marks → mark_of marks v ≡ Unseen → AreLabelled rows (set marks v (Open place)) labelled
enter_labelled rows marks labelled v place shut within unseen =
    let old : (u label : ℕ) → mark_of (set marks v (Open place)) u ≡ Labelled label → mark_of marks u ≡ Labelled label
    = λ u label is. elim (cases_eq u v) [
      | inl e ↦ let clash : Open place ≡ Labelled label = sym (mark_new marks v (Open place) within) ∙ ap (mark_of (set marks v (Open place))) (sym e) ∙ is in cc
      | inr ne ↦ sym (mark_same marks v u (Open place) ne) ∙ is
    ] in
    record {
      edge = λ u w label is target.
          let known : IsNotLater label (mark_of marks w) = shut.edge u w label (old u label is) target in
          elim (cases_eq w v) [
            | inl e ↦ absurd (subst (λ m. IsNotLater label m) (ap (mark_of marks) e ∙ unseen) known)
            | inr ne ↦ subst (λ m. IsNotLater label m) (sym (mark_same marks v w (Open place) ne)) known
          ];
      way = λ u w label a b. shut.way u w label (old u label a) (old w label b);
      below = λ u label is. shut.below u label (old u label is);
    }

pub entered : (rows : List (List ℕ)) (marks : List Mark) (path starts : List ℕ) (pending : List (ℕ × ℕ)) (labelled v : ℕ)
    → IsSearchBut v rows marks path starts pending labelled → v < length marks → mark_of marks v ≡ Unseen
    → ((q : ℕ) → q < length path → WayAlong rows (get_or path q 0) v)
    → IsSearch rows (set marks v (Open (length path))) (path ++ v ∷ []) (starts ++ length path ∷ []) (pending ++ waiting (length path) (get_or rows v [])) labelled
entered rows marks path starts pending labelled v keeps within unseen reaches = record {
  on_path = enter_path marks path v keeps.on_path within unseen;
  begins = enter_starts path starts v keeps.begins;
  way = enter_way rows path starts v keeps.way reaches;
  waits = enter_pending rows path pending v keeps.waits;
  edge = λ p w p_in target. at_push
      (λ p u. IsSuccessor rows u w → Contains (pending ++ waiting (length path) (get_or rows v [])) (p, w) ⊎ IsSettled (starts ++ length path ∷ []) p (mark_of (set marks v (Open (length path))) w)) path v 0
      (λ p p_lt target. elim (keeps.edge p w p_lt target) [
        | inl known ↦ elim known [
          | inl pends ↦ inl (Contains-append_left pending (waiting (length path) (get_or rows v [])) (p, w) pends)
          | inr settled ↦ inr (settled_entered marks path starts v p w within p_lt keeps.begins.below (inl settled) unseen)
        ]
        | inr is ↦ inr (settled_entered marks path starts v p w within p_lt keeps.begins.below (inr is) unseen)
      ])
      (λ target. inl (Contains-append_right pending (waiting (length path) (get_or rows v [])) (length path, w) (waits_for (length path) (get_or rows v []) w target)))
      p p_in target;
  shut = enter_labelled rows marks labelled v (length path) keeps.shut within unseen;
}

-- ---- the last element of a list in order

pub pairs_front : {X : Type 0} (R : X → X → Type 0) (xs : List X) (y : X) → AllPairs R (xs ++ y ∷ []) → AllPairs R xs
pairs_front R xs y pairs i j d lt within =
    subst (λ x. R x (get_or xs j d)) (get_or_append_left xs (y ∷ []) d i (omega arith))
    (subst (λ z. R (get_or (xs ++ y ∷ []) i d) z) (get_or_append_left xs (y ∷ []) d j within)
    (pairs i j d lt (omega (arith, length_push xs y))))

pub pairs_last : {X : Type 0} (R : X → X → Type 0) (xs : List X) (y x : X) → AllPairs R (xs ++ y ∷ []) → Contains xs x → R x y
pairs_last R xs y x pairs (k, within, is) =
    subst (λ x. R x y) (get_or_append_left xs (y ∷ []) x k within ∙ is)
    (subst (λ z. R (get_or (xs ++ y ∷ []) k x) z) (get_or_push xs y x (length xs) refl)
    (pairs k (length xs) x within (omega (arith, length_push xs y))))

-- ---- an edge is taken

-- without the edge to v that is being followed
pub popped : (rows : List (List ℕ)) (marks : List Mark) (path starts : List ℕ) (pending : List (ℕ × ℕ)) (labelled p v : ℕ)
    → IsSearch rows marks path starts (pending ++ (p, v) ∷ []) labelled → IsSearchBut v rows marks path starts pending labelled
popped rows marks path starts pending labelled p v keeps = record {
  on_path = keeps.on_path;
  begins = keeps.begins;
  way = keeps.way;
  waits = record {
    edge = λ q w h. keeps.waits.edge q w (contains_kept pending (p, v) (q, w) h);
    rise = pairs_front (λ e f. e.0 ≤ f.0) pending (p, v) keeps.waits.rise;
  };
  edge = λ q w q_in target. elim (keeps.edge q w q_in target) [
    | inl pends ↦ elim (Contains-push_cases pending (p, v) (q, w) pends) [
      | inl old ↦ inl (inl old)
      | inr is ↦ inr (ap (λ e. e.1) (sym is))
    ]
    | inr settled ↦ inl (inr settled)
  ];
  shut = keeps.shut;
}

-- the target is labelled
pub passed : (rows : List (List ℕ)) (marks : List Mark) (path starts : List ℕ) (pending : List (ℕ × ℕ)) (labelled v label : ℕ)
    → IsSearchBut v rows marks path starts pending labelled → mark_of marks v ≡ Labelled label → IsSearch rows marks path starts pending labelled
passed rows marks path starts pending labelled v label keeps is = record {
  on_path = keeps.on_path;
  begins = keeps.begins;
  way = keeps.way;
  waits = keeps.waits;
  edge = λ p w p_in target. elim (keeps.edge p w p_in target) [
    | inl known ↦ known
    | inr same ↦ inr (subst (λ m. IsSettled starts p m) (sym (ap (mark_of marks) same ∙ is)) tt)
  ];
  shut = keeps.shut;
}

-- the target is open: the groups behind its own are joined with it
pub joined : (rows : List (List ℕ)) (marks : List Mark) (path starts fewer : List ℕ) (pending : List (ℕ × ℕ)) (labelled v p q : ℕ)
    → IsSearchBut v rows marks path starts pending labelled → mark_of marks v ≡ Open q
    → p < length path → IsSuccessor rows (get_or path p 0) v → ((s : ℕ) → Contains starts s → s ≤ p)
    → ((s : ℕ) → Contains fewer s → Contains starts s) → ((s : ℕ) → Contains fewer s → s ≤ q)
    → ((s : ℕ) → Contains starts s → s ≤ q → Contains fewer s) → AllPairs (λ s t. s < t) fewer
    → IsSearch rows marks path fewer pending labelled
joined rows marks path starts fewer pending labelled v p q keeps is p_in target last sub small all rise =
    let at : (q < length path) × (get_or path q 0 ≡ v) = keeps.on_path.place v q is in
    record {
      on_path = keeps.on_path;
      begins = record {
        below = λ s h. keeps.begins.below s (sub s h);
        rise = rise;
        cover = λ a a_in.
            let near : (s : ℕ) × Contains starts s × (s ≤ a) = keeps.begins.cover a a_in in
            elim (cases_lt q near.0) [
              | inl behind ↦
                  let first : (s : ℕ) × Contains starts s × (s ≤ q) = keeps.begins.cover q at.0 in
                  (first.0, all first.0 first.1 first.2, omega (arith, first.2, near.2, behind))
              | inr here ↦ (near.0, all near.0 near.1 here, near.2)
            ];
      };
      way = λ a b a_in b_in back. elim (cases_lt q a) [
        | inl behind ↦
            let down : WayAlong rows (get_or path a 0) (get_or path p 0) = keeps.way a p a_in p_in (λ s in' lt. absurd (let le : s ≤ p = last s in' in omega arith)) in
            let up : WayAlong rows (get_or path q 0) (get_or path b 0) = keeps.way q b at.0 b_in
            (λ s in' lt. elim (cases_lt q s) [ inl ok ↦ ok | inr le ↦ absurd (let far : a < s = back s (all s in' le) lt in omega arith) ]) in
            way_on (get_or path a 0) (get_or path p 0) (get_or path b 0) down (go (get_or path p 0) v (get_or path b 0) target (subst (λ u. WayAlong rows u (get_or path b 0)) at.1 up))
        | inr here ↦ keeps.way a b a_in b_in
            (λ s in' lt. elim (cases_lt a s) [ inl ok ↦ ok | inr le ↦ absurd (let far : a < s = back s (all s in' (omega arith)) lt in omega arith) ])
      ];
      waits = keeps.waits;
      edge = λ a w a_in edge. elim (keeps.edge a w a_in edge) [
        | inl known ↦ elim known [
          | inl pends ↦ inl pends
          | inr settled ↦ inr (settled_fewer starts fewer a (mark_of marks w) sub settled)
        ]
        | inr same ↦ inr (subst (λ m. IsSettled fewer a m) (sym (ap (mark_of marks) same ∙ is)) (λ s in' lt. absurd (let le : s ≤ q = small s in' in omega arith)))
      ];
      shut = keeps.shut;
    }

-- ---- the last group is labelled

pub at_place : (label start p : ℕ) → p < start → labelled_from label start (Open p) ≡ Open p
at_place label start p lt = grind (arith, nat_tests)

pub past_place : (label start p : ℕ) → start ≤ p → labelled_from label start (Open p) ≡ Labelled label
past_place label start p le = grind (arith, nat_tests)

closing_open : (label start p : ℕ) (m : Mark) → labelled_from label start m ≡ Open p → (m ≡ Open p) × (p < start)
closing_open label start p Unseen is = let clash : Unseen ≡ Open p = is in cc
closing_open label start p (Open q) is = elim (cases_lt q start) [
  | inl lt ↦ let same : q ≡ p = place_is q p (sym (at_place label start q lt) ∙ is) in (ap Open same, subst (λ p. p < start) same lt)
  | inr ge ↦ let clash : Labelled label ≡ Open p = sym (past_place label start q ge) ∙ is in cc
]
closing_open label start p (Labelled other) is = let clash : Labelled other ≡ Open p = is in cc

closing_labelled : (label start k : ℕ) (m : Mark) → labelled_from label start m ≡ Labelled k → (m ≡ Labelled k) ⊎ ((k ≡ label) × ((p : ℕ) × (m ≡ Open p) × (start ≤ p)))
closing_labelled label start k Unseen is = let clash : Unseen ≡ Labelled k = is in cc
closing_labelled label start k (Open q) is = elim (cases_lt q start) [
  | inl lt ↦ let clash : Open q ≡ Labelled k = sym (at_place label start q lt) ∙ is in cc
  | inr ge ↦ inr (label_is k label (sym is ∙ past_place label start q ge), (q, refl, ge))
]
closing_labelled label start k (Labelled other) is = inl is

-- an edge of an open node that stays open
closing_settled : (label start p : ℕ) (starts fewer : List ℕ) (m : Mark) → ((s : ℕ) → Contains fewer s → Contains starts s) → IsSettled starts p m → IsSettled fewer p (labelled_from label start m)
closing_settled label start p starts fewer Unseen sub h = h
closing_settled label start p starts fewer (Open q) sub h = elim (cases_lt q start) [
  | inl lt ↦ subst (λ m. IsSettled fewer p m) (sym (at_place label start q lt)) (λ s in' lt. h s (sub s in') lt)
  | inr ge ↦ subst (λ m. IsSettled fewer p m) (sym (past_place label start q ge)) tt
]
closing_settled label start p starts fewer (Labelled other) sub h = tt

-- an edge of a node that was labelled before
closing_not_later : (label start k : ℕ) (m : Mark) → IsNotLater k m → IsNotLater k (labelled_from label start m)
closing_not_later label start k Unseen h = h
closing_not_later label start k (Open q) h = absurd h
closing_not_later label start k (Labelled other) h = h

-- an edge of a node that is labelled now
closing_now : (label start p : ℕ) (starts : List ℕ) (m : Mark) → Contains starts start → start ≤ p → ((other : ℕ) → m ≡ Labelled other → other < label) → IsSettled starts p m → IsNotLater label (labelled_from label start m)
closing_now label start p starts Unseen in' at below h = h
closing_now label start p starts (Open q) in' at below h = elim (cases_lt q start) [
  | inl lt ↦ absurd (let far : p < start = h start in' lt in omega arith)
  | inr ge ↦ subst (λ m. IsNotLater label m) (sym (past_place label start q ge)) (let le : label ≤ label = omega arith in le)
]
closing_now label start p starts (Labelled other) in' at below h = let lt : other < label = below other refl in omega arith

shut_path : (marks after : List Mark) (path : List ℕ) (label start : ℕ) → start ≤ length path → IsPath marks path → ((v : ℕ) → mark_of after v ≡ labelled_from label start (mark_of marks v)) → IsPath after (take start path)
shut_path marks after path label start fits on each = record {
  place = λ v p is.
      let known : (mark_of marks v ≡ Open p) × (p < start) = closing_open label start p (mark_of marks v) (sym (each v) ∙ is) in
      let at : (p < length path) × (get_or path p 0 ≡ v) = on.place v p known.0 in
      (omega (arith, length-take-le start path fits, known.1), get_or-take start path p 0 known.1 ∙ at.1);
  mark = λ p p_in.
      let lt : p < start = omega (arith, length-take-le start path fits) in
      ap (mark_of after) (get_or-take start path p 0 lt) ∙ each (get_or path p 0) ∙ ap (labelled_from label start) (on.mark p (omega arith)) ∙ at_place label start p lt;
}

pub shut : (rows : List (List ℕ)) (marks after : List Mark) (path fewer : List ℕ) (pending : List (ℕ × ℕ)) (label start : ℕ)
    → IsSearch rows marks path (fewer ++ start ∷ []) pending label
    → ((p v : ℕ) → Contains pending (p, v) → p < start)
    → ((v : ℕ) → mark_of after v ≡ labelled_from label start (mark_of marks v))
    → IsSearch rows after (take start path) fewer pending (label + 1)
shut rows marks after path fewer pending label start keeps early each =
    let starts : List ℕ = fewer ++ start ∷ [] in
    let sub : (s : ℕ) → Contains fewer s → Contains starts s = λ s h. contains_kept fewer start s h in
    let here : Contains starts start = Contains-push fewer start in
    let before : (s : ℕ) → Contains fewer s → s < start = λ s h. pairs_last (λ s t. s < t) fewer start s keeps.begins.rise h in
    let fits : start < length path = keeps.begins.below start here in
    let long : length (take start path) ≡ start = length-take-le start path (omega arith) in
    let stays : (p : ℕ) → p < start → get_or (take start path) p 0 ≡ get_or path p 0 = λ p lt. get_or-take start path p 0 lt in
    let label_of : (u k : ℕ) → mark_of after u ≡ Labelled k → (mark_of marks u ≡ Labelled k) ⊎ ((k ≡ label) × ((p : ℕ) × (mark_of marks u ≡ Open p) × (start ≤ p)))
    = λ u k is. closing_labelled label start k (mark_of marks u) (sym (each u) ∙ is) in
    record {
      on_path = shut_path marks after path label start (omega arith) keeps.on_path each;
      begins = record {
        below = λ s h. let lt : s < start = before s h in omega arith;
        rise = pairs_front (λ s t. s < t) fewer start keeps.begins.rise;
        cover = λ p p_in.
            let near : (s : ℕ) × Contains starts s × (s ≤ p) = keeps.begins.cover p (omega arith) in
            elim (Contains-push_cases fewer start near.0 near.1) [
              | inl old ↦ (near.0, old, near.2)
              | inr is ↦ absurd (omega (arith, is, near.2, long, p_in))
            ];
      };
      way = λ p q p_in q_in back.
          subst (λ u. WayAlong rows u (get_or (take start path) q 0)) (sym (stays p (omega arith)))
          (subst (λ w. WayAlong rows (get_or path p 0) w) (sym (stays q (omega arith)))
          (keeps.way p q (omega arith) (omega arith) (contains_more (λ s. q < s → p < s) fewer start back (λ _. omega arith))));
      waits = record {
        edge = λ p v h.
            let lt : p < start = early p v h in
            (omega arith, subst (λ u. IsSuccessor rows u v) (sym (stays p lt)) (keeps.waits.edge p v h).1);
        rise = keeps.waits.rise;
      };
      edge = λ p v p_in target. elim (keeps.edge p v (omega arith) (subst (λ u. IsSuccessor rows u v) (stays p (omega arith)) target)) [
        | inl pends ↦ inl pends
        | inr settled ↦ inr (subst (λ m. IsSettled fewer p m) (sym (each v)) (closing_settled label start p starts fewer (mark_of marks v) sub settled))
      ];
      shut = record {
        edge = λ u v k is target. subst (λ m. IsNotLater k m) (sym (each v)) (elim (label_of u k is) [
          | inl old ↦ closing_not_later label start k (mark_of marks v) (keeps.shut.edge u v k old target)
          | inr new ↦
              let at : (new.1.0 < length path) × (get_or path new.1.0 0 ≡ u) = keeps.on_path.place u new.1.0 new.1.1 in
              subst (λ k. IsNotLater k (labelled_from label start (mark_of marks v))) (sym new.0)
              (elim (keeps.edge new.1.0 v at.0 (subst (λ w. IsSuccessor rows w v) (sym at.1) target)) [
                | inl pends ↦ absurd (let lt : new.1.0 < start = early new.1.0 v pends in omega (arith, new.1.2))
                | inr settled ↦ closing_now label start new.1.0 starts (mark_of marks v) here new.1.2 (λ other is. keeps.shut.below v other is) settled
              ])
        ]);
        way = λ u v k a b. elim (label_of u k a) [
          | inl u_old ↦ elim (label_of v k b) [
            | inl v_old ↦ keeps.shut.way u v k u_old v_old
            | inr v_new ↦ absurd (let lt : k < label = keeps.shut.below u k u_old in omega (arith, v_new.0))
          ]
          | inr u_new ↦ elim (label_of v k b) [
            | inl v_old ↦ absurd (let lt : k < label = keeps.shut.below v k v_old in omega (arith, u_new.0))
            | inr v_new ↦
                let au : (u_new.1.0 < length path) × (get_or path u_new.1.0 0 ≡ u) = keeps.on_path.place u u_new.1.0 u_new.1.1 in
                let av : (v_new.1.0 < length path) × (get_or path v_new.1.0 0 ≡ v) = keeps.on_path.place v v_new.1.0 v_new.1.1 in
                subst (λ u. WayAlong rows u v) au.1 (subst (λ v. WayAlong rows (get_or path u_new.1.0 0) v) av.1
                (keeps.way u_new.1.0 v_new.1.0 au.0 av.0 (contains_more (λ s. v_new.1.0 < s → u_new.1.0 < s) fewer start (λ s h lt. let far : s < start = before s h in absurd (omega (arith, v_new.1.2))) (λ lt. absurd (omega (arith, v_new.1.2))))))
          ]
        ];
        below = λ u k is. elim (label_of u k is) [
          | inl old ↦ let lt : k < label = keeps.shut.below u k old in omega arith
          | inr new ↦ omega (arith, new.0)
        ];
      };
    }
