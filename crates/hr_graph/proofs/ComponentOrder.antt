-- The members of the least nodes, in the order of these, are the strong components in order.
use Rattle.std.proofs.Common.{◌≡◌, ◌≢◌, ◌⊎◌, ◌+◌, ◌<◌, ◌≤◌, ◌++◌, ◌∷◌, ℕ, zero, suc, [], List, length, take, get_or, arith, sym, ◌∙◌, ap, subst, refl, inl, inr}
use Rattle.std.specs.Prelude.{Contains, All, true, false, ◌==◌}
use Rattle.std.proofs.lemmas.Bool.Decides.{nat_tests}
use Rattle.std.proofs.lemmas.Bool.{cases_eq, cases_lt}
use Rattle.std.proofs.lemmas.List.{append-nil, length_push, get_or_push, get_or_append_left, take_more, take_all, take-append-le, take_at, length-take-le, get_or-take, take-take, get_or_default}
use Rattle.std.proofs.lemmas.List.Elements.{Contains-push, Contains-push_cases, Contains-get_or}
use Rattle.hr_graph.specs.Graph.{IsWithin, LeadsTo, here, along, Mutual, MayCome, IsNext, IsInOrder, IsOrder, IsPlaced, IsNextComponent, AreInOrder, AreComponents}
use Rattle.hr_graph.specs.Strong.{AreLabels}
use Rattle.hr_graph.specs.Cycle.{IsNumbered}
use Rattle.hr_graph.specs.Groups.{IsLeastOf, AreLeasts, AreLinks, AreGathered, add_row, groups_of}
use Rattle.hr_graph.proofs.Members.{contains_none, contains_kept}
use Rattle.hr_graph.proofs.StrongSteps.{at_push}
use Rattle.hr_graph.proofs.LevelSteps.{ends_below}
use Rattle.hr_graph.proofs.CycleSteps.{labels_fall}
use Rattle.hr_graph.proofs.AgendaSteps.{ordered_after}
use Rattle.hr_graph.proofs.WholeOrder.{whole_order}

add_row_join : (row : List ℕ) (rest more : List (List ℕ)) → add_row row (rest ++ more) ≡ add_row row rest ++ more
unfolding add_row
add_row_join [] rest more = refl
add_row_join (v ∷ row) rest more = refl

pub groups_more : (rows : List (List ℕ)) (nodes : List ℕ) (a : ℕ) → groups_of rows (nodes ++ a ∷ []) ≡ groups_of rows nodes ++ add_row (get_or rows a []) []
unfolding groups_of
groups_more rows [] a = refl
groups_more rows (b ∷ nodes) a = ap (add_row (get_or rows b [])) (groups_more rows nodes a) ∙ add_row_join (get_or rows b []) (groups_of rows nodes) (add_row (get_or rows a []) [])

pub add_none : (row : List ℕ) → length row ≡ 0 → add_row row [] ≡ []
unfolding add_row
add_none [] is = refl
add_none (v ∷ row) is = absurd (omega (arith, is))

pub add_some : (row : List ℕ) → (length row ≡ 0 → ⊥) → add_row row [] ≡ row ∷ []
unfolding add_row
add_some [] ne = absurd (ne refl)
add_some (v ∷ row) ne = refl

no_groups : (rows : List (List ℕ)) → groups_of rows [] ≡ []
unfolding groups_of
no_groups rows = refl

-- a graph with its labels, its least nodes, the links between these and the members
pub record IsCondensed (n : ℕ) (edges : List (ℕ × ℕ)) (labels leasts : List ℕ) (links : List (ℕ × ℕ)) (rows : List (List ℕ)) : Type 0 where
  pub ends : IsWithin n edges
  pub labels_are : AreLabels n edges labels
  pub leasts_are : AreLeasts labels leasts
  pub links_are : AreLinks edges leasts links
  pub rows_are : AreGathered leasts rows

module _ (n : ℕ) (edges : List (ℕ × ℕ)) (labels leasts : List ℕ) (links : List (ℕ × ℕ)) (rows : List (List ℕ)) (g : IsCondensed n edges labels leasts links rows) where
  least_is : (v : ℕ) → v < n → IsLeastOf labels v (get_or leasts v 0)
  least_is v lt = g.leasts_are.each v (omega (arith, g.labels_are.long, lt))

  least_in : (v : ℕ) → v < n → get_or leasts v 0 < n
  least_in v lt = let le : get_or leasts v 0 ≤ v = (least_is v lt).below in omega arith

  -- nodes with one label have one least node
  same_least : (u v : ℕ) → u < n → v < n → get_or labels u 0 ≡ get_or labels v 0 → get_or leasts u 0 ≡ get_or leasts v 0
  same_least u v lu lv same =
      let a : get_or leasts u 0 ≤ get_or leasts v 0 = (least_is u lu).least_of (get_or leasts v 0) (let lt : get_or leasts v 0 < n = least_in v lv in omega (arith, g.labels_are.long)) ((least_is v lv).same ∙ sym same) in
      let b : get_or leasts v 0 ≤ get_or leasts u 0 = (least_is v lv).least_of (get_or leasts u 0) (let lt : get_or leasts u 0 < n = least_in u lu in omega (arith, g.labels_are.long)) ((least_is u lu).same ∙ same) in
      omega arith

  same_label : (u v : ℕ) → u < n → v < n → get_or leasts u 0 ≡ get_or leasts v 0 → get_or labels u 0 ≡ get_or labels v 0
  same_label u v lu lv same = sym (least_is u lu).same ∙ ap (λ x. get_or labels x 0) same ∙ (least_is v lv).same

  mutual_label : (u v : ℕ) → Mutual edges u v → get_or labels u 0 ≡ get_or labels v 0
  mutual_label u v m =
      let a : get_or labels v 0 ≤ get_or labels u 0 = labels_fall n edges labels u v g.labels_are m.0 in
      let b : get_or labels u 0 ≤ get_or labels v 0 = labels_fall n edges labels v u g.labels_are m.1 in
      omega arith

  label_reaches : (u v : ℕ) → u < n → v < n → get_or leasts u 0 ≡ get_or leasts v 0 → LeadsTo edges u v
  label_reaches u v lu lv same = g.labels_are.way u v lu lv (same_label u v lu lv same)

  reaches_in : (u w : ℕ) → u < n → LeadsTo edges u w → w < n
  reaches_in u w lt (here _) = lt
  reaches_in u w lt (along _ v _ edge rest) = reaches_in v w (ends_below n edges u v g.ends edge).1 rest

  reaches_on : (u v w : ℕ) → LeadsTo edges u v → LeadsTo edges v w → LeadsTo edges u w
  reaches_on u v w (here _) second = second
  reaches_on u v w (along _ x _ edge rest) second = along u x w edge (reaches_on x v w rest second)

  -- from a node of the component of a, or of one in order, only to such
  goes_on : (order : List ℕ) (a u w : ℕ) → IsInOrder n links order → MayCome n links order a → u < n → (get_or leasts u 0 ≡ a) ⊎ Contains order (get_or leasts u 0) → LeadsTo edges u w
      → (get_or leasts w 0 ≡ a) ⊎ Contains order (get_or leasts w 0)
  goes_on order a u w each ready lt from (here _) = from
  goes_on order a u w each ready lt from (along _ v _ edge rest) =
      let lv : v < n = (ends_below n edges u v g.ends edge).1 in
      let next : (get_or leasts v 0 ≡ a) ⊎ Contains order (get_or leasts v 0) = elim (cases_eq (get_or leasts u 0) (get_or leasts v 0)) [
        | inl same ↦ subst (λ x. (x ≡ a) ⊎ Contains order x) same from
        | inr differ ↦
            let link : Contains links (get_or leasts u 0, get_or leasts v 0) = g.links_are.complete u v edge differ in
            elim from [
              | inl at ↦ inr (ready.after (get_or leasts v 0) (subst (λ x. Contains links (x, get_or leasts v 0)) at link))
              | inr in' ↦ inr (ordered_after n links order (get_or leasts u 0) (get_or leasts v 0) each in' link)
            ]
      ] in
      goes_on order a v w each ready lv next rest

  -- what the groups of a part of the order have
  pub record IsSoFar (order : List ℕ) : Type 0 where
    pub in_order : AreInOrder n edges (groups_of rows order)
    pub placed : (v : ℕ) → v < n → Contains order (get_or leasts v 0) → IsPlaced (groups_of rows order) v
    pub only : (v : ℕ) → IsPlaced (groups_of rows order) v → (v < n) × Contains order (get_or leasts v 0)

  placed_cases : (cs : List (List ℕ)) (c : List ℕ) (v : ℕ) → IsPlaced (cs ++ c ∷ []) v → IsPlaced cs v ⊎ Contains c v
  placed_cases cs c v (k, k_in, h) = elim (cases_lt k (length cs)) [
    | inl lt ↦ inl (k, lt, subst (λ r. Contains r v) (get_or_append_left cs (c ∷ []) [] k lt) h)
    | inr ge ↦ inr (subst (λ r. Contains r v) (get_or_push cs c [] k (omega (arith, length_push cs c, k_in))) h)
  ]

  placed_kept : (cs : List (List ℕ)) (c : List ℕ) (v : ℕ) → IsPlaced cs v → IsPlaced (cs ++ c ∷ []) v
  placed_kept cs c v (k, k_in, h) = (k, omega (arith, length_push cs c), subst (λ r. Contains r v) (sym (get_or_append_left cs (c ∷ []) [] k k_in)) h)

  placed_new : (cs : List (List ℕ)) (c : List ℕ) (v : ℕ) → Contains c v → IsPlaced (cs ++ c ∷ []) v
  placed_new cs c v h = (length cs, omega (arith, length_push cs c), subst (λ r. Contains r v) (sym (get_or_push cs c [] (length cs) refl)) h)

  -- a node with members is the least of its component
  own_least : (a v : ℕ) → Contains (get_or rows a []) v → (a < n) × (get_or leasts a 0 ≡ a)
  own_least a v h =
      let s : (v < length leasts) × (get_or leasts v 0 ≡ a) = g.rows_are.sound a v h in
      let lv : v < n = omega (arith, s.0, g.leasts_are.long, g.labels_are.long) in
      let la : a < n = let lt : get_or leasts v 0 < n = least_in v lv in omega (arith, s.1) in
      (la, same_least a v la lv (ap (λ x. get_or labels x 0) (sym s.1) ∙ (least_is v lv).same) ∙ s.1)

  next_component : (order : List ℕ) (a v : ℕ) → IsInOrder n links order → IsNext n links order a → IsSoFar order → Contains (get_or rows a []) v
      → IsNextComponent n edges (groups_of rows order) (get_or rows a []) a
  next_component order a v each next sofar h =
      let own : (a < n) × (get_or leasts a 0 ≡ a) = own_least a v h in
      record {
        free = record {
          below = own.0;
          fresh = λ p. next.ready.fresh (subst (Contains order) own.1 (sofar.only a p).1);
          after = λ other reach.
              let lo : other < n = reaches_in a other own.0 reach in
              elim (goes_on order a a other each next.ready own.0 (inl own.1) reach) [
                | inl same ↦ inr (label_reaches other a lo own.0 (same ∙ sym own.1))
                | inr in' ↦ inl (sofar.placed other lo in')
              ];
        };
        least = λ other free.
            let b : ℕ = get_or leasts other 0 in
            let lb : b < n = least_in other free.below in
            let le : b ≤ other = (least_is other free.below).below in
            let ready : MayCome n links order b = record {
              below = lb;
              fresh = λ in'. free.fresh (sofar.placed other free.below in');
              after = λ target link.
                  let s : (b ≢ target) × ((x : ℕ) × (y : ℕ) × Contains edges (x, y) × (get_or leasts x 0 ≡ b) × (get_or leasts y 0 ≡ target)) = g.links_are.sound b target link in
                  let lx : s.1.0 < n = (ends_below n edges s.1.0 s.1.1 g.ends s.1.2).0 in
                  let ly : s.1.1 < n = (ends_below n edges s.1.0 s.1.1 g.ends s.1.2).1 in
                  let way : LeadsTo edges other s.1.1 = reaches_on other s.1.0 s.1.1 (label_reaches other s.1.0 free.below lx (sym s.1.3)) (along s.1.0 s.1.1 s.1.1 s.1.2 (here s.1.1)) in
                  elim (free.after s.1.1 way) [
                    | inl p ↦ subst (Contains order) s.1.4 (sofar.only s.1.1 p).1
                    | inr back ↦ absurd (s.0 (same_least other s.1.1 free.below ly (mutual_label other s.1.1 (way, back)) ∙ s.1.4))
                  ];
            } in
            let first : a ≤ b = next.least b ready in
            omega arith;
        members = λ other. (
          (λ in'.
              let s : (other < length leasts) × (get_or leasts other 0 ≡ a) = g.rows_are.sound a other in' in
              let lo : other < n = omega (arith, s.0, g.leasts_are.long, g.labels_are.long) in
              (label_reaches a other own.0 lo (own.1 ∙ sym s.1), label_reaches other a lo own.0 (s.1 ∙ sym own.1))),
          (λ m.
              let lo : other < n = reaches_in a other own.0 m.0 in
              let same : get_or leasts other 0 ≡ a = sym (same_least a other own.0 lo (mutual_label a other m)) ∙ own.1 in
              subst (λ b. Contains (get_or rows b []) other) same (g.rows_are.complete other (omega (arith, lo, g.leasts_are.long, g.labels_are.long)))),
        );
        ascending = g.rows_are.ascending a;
      }

  more_in_order : (cs : List (List ℕ)) (c : List ℕ) (a : ℕ) → AreInOrder n edges cs → IsNextComponent n edges cs c a → AreInOrder n edges (cs ++ c ∷ [])
  more_in_order cs c a each next =
      at_push (λ k x. (node : ℕ) × IsNextComponent n edges (take k (cs ++ c ∷ [])) x node) cs c []
      (λ k lt. subst (λ before. (node : ℕ) × IsNextComponent n edges before (get_or cs k []) node) (sym (take-append-le k cs (c ∷ []) (omega arith))) (each k lt))
      (a, subst (λ before. IsNextComponent n edges before c a) (sym (take_at cs (c ∷ []) (length cs) refl)) next)

  -- one node of the order more
  so_far_more : (order : List ℕ) (a : ℕ) → IsInOrder n links order → IsNext n links order a → IsSoFar order → IsSoFar (order ++ a ∷ [])
  so_far_more order a each next sofar =
      let grown : groups_of rows (order ++ a ∷ []) ≡ groups_of rows order ++ add_row (get_or rows a []) [] = groups_more rows order a in
      let here' : (v : ℕ) → v < n → get_or leasts v 0 ≡ a → Contains (get_or rows a []) v
      = λ v lt same. subst (λ b. Contains (get_or rows b []) v) same (g.rows_are.complete v (omega (arith, lt, g.leasts_are.long, g.labels_are.long))) in
      elim (cases_eq (length (get_or rows a [])) 0) [
        | inl none ↦
            let same : groups_of rows (order ++ a ∷ []) ≡ groups_of rows order = grown ∙ ap (λ r. groups_of rows order ++ r) (add_none (get_or rows a []) none) ∙ append-nil (groups_of rows order) in
            record {
              in_order = subst (AreInOrder n edges) (sym same) sofar.in_order;
              placed = λ v lt h. subst (λ cs. IsPlaced cs v) (sym same) (elim (Contains-push_cases order a (get_or leasts v 0) h) [
                | inl old ↦ sofar.placed v lt old
                | inr e ↦ absurd (let m : Contains (get_or rows a []) v = here' v lt (sym e) in omega (arith, m.1, none))
              ]);
              only = λ v p. let old : (v < n) × Contains order (get_or leasts v 0) = sofar.only v (subst (λ cs. IsPlaced cs v) same p) in (old.0, contains_kept order a (get_or leasts v 0) old.1);
            }
        | inr some ↦
            let same : groups_of rows (order ++ a ∷ []) ≡ groups_of rows order ++ get_or rows a [] ∷ [] = grown ∙ ap (λ r. groups_of rows order ++ r) (add_some (get_or rows a []) some) in
            let first : Contains (get_or rows a []) (get_or (get_or rows a []) 0 0) = Contains-get_or (get_or rows a []) 0 0 (omega arith) in
            record {
              in_order = subst (AreInOrder n edges) (sym same) (more_in_order (groups_of rows order) (get_or rows a []) a sofar.in_order (next_component order a (get_or (get_or rows a []) 0 0) each next sofar first));
              placed = λ v lt h. subst (λ cs. IsPlaced cs v) (sym same) (elim (Contains-push_cases order a (get_or leasts v 0) h) [
                | inl old ↦ placed_kept (groups_of rows order) (get_or rows a []) v (sofar.placed v lt old)
                | inr e ↦ placed_new (groups_of rows order) (get_or rows a []) v (here' v lt (sym e))
              ]);
              only = λ v p. elim (placed_cases (groups_of rows order) (get_or rows a []) v (subst (λ cs. IsPlaced cs v) same p)) [
                | inl old ↦ let o : (v < n) × Contains order (get_or leasts v 0) = sofar.only v old in (o.0, contains_kept order a (get_or leasts v 0) o.1)
                | inr new ↦
                    let s : (v < length leasts) × (get_or leasts v 0 ≡ a) = g.rows_are.sound a v new in
                    (omega (arith, s.0, g.leasts_are.long, g.labels_are.long), subst (Contains (order ++ a ∷ [])) (sym s.1) (Contains-push order a))
              ];
            }
      ]

  nothing_placed : (v : ℕ) → IsPlaced [] v → ⊥
  nothing_placed v (k, k_in, h) = absurd (omega (arith, k_in))

  so_far_none : IsSoFar []
  so_far_none = record {
    in_order = subst (AreInOrder n edges) (sym (no_groups rows)) (λ k lt. absurd (omega (arith, lt)));
    placed = λ v lt h. absurd (contains_none (get_or leasts v 0) h);
    only = λ v p. absurd (nothing_placed v (subst (λ cs. IsPlaced cs v) (no_groups rows) p));
  }

  front_in_order : (order : List ℕ) (j : ℕ) → IsInOrder n links order → j ≤ length order → IsInOrder n links (take j order)
  front_in_order order j each le k lt =
      let long : length (take j order) ≡ j = length-take-le j order le in
      let next : IsNext n links (take k order) (get_or order k 0) = each k (omega arith) in
      subst (λ before. IsNext n links before (get_or (take j order) k 0)) (sym (take-take k j order (omega arith)))
      (subst (λ x. IsNext n links (take k order) x) (sym (get_or-take j order k 0 (omega arith))) next)

  so_far : (order : List ℕ) (j : ℕ) → IsInOrder n links order → j ≤ length order → IsSoFar (take j order)
  so_far order zero each le = so_far_none
  so_far order (suc j) each le =
      let lt : j < length order = omega (arith, le) in
      subst IsSoFar (sym (ap (λ k. take k order) (let e : suc j ≡ j + 1 = omega arith in e) ∙ take_more order j 0 lt))
      (so_far_more (take j order) (get_or order j 0) (front_in_order order j each (omega arith)) (each j lt) (so_far order j each (omega arith)))

  pub groups_are : (order : List ℕ) → IsOrder n links order → AreComponents n edges (groups_of rows order)
  groups_are order is =
      let all : IsSoFar order = subst IsSoFar (take_all (length order) order (omega arith)) (so_far order (length order) is.each (omega arith)) in
      record { each = all.in_order; whole = λ v lt. all.placed v lt (is.whole (get_or leasts v 0) (least_in v lt)) }

  -- the links fall by the labels
  pub links_numbered : IsNumbered links
  links_numbered = (
    labels,
    λ a b link.
        let s : (a ≢ b) × ((x : ℕ) × (y : ℕ) × Contains edges (x, y) × (get_or leasts x 0 ≡ a) × (get_or leasts y 0 ≡ b)) = g.links_are.sound a b link in
        let lx : s.1.0 < n = (ends_below n edges s.1.0 s.1.1 g.ends s.1.2).0 in
        let ly : s.1.1 < n = (ends_below n edges s.1.0 s.1.1 g.ends s.1.2).1 in
        let fall : get_or labels s.1.1 0 ≤ get_or labels s.1.0 0 = g.labels_are.falls s.1.0 s.1.1 s.1.2 in
        let la : get_or labels a 0 ≡ get_or labels s.1.0 0 = ap (λ x. get_or labels x 0) (sym s.1.3) ∙ (least_is s.1.0 lx).same in
        let lb : get_or labels b 0 ≡ get_or labels s.1.1 0 = ap (λ x. get_or labels x 0) (sym s.1.4) ∙ (least_is s.1.1 ly).same in
        elim (cases_lt (get_or labels b 0) (get_or labels a 0)) [
          | inl lt ↦ lt
          | inr ge ↦
              let same : get_or labels s.1.0 0 ≡ get_or labels s.1.1 0 = omega arith in
              absurd (s.0 (sym s.1.3 ∙ same_least s.1.0 s.1.1 lx ly same ∙ s.1.4))
        ],
  )

-- one node of the order is taken, with a row that is empty or not
pub groups_none : (rows : List (List ℕ)) (order : List ℕ) (i : ℕ) → i < length order → length (get_or rows (get_or order i 0) []) ≡ 0 → groups_of rows (take i order) ≡ groups_of rows (take (i + 1) order)
groups_none rows order i lt none =
    sym (ap (groups_of rows) (take_more order i 0 lt) ∙ groups_more rows (take i order) (get_or order i 0)
    ∙ ap (λ r. groups_of rows (take i order) ++ r) (add_none (get_or rows (get_or order i 0) []) none) ∙ append-nil (groups_of rows (take i order)))

pub groups_some : (rows : List (List ℕ)) (order : List ℕ) (i : ℕ) → i < length order → (length (get_or rows (get_or order i 0) []) ≡ 0 → ⊥)
    → groups_of rows (take i order) ++ get_or rows (get_or order i 0) [] ∷ [] ≡ groups_of rows (take (i + 1) order)
groups_some rows order i lt some =
    sym (ap (groups_of rows) (take_more order i 0 lt) ∙ groups_more rows (take i order) (get_or order i 0)
    ∙ ap (λ r. groups_of rows (take i order) ++ r) (add_some (get_or rows (get_or order i 0) []) some))

-- ---- what the parts of the search require

pub labels_small : (n : ℕ) (edges : List (ℕ × ℕ)) (labels given : List ℕ) → AreLabels n edges labels → given ≡ labels → All (λ l. l < length given) given
labels_small n edges labels given are is = subst (λ xs. All (λ l. l < length xs) xs) (sym is) small
  where
    small : All (λ l. l < length labels) labels
    small k d k_in =
        let lt : get_or labels k 0 < n = are.small k (omega (arith, are.long)) in
        omega (arith, are.long, get_or_default labels k d 0 k_in)

pub leasts_small : (n : ℕ) (edges : List (ℕ × ℕ)) (labels leasts given : List ℕ) → AreLabels n edges labels → AreLeasts labels leasts → given ≡ leasts → All (λ l. l < length given) given
leasts_small n edges labels leasts given are least is = subst (λ xs. All (λ l. l < length xs) xs) (sym is) small
  where
    small : All (λ l. l < length leasts) leasts
    small k d k_in =
        let le : get_or leasts k 0 ≤ k = (least.each k (omega (arith, least.long))).below in
        omega (arith, get_or_default leasts k d 0 k_in)

pub order_small : (n : ℕ) (links : List (ℕ × ℕ)) (order given : List ℕ) (m : ℕ) → IsInOrder n links order → given ≡ order → m ≡ n → All (λ a. a < m) given
order_small n links order given m each is long = subst (λ xs. All (λ a. a < m) xs) (sym is) small
  where
    small : All (λ a. a < m) order
    small k d k_in =
        let lt : get_or order k 0 < n = (each k k_in).ready.below in
        omega (arith, long, get_or_default order k d 0 k_in)

pub ends_within : (n : ℕ) (edges : List (ℕ × ℕ)) (labels leasts given : List ℕ) → IsWithin n edges → AreLabels n edges labels → AreLeasts labels leasts → given ≡ leasts → IsWithin (length given) edges
ends_within n edges labels leasts given ends are least is = subst (λ m. IsWithin m edges) (sym (ap length is ∙ least.long ∙ are.long)) ends

pub condensed : (n : ℕ) (edges : List (ℕ × ℕ)) (labels given_labels leasts given_leasts given_again : List ℕ) (links : List (ℕ × ℕ)) (rows : List (List ℕ))
    → IsWithin n edges → AreLabels n edges labels → given_labels ≡ labels → AreLeasts given_labels leasts → given_leasts ≡ leasts → AreLinks edges given_leasts links → given_again ≡ leasts → AreGathered given_again rows
    → IsCondensed n edges labels leasts links rows
condensed n edges labels given_labels leasts given_leasts given_again links rows ends are a least b link d members = record {
  ends = ends;
  labels_are = are;
  leasts_are = subst (λ ls. AreLeasts ls leasts) a least;
  links_are = subst (λ ls. AreLinks edges ls links) b link;
  rows_are = subst (λ ls. AreGathered ls rows) d members;
}

-- the ends of the links are nodes
pub links_below : (n : ℕ) (edges : List (ℕ × ℕ)) (labels given_labels leasts given_leasts : List ℕ) (links : List (ℕ × ℕ)) → IsWithin n edges → AreLabels n edges labels → given_labels ≡ labels
    → AreLeasts given_labels leasts → given_leasts ≡ leasts → AreLinks edges given_leasts links → IsWithin n links
links_below n edges labels given_labels leasts given_leasts links ends are a least b link k d k_in =
    let own : AreLeasts labels leasts = subst (λ ls. AreLeasts ls leasts) a least in
    let l : AreLinks edges leasts links = subst (λ ls. AreLinks edges ls links) b link in
    let s : ((get_or links k d).0 ≢ (get_or links k d).1) × ((x : ℕ) × (y : ℕ) × Contains edges (x, y) × (get_or leasts x 0 ≡ (get_or links k d).0) × (get_or leasts y 0 ≡ (get_or links k d).1))
    = l.sound (get_or links k d).0 (get_or links k d).1 (Contains-get_or links k d k_in) in
    let lx : s.1.0 < n = (ends_below n edges s.1.0 s.1.1 ends s.1.2).0 in
    let ly : s.1.1 < n = (ends_below n edges s.1.0 s.1.1 ends s.1.2).1 in
    let x : get_or leasts s.1.0 0 ≤ s.1.0 = (own.each s.1.0 (omega (arith, are.long, lx))).below in
    let y : get_or leasts s.1.1 0 ≤ s.1.1 = (own.each s.1.1 (omega (arith, are.long, ly))).below in
    (omega (arith, s.1.3), omega (arith, s.1.4))

pub whole_links : (n : ℕ) (edges : List (ℕ × ℕ)) (labels leasts : List ℕ) (links given : List (ℕ × ℕ)) (rows : List (List ℕ)) (order : List ℕ)
    → IsCondensed n edges labels leasts links rows → given ≡ links → IsInOrder n given order → ((node : ℕ) → MayCome n given order node → ⊥) → AreComponents n edges (groups_of rows order)
whole_links n edges labels leasts links given rows order g is each all =
    groups_are n edges labels leasts links rows g order
    (whole_order n links order (links_below n edges labels labels leasts leasts links g.ends g.labels_are refl g.leasts_are refl g.links_are) (links_numbered n edges labels leasts links rows g)
    (subst (λ es. IsInOrder n es order) is each) (subst (λ es. (node : ℕ) → MayCome n es order node → ⊥) is all))

pub is_zero : (n : ℕ) → true ≡ (n == 0) → n ≡ 0
is_zero n is = grind (arith, nat_tests)

pub not_zero : (n : ℕ) → false ≡ (n == 0) → n ≡ 0 → ⊥
not_zero n is none = grind (arith, nat_tests)
