-- The first node on a cycle, and the nearest node of a row, one element at a time.
use Rattle.std.proofs.Common.{◌≡◌, ◌<◌, ◌≤◌, ◌++◌, ◌∷◌, ℕ, [], List, Option, Some, None, get_or, min, arith, sym, ◌∙◌, subst, inl, inr}
use Rattle.std.specs.Prelude.{Contains, IfNone, IfSome}
use Rattle.std.proofs.lemmas.Bool.{cases_lt}
use Rattle.std.proofs.lemmas.List.Elements.{Contains-push}
use Rattle.hr_graph.specs.Graph.{IsWithin, LeadsTo, here, along}
use Rattle.hr_graph.specs.Strong.{AreLabels}
use Rattle.hr_graph.specs.Levels.{steps_of}
use Rattle.hr_graph.specs.Cycle.{IsNumbered, IsFirstOn, IsFirstEqual, IsNearest, IsNearer, IsNotAfter, lesser}
use Rattle.hr_graph.proofs.LevelSteps.{ends_below}
use Rattle.hr_graph.proofs.Members.{contains_none, contains_more, contains_kept}

some_same : {X : Type 0} (x y : X) → ◌≡◌ {A = Option X} (Some x) (Some y) → x ≡ y
some_same x y e = cc

none_some : {X : Type 0} (x : X) → ◌≡◌ {A = Option X} None (Some x) → ⊥
none_some x e = cc

-- ---- the first equal

pub equal_start : (numbers : List ℕ) → IsFirstEqual numbers [] None
equal_start numbers u v h = absurd (contains_none (u, v) h)

pub equal_yes : (numbers : List ℕ) (edges : List (ℕ × ℕ)) (first : Option ℕ) (e : ℕ × ℕ) → get_or numbers e.0 0 ≡ get_or numbers e.1 0 → IsFirstEqual numbers edges first → IsFirstEqual numbers (edges ++ e ∷ []) (Some (lesser first e.0))
equal_yes numbers edges None e same keeps = (
  (e.1, Contains-push edges e, same),
  λ u v h eq. contains_more (λ x. get_or numbers x.0 0 ≡ get_or numbers x.1 0 → e.0 ≤ x.0) edges e (λ x old eq. absurd (keeps x.0 x.1 old eq)) (λ _. let le : e.0 ≤ e.0 = omega arith in le) (u, v) h eq,
)
equal_yes numbers edges (Some first) e same keeps = (
  elim (cases_lt first e.0) [
    | inl lt ↦
        let is : min first e.0 ≡ first = omega arith in
        subst (λ m. (target : ℕ) × Contains (edges ++ e ∷ []) (m, target) × (get_or numbers m 0 ≡ get_or numbers target 0)) (sym is)
        (keeps.0.0, contains_kept edges e (first, keeps.0.0) keeps.0.1, keeps.0.2)
    | inr ge ↦
        let is : min first e.0 ≡ e.0 = omega arith in
        subst (λ m. (target : ℕ) × Contains (edges ++ e ∷ []) (m, target) × (get_or numbers m 0 ≡ get_or numbers target 0)) (sym is) (e.1, Contains-push edges e, same)
  ],
  λ u v h eq. contains_more (λ x. get_or numbers x.0 0 ≡ get_or numbers x.1 0 → min first e.0 ≤ x.0) edges e
      (λ x old eq. let le : first ≤ x.0 = keeps.1 x.0 x.1 old eq in omega arith) (λ _. omega arith) (u, v) h eq,
)

pub equal_no : (numbers : List ℕ) (edges : List (ℕ × ℕ)) (first : Option ℕ) (e : ℕ × ℕ) → (get_or numbers e.0 0 ≡ get_or numbers e.1 0 → ⊥) → IsFirstEqual numbers edges first → IsFirstEqual numbers (edges ++ e ∷ []) first
equal_no numbers edges None e differ keeps = λ u v h eq.
    contains_more (λ x. get_or numbers x.0 0 ≡ get_or numbers x.1 0 → ⊥) edges e (λ x old eq. keeps x.0 x.1 old eq) differ (u, v) h eq
equal_no numbers edges (Some first) e differ keeps = (
  (keeps.0.0, contains_kept edges e (first, keeps.0.0) keeps.0.1, keeps.0.2),
  λ u v h eq. contains_more (λ x. get_or numbers x.0 0 ≡ get_or numbers x.1 0 → first ≤ x.0) edges e (λ x old eq. keeps.1 x.0 x.1 old eq) (λ eq. absurd (differ eq)) (u, v) h eq,
)

-- ---- by labels

-- a way leads to no greater label
pub labels_fall : (nodes : ℕ) (edges : List (ℕ × ℕ)) (labels : List ℕ) (u w : ℕ) → AreLabels nodes edges labels → LeadsTo edges u w → get_or labels w 0 ≤ get_or labels u 0
labels_fall nodes edges labels u w are (here _) = omega arith
labels_fall nodes edges labels u w are (along _ v _ edge rest) = let le : get_or labels v 0 ≤ get_or labels u 0 = are.falls u v edge in omega (arith, labels_fall nodes edges labels v w are rest)

pub numbered : (nodes : ℕ) (edges : List (ℕ × ℕ)) (labels : List ℕ) → AreLabels nodes edges labels → IsFirstEqual labels edges None → IsNumbered edges
numbered nodes edges labels are differ = (
  labels,
  λ u v edge.
      let le : get_or labels v 0 ≤ get_or labels u 0 = are.falls u v edge in
      elim (cases_lt (get_or labels v 0) (get_or labels u 0)) [ inl lt ↦ lt | inr ge ↦ absurd (differ u v edge (omega arith)) ],
)

pub first_on : (nodes : ℕ) (edges : List (ℕ × ℕ)) (labels : List ℕ) (first : ℕ) → ((u v : ℕ) → Contains edges (u, v) → (u < nodes) × (v < nodes)) → AreLabels nodes edges labels → IsFirstEqual labels edges (Some first) → IsFirstOn edges first
first_on nodes edges labels first ends are found =
    let e : (first < nodes) × (found.0.0 < nodes) = ends first found.0.0 found.0.1 in
    record {
      target = found.0.0;
      edge = found.0.1;
      back = are.way found.0.0 first e.1 e.0 (sym found.0.2);
      least = λ u v edge back.
          let le : get_or labels v 0 ≤ get_or labels u 0 = are.falls u v edge in
          let ge : get_or labels u 0 ≤ get_or labels v 0 = labels_fall nodes edges labels v u are back in
          found.1 u v edge (omega arith);
    }

-- ---- the nearest

pub not_after_join : (a b c : ℕ × ℕ) → IsNotAfter a b → IsNotAfter b c → IsNotAfter a c
not_after_join a b c (inl ab) (inl bc) = inl (omega arith)
not_after_join a b c (inl ab) (inr bc) = inl (omega (arith, ab, bc.0))
not_after_join a b c (inr ab) (inl bc) = inl (omega (arith, ab.0, bc))
not_after_join a b c (inr ab) (inr bc) = inr (ab.0 ∙ bc.0, omega (arith, ab.1, bc.1))

pub nearest_some : (row : List ℕ) (steps : List (Option ℕ)) (best : Option (ℕ × ℕ)) (v k : ℕ) (x : ℕ × ℕ) → IsNearest row steps best → steps_of steps v ≡ Some k → IsNearer best (k, v) x → IsNearest (row ++ v ∷ []) steps (Some x)
nearest_some row steps None v k x keeps is n =
    let at : x ≡ (k, v) = elim n.one [ inl e ↦ e | inr none ↦ absurd (none_some x none) ] in (
      subst (λ y. Contains (row ++ v ∷ []) y.1) (sym at) (Contains-push row v),
      subst (λ y. steps_of steps y.1 ≡ Some y.0) (sym at) is,
      λ w j h at_w. contains_more (λ w. (j : ℕ) → steps_of steps w ≡ Some j → IsNotAfter x (j, w)) row v
          (λ w old j at_w. absurd (keeps w j old at_w))
          (λ j at_v. subst (λ j. IsNotAfter x (j, v)) (some_same k j (sym is ∙ at_v)) n.new) w h j at_w,
    )
nearest_some row steps (Some best) v k x keeps is n =
    let both : Contains (row ++ v ∷ []) x.1 × (steps_of steps x.1 ≡ Some x.0) = elim n.one [
      | inl e ↦ (subst (λ y. Contains (row ++ v ∷ []) y.1) (sym e) (Contains-push row v), subst (λ y. steps_of steps y.1 ≡ Some y.0) (sym e) is)
      | inr e ↦
          let same : best ≡ x = some_same best x e in
          (subst (λ y. Contains (row ++ v ∷ []) y.1) same (contains_kept row v best.1 keeps.0), subst (λ y. steps_of steps y.1 ≡ Some y.0) same keeps.1)
    ] in (
      both.0,
      both.1,
      λ w j h at_w. contains_more (λ w. (j : ℕ) → steps_of steps w ≡ Some j → IsNotAfter x (j, w)) row v
          (λ w old j at_w. not_after_join x best (j, w) n.old (keeps.2 w j old at_w))
          (λ j at_v. subst (λ j. IsNotAfter x (j, v)) (some_same k j (sym is ∙ at_v)) n.new) w h j at_w,
    )

pub nearest_none : (row : List ℕ) (steps : List (Option ℕ)) (best : Option (ℕ × ℕ)) (v : ℕ) → IsNearest row steps best → steps_of steps v ≡ None → IsNearest (row ++ v ∷ []) steps best
nearest_none row steps None v keeps is = λ w j h at_w.
    contains_more (λ w. (j : ℕ) → steps_of steps w ≡ Some j → ⊥) row v (λ w old j at_w. keeps w j old at_w) (λ j at_v. none_some j (sym is ∙ at_v)) w h j at_w
nearest_none row steps (Some best) v keeps is = (
  contains_kept row v best.1 keeps.0,
  keeps.1,
  λ w j h at_w. contains_more (λ w. (j : ℕ) → steps_of steps w ≡ Some j → IsNotAfter best (j, w)) row v
      (λ w old j at_w. keeps.2 w j old at_w) (λ j at_v. absurd (none_some j (sym is ∙ at_v))) w h j at_w,
)

pub found_none : (nodes : ℕ) (edges : List (ℕ × ℕ)) (labels : List ℕ) (r : Option ℕ) → AreLabels nodes edges labels → IsFirstEqual labels edges r → IfNone r (IsNumbered edges)
found_none nodes edges labels None are found = numbered nodes edges labels are found
found_none nodes edges labels (Some first) are found = tt

pub found_some : (nodes : ℕ) (edges : List (ℕ × ℕ)) (labels : List ℕ) (r : Option ℕ) → IsWithin nodes edges → AreLabels nodes edges labels → IsFirstEqual labels edges r → IfSome r (IsFirstOn edges)
found_some nodes edges labels None ends are found = tt
found_some nodes edges labels (Some first) ends are found = first_on nodes edges labels first (λ u v h. ends_below nodes edges u v ends h) are found
