-- The search by levels keeps its invariant.
use Rattle.std.proofs.Common.{◌≡◌, ◌⊎◌, ◌+◌, ◌<◌, ◌≤◌, ◌++◌, ◌∷◌, ℕ, zero, suc, [], List, Option, Some, None, length, take, get_or, set, replicate, arith, sym, ◌∙◌, ap, subst, refl, inl, inr}
use Rattle.std.specs.Prelude.{Contains, AllPairs}
use Rattle.std.proofs.lemmas.Bool.{cases_eq, cases_lt}
use Rattle.std.proofs.lemmas.List.{length_push, length-set, get_or_append_left, get_or-set_same, get_or-set_other, get_or-replicate, get_or_past, length-replicate, take_more, get_or-map, length-map, get_or_read, take_all}
use Rattle.std.proofs.lemmas.List.Elements.{Contains-push, Contains-push_cases, Contains-get_or}
use Rattle.std.proofs.lemmas.List.Quantifiers.{all_pairs_push}
use Rattle.hr_graph.specs.Graph.{IsWithin, turned}
use Rattle.hr_graph.specs.Rows.{AreRows}
use Rattle.hr_graph.specs.Levels.{steps_of, AreSteps, Reached}
use Rattle.hr_graph.proofs.Members.{contains_none, contains_more, contains_kept}
use Rattle.hr_graph.proofs.StrongSteps.{at_push}

-- the node has at most so many steps
abbrev pub HasSteps : List (Option ℕ) → ℕ → ℕ → Type 0
HasSteps steps u bound = (j : ℕ) × (steps_of steps u ≡ Some j) × (j ≤ bound)

-- the goal, or a node one step before another
abbrev pub IsStepped : List (ℕ × ℕ) → ℕ → List (Option ℕ) → ℕ → ℕ → Type 0
IsStepped edges goal steps u k = (u ≡ goal) ⊎ ((v : ℕ) × (j : ℕ) × Contains edges (u, v) × (steps_of steps v ≡ Some j) × (k ≡ j + 1))

-- What the search keeps while the node at the place is looked at, and its steps are the level: those
-- before it have been looked at, and no node has more than one step more.
pub record IsLevels (edges : List (ℕ × ℕ)) (goal : ℕ) (steps : List (Option ℕ)) (queue : List (ℕ × ℕ)) (place level : ℕ) : Type 0 where
  pub queued : (u k : ℕ) → Contains queue (u, k) → steps_of steps u ≡ Some k
  pub in_queue : (u k : ℕ) → steps_of steps u ≡ Some k → Contains queue (u, k)
  pub rise : AllPairs (λ e f. e.1 ≤ f.1) queue
  pub small : (a : ℕ) (d : ℕ × ℕ) → a < length queue → (get_or queue a d).1 ≤ a
  pub near : (u k : ℕ) → Contains queue (u, k) → k ≤ level + 1
  pub looked : (a : ℕ) (d : ℕ × ℕ) (u : ℕ) → a < place → a < length queue → Contains edges (u, (get_or queue a d).0) → HasSteps steps u ((get_or queue a d).1 + 1)
  pub at_goal : steps_of steps goal ≡ Some 0
  pub stepped : (u k : ℕ) → steps_of steps u ≡ Some k → IsStepped edges goal steps u k

some_is : (j k : ℕ) → ◌≡◌ {A = Option ℕ} (Some j) (Some k) → j ≡ k
some_is j k e = cc

none_some : (k : ℕ) → ◌≡◌ {A = Option ℕ} None (Some k) → ⊥
none_some k e = cc

-- steps that are set stay set
kept : (steps : List (Option ℕ)) (v count : ℕ) → v < length steps → steps_of steps v ≡ None → (u j : ℕ) → steps_of steps u ≡ Some j → steps_of (set steps v (Some count)) u ≡ Some j
kept steps v count within none u j is = elim (cases_eq u v) [
  | inl e ↦ absurd (none_some j (sym (ap (steps_of steps) e ∙ none) ∙ is))
  | inr ne ↦ get_or-set_other steps v u (Some count) None ne ∙ is
]

has_kept : (steps : List (Option ℕ)) (v count : ℕ) → v < length steps → steps_of steps v ≡ None → (u bound : ℕ) → HasSteps steps u bound → HasSteps (set steps v (Some count)) u bound
has_kept steps v count within none u bound h = (h.0, kept steps v count within none u h.0 h.1, h.2)

stepped_kept : (edges : List (ℕ × ℕ)) (goal : ℕ) (steps : List (Option ℕ)) (v count : ℕ) → v < length steps → steps_of steps v ≡ None → (u k : ℕ) → IsStepped edges goal steps u k → IsStepped edges goal (set steps v (Some count)) u k
stepped_kept edges goal steps v count within none u k h = elim h [
  | inl at ↦ inl at
  | inr w ↦ inr (w.0, w.1, w.2, kept steps v count within none w.0 w.1 w.3, w.4)
]

-- a node that has no steps yet is reached from the one that is looked at
reach_new : (edges : List (ℕ × ℕ)) (goal : ℕ) (steps : List (Option ℕ)) (queue : List (ℕ × ℕ)) (place level u v : ℕ)
    → IsLevels edges goal steps queue place level → u < length steps → steps_of steps u ≡ None → Contains edges (u, v) → steps_of steps v ≡ Some level
    → place < length queue → level ≤ place
    → IsLevels edges goal (set steps u (Some (level + 1))) (queue ++ (u, level + 1) ∷ []) place level
reach_new edges goal steps queue place level u v keeps within none edge at place_in low =
    let same : (w k : ℕ) → steps_of steps w ≡ Some k → steps_of (set steps u (Some (level + 1))) w ≡ Some k = kept steps u (level + 1) within none in
    let new : steps_of (set steps u (Some (level + 1))) u ≡ Some (level + 1) = get_or-set_same steps u (Some (level + 1)) None within in
    let old : (w k : ℕ) → steps_of (set steps u (Some (level + 1))) w ≡ Some k → (steps_of steps w ≡ Some k) ⊎ ((w ≡ u) × (k ≡ level + 1))
    = λ w k is. elim (cases_eq w u) [
      | inl e ↦ inr (e, some_is k (level + 1) (sym is ∙ ap (steps_of (set steps u (Some (level + 1)))) e ∙ new))
      | inr ne ↦ inl (sym (get_or-set_other steps u w (Some (level + 1)) None ne) ∙ is)
    ] in
    record {
      queued = λ w k h. elim (Contains-push_cases queue (u, level + 1) (w, k) h) [
        | inl was ↦ same w k (keeps.queued w k was)
        | inr is ↦ ap (steps_of (set steps u (Some (level + 1)))) (ap (λ e. e.0) (sym is)) ∙ new ∙ ap Some (ap (λ e. e.1) is)
      ];
      in_queue = λ w k is. elim (old w k is) [
        | inl was ↦ contains_kept queue (u, level + 1) (w, k) (keeps.in_queue w k was)
        | inr e ↦ subst (λ w. Contains (queue ++ (u, level + 1) ∷ []) (w, k)) (sym e.0) (subst (λ k. Contains (queue ++ (u, level + 1) ∷ []) (u, k)) (sym e.1) (Contains-push queue (u, level + 1)))
      ];
      rise = all_pairs_push (λ e f. e.1 ≤ f.1) queue (u, level + 1) keeps.rise
          (λ k d lt. keeps.near (get_or queue k d).0 (get_or queue k d).1 (Contains-get_or queue k d lt));
      small = λ a d a_in. at_push (λ a e. e.1 ≤ a) queue (u, level + 1) d (λ a lt. keeps.small a d lt) (let le : level + 1 ≤ length queue = omega arith in le) a a_in;
      near = λ w k h. elim (Contains-push_cases queue (u, level + 1) (w, k) h) [
        | inl was ↦ keeps.near w k was
        | inr is ↦ omega (arith, ap (λ e. e.1) is)
      ];
      looked = λ a d w before a_in edge.
          let lt : a < length queue = omega arith in
          let e : get_or (queue ++ (u, level + 1) ∷ []) a d ≡ get_or queue a d = get_or_append_left queue ((u, level + 1) ∷ []) d a lt in
          subst (λ x. HasSteps (set steps u (Some (level + 1))) w (x.1 + 1)) (sym e)
          (has_kept steps u (level + 1) within none w ((get_or queue a d).1 + 1) (keeps.looked a d w before lt (subst (λ x. Contains edges (w, x.0)) e edge)));
      at_goal = same goal 0 keeps.at_goal;
      stepped = λ w k is. elim (old w k is) [
        | inl was ↦ stepped_kept edges goal steps u (level + 1) within none w k (keeps.stepped w k was)
        | inr e ↦ inr (v, level, subst (λ w. Contains edges (w, v)) (sym e.0) edge, same v level at, e.1)
      ];
    }

-- a node before the one that is looked at is reached
reached_by : (edges : List (ℕ × ℕ)) (goal : ℕ) (steps after : List (Option ℕ)) (queue queue_after : List (ℕ × ℕ)) (place level u v : ℕ) (known : Option ℕ)
    → IsLevels edges goal steps queue place level → u < length steps → steps_of steps u ≡ known → Contains edges (u, v) → steps_of steps v ≡ Some level
    → place < length queue → level ≤ place → Reached known u (level + 1) steps after queue queue_after
    → IsLevels edges goal after queue_after place level × HasSteps after u (level + 1)
reached_by edges goal steps after queue queue_after place level u v None keeps within is edge at place_in low r =
    subst (λ s. IsLevels edges goal s queue_after place level × HasSteps s u (level + 1)) (sym r.0)
    (subst (λ q. IsLevels edges goal (set steps u (Some (level + 1))) q place level × HasSteps (set steps u (Some (level + 1))) u (level + 1)) (sym r.1) (
      reach_new edges goal steps queue place level u v keeps within is edge at place_in low,
      (level + 1, get_or-set_same steps u (Some (level + 1)) None within, (let le : level + 1 ≤ level + 1 = omega arith in le)),
    ))
reached_by edges goal steps after queue queue_after place level u v (Some k) keeps within is edge at place_in low r =
    subst (λ s. IsLevels edges goal s queue_after place level × HasSteps s u (level + 1)) (sym r.0)
    (subst (λ q. IsLevels edges goal steps q place level × HasSteps steps u (level + 1)) (sym r.1)
    (keeps, (k, is, keeps.near u k (keeps.in_queue u k is))))

pub reached : (edges : List (ℕ × ℕ)) (goal : ℕ) (steps after : List (Option ℕ)) (queue queue_after : List (ℕ × ℕ)) (place level u v : ℕ)
    → IsLevels edges goal steps queue place level → u < length steps → Contains edges (u, v) → steps_of steps v ≡ Some level
    → place < length queue → level ≤ place → Reached (steps_of steps u) u (level + 1) steps after queue queue_after
    → IsLevels edges goal after queue_after place level × HasSteps after u (level + 1)
reached edges goal steps after queue queue_after place level u v keeps within edge at place_in low r =
    reached_by edges goal steps after queue queue_after place level u v (steps_of steps u) keeps within refl edge at place_in low r

-- ---- how many nodes have no steps

pub nones : List (Option ℕ) → ℕ
nones [] = 0
nones (None ∷ steps) = suc (nones steps)
nones (Some k ∷ steps) = nones steps

nones_set : (steps : List (Option ℕ)) (u k : ℕ) → u < length steps → steps_of steps u ≡ None → nones (set steps u (Some k)) + 1 ≡ nones steps
unfolding nones
nones_set [] u k within is = absurd (omega (arith, within))
nones_set (None ∷ steps) zero k within is = omega arith
nones_set (Some j ∷ steps) zero k within is = let clash : ◌≡◌ {A = Option ℕ} (Some j) None = is in cc
nones_set (None ∷ steps) (suc u) k within is = omega (arith, nones_set steps u k (omega (arith, within)) is)
nones_set (Some j ∷ steps) (suc u) k within is = nones_set steps u k (omega (arith, within)) is

-- what stays when a node is reached
pub record Stays (steps after : List (Option ℕ)) (queue queue_after : List (ℕ × ℕ)) : Type 0 where
  pub long : length after ≡ length steps
  pub kept : (u j : ℕ) → steps_of steps u ≡ Some j → steps_of after u ≡ Some j
  pub front : (a : ℕ) (d : ℕ × ℕ) → a < length queue → get_or queue_after a d ≡ get_or queue a d
  pub grows : length queue ≤ length queue_after
  pub total : nones after + length queue_after ≡ nones steps + length queue

stays_by : (steps after : List (Option ℕ)) (queue queue_after : List (ℕ × ℕ)) (u k : ℕ) (known : Option ℕ) → u < length steps → steps_of steps u ≡ known → Reached known u k steps after queue queue_after → Stays steps after queue queue_after
stays_by steps after queue queue_after u k None within is r =
    subst (λ s. Stays steps s queue queue_after) (sym r.0) (subst (λ q. Stays steps (set steps u (Some k)) queue q) (sym r.1) (record {
      long = length-set steps u (Some k);
      kept = kept steps u k within is;
      front = λ a d lt. get_or_append_left queue ((u, k) ∷ []) d a lt;
      grows = omega (arith, length_push queue (u, k));
      total = omega (arith, length_push queue (u, k), nones_set steps u k within is);
    }))
stays_by steps after queue queue_after u k (Some j) within is r =
    subst (λ s. Stays steps s queue queue_after) (sym r.0) (subst (λ q. Stays steps steps queue q) (sym r.1) (record {
      long = refl;
      kept = λ v j at. at;
      front = λ a d lt. refl;
      grows = omega arith;
      total = refl;
    }))

pub stays : (steps after : List (Option ℕ)) (queue queue_after : List (ℕ × ℕ)) (u k : ℕ) → u < length steps → Reached (steps_of steps u) u k steps after queue queue_after → Stays steps after queue queue_after
stays steps after queue queue_after u k within r = stays_by steps after queue queue_after u k (steps_of steps u) within refl r

-- ---- from one node of the queue to the next, the start and the end

pub advance : (edges : List (ℕ × ℕ)) (goal : ℕ) (steps : List (Option ℕ)) (queue : List (ℕ × ℕ)) (place level : ℕ) (node : ℕ)
    → IsLevels edges goal steps queue place level → place < length queue → ((d : ℕ × ℕ) → get_or queue place d ≡ (node, level))
    → ((u : ℕ) → Contains edges (u, node) → HasSteps steps u (level + 1))
    → IsLevels edges goal steps queue (place + 1) (get_or queue (place + 1) (goal, length queue)).1
advance edges goal steps queue place level node keeps place_in here before = record {
  queued = keeps.queued;
  in_queue = keeps.in_queue;
  rise = keeps.rise;
  small = keeps.small;
  near = λ u k h. elim (cases_lt (place + 1) (length queue)) [
    | inl lt ↦
        let up : (get_or queue place (goal, length queue)).1 ≤ (get_or queue (place + 1) (goal, length queue)).1 = keeps.rise place (place + 1) (goal, length queue) (omega arith) lt in
        let at : (get_or queue place (goal, length queue)).1 ≡ level = ap (λ e. e.1) (here (goal, length queue)) in
        omega (arith, keeps.near u k h)
    | inr ge ↦
        let at : k ≤ h.0 = let le : (get_or queue h.0 (u, k)).1 ≤ h.0 = keeps.small h.0 (u, k) h.1 in omega (arith, ap (λ e. e.1) h.2) in
        let past : (get_or queue (place + 1) (goal, length queue)).1 ≡ length queue = ap (λ e. e.1) (get_or_past queue (place + 1) (goal, length queue) ge) in
        omega (arith, h.1)
  ];
  looked = λ a d u lt a_in edge. elim (cases_lt a place) [
    | inl earlier ↦ keeps.looked a d u earlier a_in edge
    | inr ge ↦
        let same : a ≡ place = omega arith in
        let at : get_or queue a d ≡ (node, level) = ap (λ a. get_or queue a d) same ∙ here d in
        subst (λ e. HasSteps steps u (e.1 + 1)) (sym at) (before u (subst (λ e. Contains edges (u, e.0)) at edge))
  ];
  at_goal = keeps.at_goal;
  stepped = keeps.stepped;
}

no_steps : (n u : ℕ) → steps_of (replicate n None) u ≡ None
no_steps n u = elim (cases_lt u n) [
  | inl lt ↦ get_or-replicate n u None None lt
  | inr ge ↦ get_or_past (replicate n None) u None (omega (arith, length-replicate n (let o : Option ℕ = None in o), ge))
]

first_levels : (n : ℕ) (edges : List (ℕ × ℕ)) (goal : ℕ) → goal < n → IsLevels edges goal (set (replicate n None) goal (Some 0)) ((goal, 0) ∷ []) 0 0
first_levels n edges goal within =
    let long : length (replicate n (let o : Option ℕ = None in o)) ≡ n = length-replicate n None in
    let new : steps_of (set (replicate n None) goal (Some 0)) goal ≡ Some 0 = get_or-set_same (replicate n None) goal (Some 0) None (omega arith) in
    let only : (u k : ℕ) → steps_of (set (replicate n None) goal (Some 0)) u ≡ Some k → (u ≡ goal) × (k ≡ 0) = λ u k is. elim (cases_eq u goal) [
      | inl e ↦ (e, some_is k 0 (sym is ∙ ap (steps_of (set (replicate n None) goal (Some 0))) e ∙ new))
      | inr ne ↦ absurd (none_some k (sym (get_or-set_other (replicate n None) goal u (Some 0) None ne ∙ no_steps n u) ∙ is))
    ] in
    let one : (u k : ℕ) → Contains {X = ℕ × ℕ} ((goal, 0) ∷ []) (u, k) → (u ≡ goal) × (k ≡ 0) = λ u k h. elim (Contains-push_cases [] (goal, 0) (u, k) h) [
      | inl none ↦ absurd (contains_none (u, k) none)
      | inr is ↦ (ap (λ e. e.0) (sym is), ap (λ e. e.1) (sym is))
    ] in
    record {
      queued = λ u k h. let w : (u ≡ goal) × (k ≡ 0) = one u k h in ap (steps_of (set (replicate n None) goal (Some 0))) w.0 ∙ new ∙ ap Some (sym w.1);
      in_queue = λ u k is. let w : (u ≡ goal) × (k ≡ 0) = only u k is in
          subst (λ u. Contains {X = ℕ × ℕ} ((goal, 0) ∷ []) (u, k)) (sym w.0) (subst (λ k. Contains {X = ℕ × ℕ} ((goal, 0) ∷ []) (goal, k)) (sym w.1) (Contains-push [] (goal, 0)));
      rise = λ i j d lt j_in. absurd (omega (arith, j_in, lt));
      small = λ a d a_in. let zero_is : a ≡ 0 = omega (arith, a_in) in subst (λ a. (get_or {A = ℕ × ℕ} ((goal, 0) ∷ []) a d).1 ≤ a) (sym zero_is) (let le : 0 ≤ 0 = omega arith in le);
      near = λ u k h. omega (arith, (one u k h).1);
      looked = λ a d u lt. absurd (omega (arith, lt));
      at_goal = new;
      stepped = λ u k is. inl (only u k is).0;
    }

-- the search begins at the goal
pub start_levels : (n : ℕ) (edges : List (ℕ × ℕ)) (goal : ℕ) (steps after : List (Option ℕ)) (queue queue_after : List (ℕ × ℕ)) → goal < n → steps ≡ replicate n None → queue ≡ []
    → Reached (steps_of steps goal) goal 0 steps after queue queue_after
    → (IsLevels edges goal after queue_after 0 (get_or queue_after 0 (goal, length queue_after)).1) × (length after ≡ n)
start_levels n edges goal steps after queue queue_after within is empty r =
    let none : steps_of steps goal ≡ None = ap (λ s. steps_of s goal) is ∙ no_steps n goal in
    let new : (after ≡ set steps goal (Some 0)) × (queue_after ≡ queue ++ (goal, 0) ∷ []) = subst (λ o. Reached o goal 0 steps after queue queue_after) none r in
    let a : after ≡ set (replicate n None) goal (Some 0) = new.0 ∙ ap (λ s. set s goal (Some 0)) is in
    let q : queue_after ≡ (goal, 0) ∷ [] = new.1 ∙ ap (λ q. q ++ (goal, 0) ∷ []) empty in (
      subst (λ s. IsLevels edges goal s queue_after 0 (get_or queue_after 0 (goal, length queue_after)).1) (sym a)
          (subst (λ q. IsLevels edges goal (set (replicate n None) goal (Some 0)) q 0 (get_or q 0 (goal, length q)).1) (sym q) (first_levels n edges goal within)),
      ap length a ∙ length-set (replicate n None) goal (Some 0) ∙ length-replicate n None,
    )

pub levels_done : (n : ℕ) (edges : List (ℕ × ℕ)) (goal : ℕ) (steps : List (Option ℕ)) (queue : List (ℕ × ℕ)) (place level : ℕ)
    → IsLevels edges goal steps queue place level → length queue ≤ place → length steps ≡ n → AreSteps n edges goal steps
levels_done n edges goal steps queue place level keeps past long = record {
  long = long;
  at_goal = keeps.at_goal;
  falls = λ u v k edge is.
      let h : (a : ℕ) × (a < length queue) × (get_or queue a (v, k) ≡ (v, k)) = keeps.in_queue v k is in
      let found : HasSteps steps u ((get_or queue h.0 (v, k)).1 + 1) = keeps.looked h.0 (v, k) u (omega (arith, h.1)) h.1 (subst (λ e. Contains edges (u, e.0)) (sym h.2) edge) in
      (found.0, found.1, omega (arith, found.2, ap (λ e. e.1) h.2));
  next = keeps.stepped;
}

-- ---- edges turned round

abbrev turned_edge : ℕ × ℕ → ℕ × ℕ
turned_edge e = (e.1, e.0)

pub edge_back : (edges : List (ℕ × ℕ)) (u v : ℕ) → Contains (turned edges) (v, u) → Contains edges (u, v)
edge_back edges u v (k, within, is) =
    let lt : k < length edges = omega (arith, within, length-map edges turned_edge) in
    let at : get_or (turned edges) k (v, u) ≡ ((get_or edges k (u, v)).1, (get_or edges k (u, v)).0) = get_or-map turned_edge edges k (u, v) (v, u) lt in
    let both : ◌≡◌ {A = ℕ × ℕ} ((get_or edges k (u, v)).1, (get_or edges k (u, v)).0) (v, u) = sym at ∙ is in
    (k, lt, λ i. ((both i).1, (both i).0))

pub edge_turned : (edges : List (ℕ × ℕ)) (u v : ℕ) → Contains edges (u, v) → Contains (turned edges) (v, u)
edge_turned edges u v (k, within, is) =
    let lt : k < length (turned edges) = omega (arith, within, length-map edges turned_edge) in
    (k, lt, get_or-map turned_edge edges k (u, v) (v, u) within ∙ (λ i. ((is i).1, (is i).0)))

pub turned_within : (n : ℕ) (edges : List (ℕ × ℕ)) → IsWithin n edges → IsWithin n (turned edges)
turned_within n edges ends k d within =
    let lt : k < length edges = omega (arith, within, length-map edges turned_edge) in
    let old : ((get_or edges k d).0 < n) × ((get_or edges k d).1 < n) = ends k d lt in
    subst (λ e. (e.0 < n) × (e.1 < n)) (sym (get_or-map turned_edge edges k d d lt)) (old.1, old.0)

-- ---- the rows of the graph turned round

pub some_within : (steps : List (Option ℕ)) (u k : ℕ) → steps_of steps u ≡ Some k → u < length steps
some_within steps u k is = elim (cases_lt u (length steps)) [
  | inl lt ↦ lt
  | inr ge ↦ absurd (none_some k (sym (get_or_past steps u None ge) ∙ is))
]

pub ends_below : (n : ℕ) (edges : List (ℕ × ℕ)) (u v : ℕ) → IsWithin n edges → Contains edges (u, v) → (u < n) × (v < n)
ends_below n edges u v ends h =
    let e : ((get_or edges h.0 (u, v)).0 < n) × ((get_or edges h.0 (u, v)).1 < n) = ends h.0 (u, v) h.1 in
    (omega (arith, e.0, ap (λ e. e.0) h.2), omega (arith, e.1, ap (λ e. e.1) h.2))

pub row_edge : (n : ℕ) (edges : List (ℕ × ℕ)) (rows : List (List ℕ)) (row : List ℕ) (u v : ℕ) → AreRows n (turned edges) rows → row ≡ get_or rows v [] → Contains row u → Contains edges (u, v)
row_edge n edges rows row u v are is h = edge_back edges u v (are.sound v u (subst (λ r. Contains r u) is h))

pub edge_row : (n : ℕ) (edges : List (ℕ × ℕ)) (rows : List (List ℕ)) (row : List ℕ) (u v : ℕ) → AreRows n (turned edges) rows → row ≡ get_or rows v [] → Contains edges (u, v) → Contains row u
edge_row n edges rows row u v are is h = subst (λ r. Contains r u) (sym is) (are.complete v u (edge_turned edges u v h))

-- what the loop over a row keeps
pub record IsLooking (n : ℕ) (edges : List (ℕ × ℕ)) (goal : ℕ) (steps : List (Option ℕ)) (queue : List (ℕ × ℕ)) (place node count total : ℕ) (seen : List ℕ) : Type 0 where
  pub levels : IsLevels edges goal steps queue place count
  pub long : length steps ≡ n
  pub here : (d : ℕ × ℕ) → get_or queue place d ≡ (node, count)
  pub within : place < length queue
  pub at : steps_of steps node ≡ Some count
  pub total_is : nones steps + length queue ≡ total
  pub looked : (u : ℕ) → Contains seen u → HasSteps steps u (count + 1)

pub begin_looking : (n : ℕ) (edges : List (ℕ × ℕ)) (goal : ℕ) (steps : List (Option ℕ)) (queue : List (ℕ × ℕ)) (place : ℕ) (x : ℕ × ℕ)
    → IsLevels edges goal steps queue place (get_or queue place (goal, length queue)).1 → length steps ≡ n → place < length queue → x ≡ get_or queue place x
    → IsLooking n edges goal steps queue place x.0 x.1 (nones steps + length queue) []
begin_looking n edges goal steps queue place x keeps long within read =
    let here : (d : ℕ × ℕ) → get_or queue place d ≡ x = λ d. sym (get_or_read queue place x within read d) in
    record {
      levels = subst (λ k. IsLevels edges goal steps queue place k) (ap (λ e. e.1) (here (goal, length queue))) keeps;
      long = long;
      here = here;
      within = within;
      at = keeps.queued x.0 x.1 (subst (λ e. Contains queue e) (here (0, 0)) (Contains-get_or queue place (0, 0) within));
      total_is = refl;
      looked = λ u h. absurd (contains_none u h);
    }

pub look : (n : ℕ) (edges : List (ℕ × ℕ)) (goal : ℕ) (steps after : List (Option ℕ)) (queue queue_after : List (ℕ × ℕ)) (place node count total i : ℕ) (row : List ℕ)
    → IsLooking n edges goal steps queue place node count total (take i row) → i < length row → Contains edges (get_or row i 0, node) → get_or row i 0 < n
    → Reached (steps_of steps (get_or row i 0)) (get_or row i 0) (count + 1) steps after queue queue_after
    → IsLooking n edges goal after queue_after place node count total (take (i + 1) row)
look n edges goal steps after queue queue_after place node count total i row l i_in edge u_in r =
    let u : ℕ = get_or row i 0 in
    let in_steps : u < length steps = omega (arith, l.long, u_in) in
    let low : count ≤ place = let le : (get_or queue place (node, count)).1 ≤ place = l.levels.small place (node, count) l.within in omega (arith, ap (λ e. e.1) (l.here (node, count))) in
    let s : Stays steps after queue queue_after = stays steps after queue queue_after u (count + 1) in_steps r in
    let both : IsLevels edges goal after queue_after place count × HasSteps after u (count + 1) = reached edges goal steps after queue queue_after place count u node l.levels in_steps edge l.at l.within low r in
    record {
      levels = both.0;
      long = s.long ∙ l.long;
      here = λ d. s.front place d l.within ∙ l.here d;
      within = omega (arith, s.grows, l.within);
      at = s.kept node count l.at;
      total_is = s.total ∙ l.total_is;
      looked = λ w h. contains_more (λ w. HasSteps after w (count + 1)) (take i row) u
          (λ w old. let k : HasSteps steps w (count + 1) = l.looked w old in (k.0, s.kept w k.0 k.1, k.2)) both.1
          w (subst (λ t. Contains t w) (take_more row i 0 i_in) h);
    }

pub end_looking : (n : ℕ) (edges : List (ℕ × ℕ)) (goal : ℕ) (steps : List (Option ℕ)) (queue : List (ℕ × ℕ)) (place node count total i : ℕ) (row : List ℕ)
    → IsLooking n edges goal steps queue place node count total (take i row) → length row ≤ i → ((u : ℕ) → Contains edges (u, node) → Contains row u)
    → IsLevels edges goal steps queue (place + 1) (get_or queue (place + 1) (goal, length queue)).1
end_looking n edges goal steps queue place node count total i row l past all =
    advance edges goal steps queue place count node l.levels l.within l.here
    (λ u edge. l.looked u (subst (λ t. Contains t u) (sym (take_all i row past)) (all u edge)))

-- the row of the node that is looked at, as it was read
pub row_of : (n : ℕ) (edges es given : List (ℕ × ℕ)) (rows : List (List ℕ)) (row read : List ℕ) (node : ℕ) (steps : List (Option ℕ)) (count : ℕ)
    → AreRows n given rows → given ≡ es → es ≡ turned edges → steps_of steps node ≡ Some count → length steps ≡ n → read ≡ get_or rows node read → row ≡ read
    → AreRows n (turned edges) rows × (row ≡ get_or rows node [])
row_of n edges es given rows row read node steps count are e f at long is same =
    let lt : node < length steps = some_within steps node count at in
    (subst (λ g. AreRows n g rows) (e ∙ f) are, same ∙ get_or_read rows node read (omega (arith, are.length_is)) is [])
