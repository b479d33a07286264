-- The cycle that goes from each node to the nearest is the shortest and the first of these.
use Rattle.std.proofs.Common.{◌≡◌, ◌≢◌, ◌+◌, ◌<◌, ◌≤◌, ◌++◌, ◌∷◌, ℕ, [], List, Option, Some, None, length, get_or, arith, sym, ◌∙◌, ap, subst, refl, inl, inr}
use Rattle.std.specs.Prelude.{Contains, All}
use Rattle.std.specs.Cmp.Lexicographic.{slice_cmp}
use Rattle.std.specs.Ordering.{nat_cmp, ordering_then}
use Rattle.std.specs.Cmp.{nat_cmp_is}
use Rattle.std.specs.declared.cmp.Ordering.{Ordering}
use Rattle.std.specs.declared.cmp.Ordering.TheVariants.{Less, Equal, Greater}
use Rattle.std.proofs.lemmas.Bool.{cases_eq}
use Rattle.std.proofs.lemmas.List.Elements.{Contains-get_or}
use Rattle.hr_graph.specs.Rows.{AreRows}
use Rattle.hr_graph.specs.Graph.{IsWithin, LeadsTo, here, along, LeadsThrough, IsFirstCycle}
use Rattle.hr_graph.specs.Levels.{steps_of, AreSteps}
use Rattle.hr_graph.specs.Cycle.{IsFirstOn, IsNotAfter, IsNearest, IsLeastThrough}
use Rattle.hr_graph.proofs.LevelSteps.{HasSteps, ends_below, some_within}
use Rattle.std.proofs.lemmas.List.{get_or_read}

some_same : (j k : ℕ) → ◌≡◌ {A = Option ℕ} (Some j) (Some k) → j ≡ k
some_same j k e = cc

-- v is the nearest of the nodes to which u points, with its steps
pub record IsBest (edges : List (ℕ × ℕ)) (steps : List (Option ℕ)) (u k v : ℕ) : Type 0 where
  pub edge : Contains edges (u, v)
  pub at : steps_of steps v ≡ Some k
  pub least : (w j : ℕ) → Contains edges (u, w) → steps_of steps w ≡ Some j → IsNotAfter (k, v) (j, w)

-- from u to the nearest again and again, through nodes that are not the goal
abbrev pub Chosen : List (ℕ × ℕ) → List (Option ℕ) → ℕ → ℕ → List ℕ → ℕ → Type 0
Chosen edges steps goal u [] last = u ≡ last
Chosen edges steps goal u (v ∷ vs) last = ((k : ℕ) × IsBest edges steps u k v) × (v ≡ goal → ⊥) × Chosen edges steps goal v vs last

pub chosen_more : (edges : List (ℕ × ℕ)) (steps : List (Option ℕ)) (goal u : ℕ) (vs : List ℕ) (last k v : ℕ) → Chosen edges steps goal u vs last → IsBest edges steps last k v → (v ≡ goal → ⊥) → Chosen edges steps goal u (vs ++ v ∷ []) v
chosen_more edges steps goal u [] last k v is best other = ((k, subst (λ w. IsBest edges steps w k v) (sym is) best), other, refl)
chosen_more edges steps goal u (w ∷ ws) last k v c best other = (c.0, c.1, chosen_more edges steps goal w ws last k v c.2 best other)

-- a way to the goal is at least as long as the steps
pub way_steps : (n : ℕ) (edges : List (ℕ × ℕ)) (goal : ℕ) (steps : List (Option ℕ)) (u : ℕ) (way : List ℕ) → AreSteps n edges goal steps → LeadsThrough edges u way goal → HasSteps steps u (length way + 1)
way_steps n edges goal steps u [] are edge = are.falls u goal 0 edge are.at_goal
way_steps n edges goal steps u (w ∷ ws) are lead =
    let rest : HasSteps steps w (length ws + 1) = way_steps n edges goal steps w ws are lead.1 in
    let more : HasSteps steps u (rest.0 + 1) = are.falls u w rest.0 lead.0 rest.1 in
    (more.0, more.1, omega (arith, more.2, rest.2))

pub reaches_steps : (n : ℕ) (edges : List (ℕ × ℕ)) (goal : ℕ) (steps : List (Option ℕ)) (u : ℕ) → AreSteps n edges goal steps → LeadsTo edges u goal → (j : ℕ) × (steps_of steps u ≡ Some j)
reaches_steps n edges goal steps u are (here _) = (0, are.at_goal)
reaches_steps n edges goal steps u are (along _ v _ edge rest) =
    let at : (j : ℕ) × (steps_of steps v ≡ Some j) = reaches_steps n edges goal steps v are rest in
    let more : HasSteps steps u (at.0 + 1) = are.falls u v at.0 edge at.1 in
    (more.0, more.1)

-- the nearest of a node has one step fewer
pub one_fewer : (n : ℕ) (edges : List (ℕ × ℕ)) (goal : ℕ) (steps : List (Option ℕ)) (u i k v : ℕ) → AreSteps n edges goal steps → (u ≡ goal → ⊥) → steps_of steps u ≡ Some i → IsBest edges steps u k v → i ≡ k + 1
one_fewer n edges goal steps u i k v are other at best = elim (are.next u i at) [
  | inl is ↦ absurd (other is)
  | inr w ↦
      let least : IsNotAfter (k, v) (w.1, w.0) = best.least w.0 w.1 w.2 w.3 in
      let le : k ≤ w.1 = elim least [ inl lt ↦ omega arith | inr same ↦ omega (arith, same.0) ] in
      let up : HasSteps steps u (k + 1) = are.falls u v k best.edge best.at in
      let same : i ≡ up.0 = some_same i up.0 (sym at ∙ up.1) in
      omega (arith, up.2, w.4)
]

less_then : (a b : ℕ) (o : Ordering) → a < b → ordering_then (nat_cmp a b) o ≡ Less
less_then a b o lt = ap (λ r. ordering_then r o) (sym (nat_cmp_is a b Less lt))

equal_then : (a b : ℕ) (o : Ordering) → a ≡ b → ordering_then (nat_cmp a b) o ≡ o
equal_then a b o e = ap (λ r. ordering_then r o) (sym (nat_cmp_is a b Equal e))

not_greater : (o : Ordering) → o ≡ Less → o ≢ Greater
not_greater o less greater = let clash : Less ≡ Greater = sym less ∙ greater in cc

-- Of two ways from u, of which the first goes by the nearest v: the first is not later if its rest isn't.
pub first_step : (n : ℕ) (edges : List (ℕ × ℕ)) (goal : ℕ) (steps : List (Option ℕ)) (u k v : ℕ) (vs : List ℕ) (w : ℕ) (ws : List ℕ)
    → AreSteps n edges goal steps → IsBest edges steps u k v → length vs + 1 ≡ k → LeadsThrough edges u (w ∷ ws) goal → length ws ≡ length vs
    → (LeadsThrough edges v ws goal → slice_cmp nat_cmp vs ws ≢ Greater)
    → slice_cmp nat_cmp (v ∷ vs) (w ∷ ws) ≢ Greater
first_step n edges goal steps u k v vs w ws are best long lead same rest =
    let far : HasSteps steps w (length ws + 1) = way_steps n edges goal steps w ws are lead.1 in
    elim (best.least w far.0 lead.0 far.1) [
      | inl lt ↦ absurd (omega (arith, far.2))
      | inr known ↦ elim (cases_eq v w) [
        | inl e ↦ λ g. rest (subst (λ x. LeadsThrough edges x ws goal) (sym e) lead.1) (sym (equal_then v w (slice_cmp nat_cmp vs ws) e) ∙ g)
        | inr ne ↦ let lt : v < w = omega (arith, known.1) in not_greater _ (less_then v w (slice_cmp nat_cmp vs ws) lt)
      ]
    ]

-- from a node that is not the goal: as long as its steps, and first of all ways of that length
pub chosen_first : (n : ℕ) (edges : List (ℕ × ℕ)) (goal : ℕ) (steps : List (Option ℕ)) (u i : ℕ) (vs : List ℕ) (last k : ℕ)
    → AreSteps n edges goal steps → (u ≡ goal → ⊥) → steps_of steps u ≡ Some i → Chosen edges steps goal u vs last → IsBest edges steps last k goal
    → (length vs + 1 ≡ i) × (LeadsThrough edges u vs goal × ((way : List ℕ) → LeadsThrough edges u way goal → length way ≡ length vs → slice_cmp nat_cmp vs way ≢ Greater))
chosen_first n edges goal steps u i [] last k are other at is best =
    let here : IsBest edges steps u k goal = subst (λ w. IsBest edges steps w k goal) (sym is) best in
    let none : k ≡ 0 = some_same k 0 (sym here.at ∙ are.at_goal) in
    (omega (arith, one_fewer n edges goal steps u i k goal are other at here), (here.edge, same_empty))
  where
    same_empty : (way : List ℕ) → LeadsThrough edges u way goal → length way ≡ 0 → slice_cmp nat_cmp [] way ≢ Greater
    same_empty [] lead long = λ g. let clash : Equal ≡ Greater = g in cc
    same_empty (w ∷ ws) lead long = absurd (omega (arith, long))
chosen_first n edges goal steps u i (v ∷ vs) last k are other at c best =
    let b : IsBest edges steps u c.0.0 v = c.0.1 in
    let rest : (length vs + 1 ≡ c.0.0) × (LeadsThrough edges v vs goal × ((way : List ℕ) → LeadsThrough edges v way goal → length way ≡ length vs → slice_cmp nat_cmp vs way ≢ Greater))
    = chosen_first n edges goal steps v c.0.0 vs last k are c.1 b.at c.2 best in
    (omega (arith, one_fewer n edges goal steps u i c.0.0 v are other at b, rest.0), ((b.edge, rest.1.0), first_of_all b rest.0 rest.1.1))
  where
    first_of_all : {j : ℕ} → IsBest edges steps u j v → length vs + 1 ≡ j → ((way : List ℕ) → LeadsThrough edges v way goal → length way ≡ length vs → slice_cmp nat_cmp vs way ≢ Greater)
        → (way : List ℕ) → LeadsThrough edges u way goal → length way ≡ length (v ∷ vs) → slice_cmp nat_cmp (v ∷ vs) way ≢ Greater
    first_of_all b long rest [] lead same = absurd (omega (arith, same))
    first_of_all {j} b long rest (w ∷ ws) lead same =
        let e : length ws ≡ length vs = omega (arith, same) in
        first_step n edges goal steps u j v vs w ws are b long lead e (λ l. rest ws l e)

-- the cycle from the goal by the nearest is the first of the shortest
pub chosen_cycle : (n : ℕ) (edges : List (ℕ × ℕ)) (goal : ℕ) (steps : List (Option ℕ)) (vs : List ℕ) (last k : ℕ)
    → AreSteps n edges goal steps → Chosen edges steps goal goal vs last → IsBest edges steps last k goal
    → LeadsThrough edges goal vs goal × (((way : List ℕ) → LeadsThrough edges goal way goal → length vs ≤ length way)
    × ((way : List ℕ) → LeadsThrough edges goal way goal → length way ≡ length vs → slice_cmp nat_cmp vs way ≢ Greater))
chosen_cycle n edges goal steps [] last k are is best =
    ((subst (λ w. IsBest edges steps w k goal) (sym is) best).edge, ((λ way lead. omega arith), same_empty))
  where
    same_empty : (way : List ℕ) → LeadsThrough edges goal way goal → length way ≡ 0 → slice_cmp nat_cmp [] way ≢ Greater
    same_empty [] lead long = λ g. let clash : Equal ≡ Greater = g in cc
    same_empty (w ∷ ws) lead long = absurd (omega (arith, long))
chosen_cycle n edges goal steps (v ∷ vs) last k are c best =
    let b : IsBest edges steps goal c.0.0 v = c.0.1 in
    let rest : (length vs + 1 ≡ c.0.0) × (LeadsThrough edges v vs goal × ((way : List ℕ) → LeadsThrough edges v way goal → length way ≡ length vs → slice_cmp nat_cmp vs way ≢ Greater))
    = chosen_first n edges goal steps v c.0.0 vs last k are c.1 b.at c.2 best in
    ((b.edge, rest.1.0), (shortest b rest.0, first_of_all b rest.0 rest.1.1))
  where
    shortest : {j : ℕ} → IsBest edges steps goal j v → length vs + 1 ≡ j → (way : List ℕ) → LeadsThrough edges goal way goal → length (v ∷ vs) ≤ length way
    shortest {j} b long [] lead = elim (b.least goal 0 lead are.at_goal) [ inl lt ↦ absurd (omega (arith, lt)) | inr same ↦ absurd (omega (arith, same.0, long)) ]
    shortest {j} b long (w ∷ ws) lead =
        let far : HasSteps steps w (length ws + 1) = way_steps n edges goal steps w ws are lead.1 in
        elim (b.least w far.0 lead.0 far.1) [ inl lt ↦ omega (arith, lt, far.2, long) | inr same ↦ omega (arith, same.0, far.2, long) ]

    first_of_all : {j : ℕ} → IsBest edges steps goal j v → length vs + 1 ≡ j → ((way : List ℕ) → LeadsThrough edges v way goal → length way ≡ length vs → slice_cmp nat_cmp vs way ≢ Greater)
        → (way : List ℕ) → LeadsThrough edges goal way goal → length way ≡ length (v ∷ vs) → slice_cmp nat_cmp (v ∷ vs) way ≢ Greater
    first_of_all b long rest [] lead same = absurd (omega (arith, same))
    first_of_all {j} b long rest (w ∷ ws) lead same =
        let e : length ws ≡ length vs = omega (arith, same) in
        first_step n edges goal steps goal j v vs w ws are b long lead e (λ l. rest ws l e)

-- a way round is a way along the edges
leads_reaches : (edges : List (ℕ × ℕ)) (u : ℕ) (way : List ℕ) (last : ℕ) → LeadsThrough edges u way last → (v : ℕ) × Contains edges (u, v) × LeadsTo edges v last
leads_reaches edges u [] last edge = (last, edge, here last)
leads_reaches edges u (w ∷ ws) last lead =
    let rest : (v : ℕ) × Contains edges (w, v) × LeadsTo edges v last = leads_reaches edges w ws last lead.1 in
    (w, lead.0, along w rest.0 last rest.1 rest.2)

pub first_cycle : (n : ℕ) (edges : List (ℕ × ℕ)) (goal : ℕ) (steps : List (Option ℕ)) (vs : List ℕ) (last k : ℕ)
    → IsFirstOn edges goal → AreSteps n edges goal steps → Chosen edges steps goal goal vs last → IsBest edges steps last k goal → IsFirstCycle edges goal vs
first_cycle n edges goal steps vs last k first are c best =
    let all : LeadsThrough edges goal vs goal × (((way : List ℕ) → LeadsThrough edges goal way goal → length vs ≤ length way)
    × ((way : List ℕ) → LeadsThrough edges goal way goal → length way ≡ length vs → slice_cmp nat_cmp vs way ≢ Greater)) = chosen_cycle n edges goal steps vs last k are c best in
    record {
      cycle = all.0;
      begins = λ other way lead.
          let on : (v : ℕ) × Contains edges (other, v) × LeadsTo edges v other = leads_reaches edges other way other lead in
          first.least other on.0 on.1 on.2;
      shortest = all.1.0;
      earliest = all.1.1;
    }

-- the nearest of u, by the answer of a look at its row
abbrev pub BestOf : List (ℕ × ℕ) → List (Option ℕ) → ℕ → Option (ℕ × ℕ) → Type 0
BestOf edges steps u None = ⊥
BestOf edges steps u (Some best) = IsBest edges steps u best.0 best.1

best_of : (n : ℕ) (edges : List (ℕ × ℕ)) (rows : List (List ℕ)) (steps : List (Option ℕ)) (row : List ℕ) (u : ℕ) (best : Option (ℕ × ℕ)) (v k : ℕ)
    → AreRows n edges rows → row ≡ get_or rows u [] → IsNearest row steps best → Contains edges (u, v) → steps_of steps v ≡ Some k → BestOf edges steps u best
best_of n edges rows steps row u None v k are is near edge at = near v k (subst (λ r. Contains r v) (sym is) (are.complete u v edge)) at
best_of n edges rows steps row u (Some best) v k are is near edge at = record {
  edge = are.sound u best.1 (subst (λ r. Contains r best.1) is near.0);
  at = near.1;
  least = λ w j e at_w. near.2 w j (subst (λ r. Contains r w) (sym is) (are.complete u w e)) at_w;
}

-- the cycle as far as it was found, and the node that comes next
pub record IsComing (edges : List (ℕ × ℕ)) (steps : List (Option ℕ)) (first : ℕ) (cycle : List ℕ) (best : Option (ℕ × ℕ)) : Type 0 where
  pub nodes : List ℕ
  pub last : ℕ
  pub cycle_is : cycle ≡ first ∷ nodes
  pub chosen : Chosen edges steps first first nodes last
  pub next : BestOf edges steps last best

-- how many steps are left
abbrev pub left_of : Option (ℕ × ℕ) → ℕ
left_of None = 0
left_of (Some best) = best.0 + 1

pub begin_cycle : (n : ℕ) (edges : List (ℕ × ℕ)) (rows : List (List ℕ)) (steps : List (Option ℕ)) (first : ℕ) (row cycle : List ℕ) (best : Option (ℕ × ℕ))
    → IsFirstOn edges first → AreRows n edges rows → AreSteps n edges first steps → row ≡ get_or rows first [] → IsNearest row steps best → cycle ≡ first ∷ []
    → IsComing edges steps first cycle best
begin_cycle n edges rows steps first row cycle best on are stepped is near c =
    let at : (j : ℕ) × (steps_of steps on.target ≡ Some j) = reaches_steps n edges first steps on.target stepped on.back in
    record { nodes = []; last = first; cycle_is = c; chosen = refl; next = best_of n edges rows steps row first best on.target at.0 are is near on.edge at.1 }

next_best : (n : ℕ) (edges : List (ℕ × ℕ)) (rows : List (List ℕ)) (steps : List (Option ℕ)) (first last k node : ℕ) (row : List ℕ) (best : Option (ℕ × ℕ))
    → AreRows n edges rows → AreSteps n edges first steps → IsBest edges steps last k node → (node ≡ first → ⊥) → row ≡ get_or rows node [] → IsNearest row steps best → BestOf edges steps node best
next_best n edges rows steps first last k node row best are stepped b other is near = elim (stepped.next node k b.at) [
  | inl same ↦ absurd (other same)
  | inr w ↦ best_of n edges rows steps row node best w.0 w.1 are is near w.2 w.3
]

pub more_cycle : (n : ℕ) (edges : List (ℕ × ℕ)) (rows : List (List ℕ)) (steps : List (Option ℕ)) (first : ℕ) (cycle after row : List ℕ) (k node : ℕ) (best : Option (ℕ × ℕ))
    → AreRows n edges rows → AreSteps n edges first steps → IsComing edges steps first cycle (Some (k, node)) → (node ≡ first → ⊥)
    → row ≡ get_or rows node [] → IsNearest row steps best → after ≡ cycle ++ node ∷ [] → IsComing edges steps first after best
more_cycle n edges rows steps first cycle after row k node best are stepped coming other is near grown = record {
  nodes = coming.nodes ++ node ∷ [];
  last = node;
  cycle_is = grown ∙ ap (λ c. c ++ node ∷ []) coming.cycle_is;
  chosen = chosen_more edges steps first first coming.nodes coming.last k node coming.chosen coming.next other;
  next = next_best n edges rows steps first coming.last k node row best are stepped coming.next other is near;
}

fewer_left : (n : ℕ) (edges : List (ℕ × ℕ)) (steps : List (Option ℕ)) (first node k : ℕ) (best : Option (ℕ × ℕ)) → AreSteps n edges first steps → (node ≡ first → ⊥) → steps_of steps node ≡ Some k → BestOf edges steps node best → left_of best < k + 1
fewer_left n edges steps first node k None stepped other at b = absurd b
fewer_left n edges steps first node k (Some best) stepped other at b = omega (arith, one_fewer n edges first steps node k best.0 best.1 stepped other at b)

pub less_left : (n : ℕ) (edges : List (ℕ × ℕ)) (rows : List (List ℕ)) (steps : List (Option ℕ)) (first : ℕ) (cycle row : List ℕ) (k node : ℕ) (best : Option (ℕ × ℕ))
    → AreRows n edges rows → AreSteps n edges first steps → IsComing edges steps first cycle (Some (k, node)) → (node ≡ first → ⊥)
    → row ≡ get_or rows node [] → IsNearest row steps best → left_of best < k + 1
less_left n edges rows steps first cycle row k node best are stepped coming other is near =
    fewer_left n edges steps first node k best stepped other coming.next.at (next_best n edges rows steps first coming.last k node row best are stepped coming.next other is near)

pub end_cycle : (n : ℕ) (edges : List (ℕ × ℕ)) (steps : List (Option ℕ)) (first : ℕ) (cycle : List ℕ) (k node : ℕ)
    → IsFirstOn edges first → AreSteps n edges first steps → IsComing edges steps first cycle (Some (k, node)) → node ≡ first → IsLeastThrough edges first cycle
end_cycle n edges steps first cycle k node on stepped coming is =
    subst (IsLeastThrough edges first) (sym coming.cycle_is)
    (refl, first_cycle n edges first steps coming.nodes coming.last k on stepped coming.chosen (subst (λ v. IsBest edges steps coming.last k v) is coming.next))

-- the targets that a row has are nodes
pub row_within : (n : ℕ) (edges : List (ℕ × ℕ)) (rows : List (List ℕ)) (row : List ℕ) (u m : ℕ) → IsWithin n edges → AreRows n edges rows → row ≡ get_or rows u [] → m ≡ n → All (λ v. v < m) row
row_within n edges rows row u m ends are is long i d i_in =
    let edge : Contains edges (u, get_or row i d) = are.sound u (get_or row i d) (subst (λ r. Contains r (get_or row i d)) is (Contains-get_or row i d i_in)) in
    let lt : get_or row i d < n = (ends_below n edges u (get_or row i d) ends edge).1 in
    omega arith

-- a row, as it was read
pub row_at : (n : ℕ) (edges : List (ℕ × ℕ)) (rows : List (List ℕ)) (row read : List ℕ) (u : ℕ) → AreRows n edges rows → u < n → read ≡ get_or rows u read → row ≡ read → row ≡ get_or rows u []
row_at n edges rows row read u are lt is same = same ∙ get_or_read rows u read (omega (arith, are.length_is)) is []

pub coming_at : (edges : List (ℕ × ℕ)) (steps : List (Option ℕ)) (first : ℕ) (cycle : List ℕ) (best : Option (ℕ × ℕ)) (x : ℕ × ℕ) → best ≡ Some x → IsComing edges steps first cycle best → IsComing edges steps first cycle (Some x)
coming_at edges steps first cycle best x is coming = subst (IsComing edges steps first cycle) is coming

pub coming_within : (n : ℕ) (edges : List (ℕ × ℕ)) (steps : List (Option ℕ)) (first : ℕ) (cycle : List ℕ) (k node : ℕ) → AreSteps n edges first steps → IsComing edges steps first cycle (Some (k, node)) → node < n
coming_within n edges steps first cycle k node stepped coming = let lt : node < length steps = some_within steps node k coming.next.at in omega (arith, stepped.long)

pub first_within : (n : ℕ) (edges : List (ℕ × ℕ)) (first : ℕ) → IsWithin n edges → IsFirstOn edges first → first < n
first_within n edges first ends on = (ends_below n edges first on.target ends on.edge).0
