-- A graph without cycles is put in order whole, and the modules' edges are among its nodes.
use Rattle.std.proofs.Common.{◌≡◌, ◌⊎◌, ◌+◌, ◌<◌, ◌∷◌, ℕ, zero, suc, [], List, Option, Some, None, length, map, get_or, arith, ◌∙◌, ap, subst, inl, inr}
use Rattle.std.specs.Prelude.{Contains, All, slice_get, IfNone}
use Rattle.std.proofs.lemmas.Bool.{cases_eq}
use Rattle.std.proofs.lemmas.List.Elements.{Contains-push, Contains-push_cases, Contains-append_left, Contains-append_right, Contains-append_cases, All-cons, All-nil}
use Rattle.hr_graph.specs.declared.module_order.ImportEdge.{ImportEdge}
use Rattle.hr_graph.specs.Graph.{IsWithin, MayCome, IsInOrder, IsOrder, LeadsThrough}
use Rattle.hr_graph.specs.Cycle.{IsNumbered, IsLeastThrough}
use Rattle.hr_graph.specs.Modules.{AreEdges, ShowsCycle, HasNoRepeat, IsReadingOrder}
use Rattle.hr_graph.proofs.Members.{contains_none}
use Rattle.hr_graph.proofs.LevelSteps.{ends_below}

-- whether a number is in a list
pub contains_or : (xs : List ℕ) (x : ℕ) → Contains xs x ⊎ (Contains xs x → ⊥)
contains_or [] x = inr (λ h. contains_none x h)
contains_or (y ∷ xs) x = elim (cases_eq y x) [
  | inl e ↦ inl (subst (λ z. Contains (y ∷ xs) z) e (Contains-append_left (y ∷ []) xs y (Contains-push [] y)))
  | inr ne ↦ elim (contains_or xs x) [
    | inl in' ↦ inl (Contains-append_right (y ∷ []) xs x in')
    | inr out ↦ inr (λ h. elim (Contains-append_cases (y ∷ []) xs x h) [
      | inl first ↦ elim (Contains-push_cases [] y x first) [ inl none ↦ contains_none x none | inr e ↦ ne e ]
      | inr rest ↦ out rest
    ])
  ]
]

whole_below : (nodes : ℕ) (edges : List (ℕ × ℕ)) (numbers order : List ℕ) → IsWithin nodes edges → ((u v : ℕ) → Contains edges (u, v) → get_or numbers v 0 < get_or numbers u 0)
    → ((node : ℕ) → MayCome nodes edges order node → ⊥) → (bound u : ℕ) → get_or numbers u 0 < bound → u < nodes → Contains order u
whole_below nodes edges numbers order ends falls none zero u lt within = absurd (omega (arith, lt))
whole_below nodes edges numbers order ends falls none (suc bound) u lt within = elim (contains_or order u) [
  | inl in' ↦ in'
  | inr out ↦ absurd (none u (record {
    below = within;
    fresh = out;
    after = λ target edge.
        let less : get_or numbers target 0 < get_or numbers u 0 = falls u target edge in
        whole_below nodes edges numbers order ends falls none bound target (omega (arith, lt)) (ends_below nodes edges u target ends edge).1;
  }))
]

pub whole_order : (nodes : ℕ) (edges : List (ℕ × ℕ)) (order : List ℕ) → IsWithin nodes edges → IsNumbered edges → IsInOrder nodes edges order → ((node : ℕ) → MayCome nodes edges order node → ⊥) → IsOrder nodes edges order
whole_order nodes edges order ends numbered each none = record {
  each = each;
  whole = λ u within. whole_below nodes edges numbered.0 order ends numbered.1 none (get_or numbered.0 u 0 + 1) u (omega arith) within;
}

-- a place that has a name is one of the list
got_within : (names : List (List ℕ)) (i : ℕ) (name : List ℕ) → slice_get names i ≡ Some name → i < length names
got_within [] i name is = let clash : ◌≡◌ {A = Option (List ℕ)} None (Some name) = is in cc
got_within (n ∷ names) zero name is = omega arith
got_within (n ∷ names) (suc i) name is = omega (arith, got_within names i name is)

edges_within_by : (names : List (List ℕ)) (imports : List ImportEdge) (edges : List (ℕ × ℕ)) → All (λ one. one.from < length names) imports → AreEdges names imports edges → IsWithin (length names) edges
edges_within_by names [] [] ends are = All-nil (λ e. (e.0 < length names) × (e.1 < length names))
edges_within_by names [] (e ∷ edges) ends are = absurd are
edges_within_by names (one ∷ imports) [] ends are = absurd are
edges_within_by names (one ∷ imports) (e ∷ edges) ends are =
    let from : one.from < length names = ends 0 one (omega arith) in
    All-cons (λ e. (e.0 < length names) × (e.1 < length names)) e edges
    ((omega (arith, are.0.0), got_within names e.1 one.to are.0.1))
    (edges_within_by names imports edges (λ k d lt. ends (suc k) d (omega (arith, lt))) are.1)

pub edges_within : (names : List (List ℕ)) (imports : List ImportEdge) (edges : List (ℕ × ℕ)) → All (λ one. one.from < length names) imports → AreEdges names imports edges → IsWithin (length names) edges
edges_within names imports edges ends are = edges_within_by names imports edges ends are

leads_within : (n : ℕ) (edges : List (ℕ × ℕ)) (u : ℕ) (way : List ℕ) (last : ℕ) → IsWithin n edges → LeadsThrough edges u way last → (u < n) × All (λ v. v < n) way
leads_within n edges u [] last ends edge = ((ends_below n edges u last ends edge).0, All-nil (λ v. v < n))
leads_within n edges u (v ∷ vs) last ends lead =
    let rest : (v < n) × All (λ w. w < n) vs = leads_within n edges v vs last ends lead.1 in
    ((ends_below n edges u v ends lead.0).0, All-cons (λ w. w < n) v vs rest.0 rest.1)

pub cycle_within : (n : ℕ) (edges : List (ℕ × ℕ)) (first : ℕ) (cycle : List ℕ) → IsWithin n edges → IsLeastThrough edges first cycle → All (λ v. v < n) cycle
cycle_within n edges first [] ends least = absurd least
cycle_within n edges first (node ∷ rest) ends least =
    let all : (first < n) × All (λ v. v < n) rest = leads_within n edges first rest first ends least.1.cycle in
    All-cons (λ v. v < n) node rest (omega (arith, least.0, all.0)) all.1

pub cycle_shown : (names : List (List ℕ)) (edges : List (ℕ × ℕ)) (first : ℕ) (cycle : List ℕ) (shown : List (List ℕ)) → IsLeastThrough edges first cycle → shown ≡ map (λ place. get_or names place []) cycle → ShowsCycle names edges shown
cycle_shown names edges first [] shown least is = absurd least
cycle_shown names edges first (node ∷ rest) shown least is = record {
  first = first;
  rest = rest;
  cycle = least.1;
  shown_is = is ∙ ap (λ m. map (λ place. get_or names place []) (m ∷ rest)) least.0;
}

pub reading_order : (names : List (List ℕ)) (imports : List ImportEdge) (edges given again : List (ℕ × ℕ)) (cycle : Option (List (List ℕ))) (order : List ℕ)
    → HasNoRepeat names → All (λ one. one.from < length names) imports → AreEdges names imports edges → given ≡ edges → again ≡ edges
    → IfNone cycle (IsNumbered given) → cycle ≡ None → IsInOrder (length names) again order → ((node : ℕ) → MayCome (length names) again order node → ⊥)
    → IsReadingOrder names imports order
reading_order names imports edges given again cycle order distinct ends are same other none is each all =
    let numbered : IsNumbered edges = subst IsNumbered same (subst (λ o. IfNone o (IsNumbered given)) is none) in
    record {
      distinct = distinct;
      edges = edges;
      edges_are = are;
      in_order = whole_order (length names) edges order (edges_within names imports edges ends are) numbered
          (subst (λ es. IsInOrder (length names) es order) other each) (subst (λ es. (node : ℕ) → MayCome (length names) es order node → ⊥) other all);
    }
