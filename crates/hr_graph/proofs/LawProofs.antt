-- Laws on the definitions: an order and a list of components are determined by the graph.
use Rattle.std.proofs.Common.{◌≡◌, ◌⊎◌, ◌+◌, ◌<◌, ◌≤◌, ◌++◌, ◌∷◌, ℕ, zero, suc, [], List, length, take, get_or, arith, sym, ◌∙◌, ap, subst, refl, inl, inr}
use Rattle.std.specs.Prelude.{Contains}
use Rattle.std.specs.List.Sorted.{IsStrictlyIncreasing}
use Rattle.std.proofs.lemmas.Bool.{cases_lt}
use Rattle.std.proofs.lemmas.List.{take_more, take_all, get_or_default}
use Rattle.std.proofs.lemmas.List.Elements.{Contains-push, Contains-push_cases, Contains-append_left, Contains-append_right, Contains-append_cases}
use Rattle.hr_graph.specs.Graph.{LeadsTo, here, along, Mutual, IsNext, IsInOrder, IsOrder, IsPlaced, IsNextComponent, AreInOrder, AreComponents}
use Rattle.hr_graph.proofs.Members.{contains_none}

at_next : {X : Type 0} (xs : List X) (k : ℕ) (d : X) → k < length xs → take (suc k) xs ≡ take k xs ++ get_or xs k d ∷ []
at_next xs k d lt = ap (λ j. take j xs) (let e : suc k ≡ k + 1 = omega arith in e) ∙ take_more xs k d lt

-- ---- orders

same_next : (nodes : ℕ) (edges : List (ℕ × ℕ)) (before : List ℕ) (a b : ℕ) → IsNext nodes edges before a → IsNext nodes edges before b → a ≡ b
same_next nodes edges before a b first second =
    let x : a ≤ b = first.least b second.ready in
    let y : b ≤ a = second.least a first.ready in
    omega arith

same_front : (nodes : ℕ) (edges : List (ℕ × ℕ)) (a b : List ℕ) → IsInOrder nodes edges a → IsInOrder nodes edges b → (k : ℕ) → k ≤ length a → k ≤ length b → take k a ≡ take k b
same_front nodes edges a b first second zero la lb = refl
same_front nodes edges a b first second (suc k) la lb =
    let front : take k a ≡ take k b = same_front nodes edges a b first second k (omega (arith, la)) (omega (arith, lb)) in
    let same : get_or a k 0 ≡ get_or b k 0 = same_next nodes edges (take k a) (get_or a k 0) (get_or b k 0) (first k (omega (arith, la)))
    (subst (λ before. IsNext nodes edges before (get_or b k 0)) (sym front) (second k (omega (arith, lb)))) in
    at_next a k 0 (omega (arith, la)) ∙ ap (λ xs. xs ++ get_or a k 0 ∷ []) front ∙ ap (λ x. take k b ++ x ∷ []) same ∙ sym (at_next b k 0 (omega (arith, lb)))

not_longer : (nodes : ℕ) (edges : List (ℕ × ℕ)) (a b : List ℕ) → IsOrder nodes edges a → IsOrder nodes edges b → length a < length b → ⊥
not_longer nodes edges a b first second lt =
    let front : a ≡ take (length a) b = sym (take_all (length a) a (omega arith)) ∙ same_front nodes edges a b first.each second.each (length a) (omega arith) (omega arith) in
    let next : IsNext nodes edges (take (length a) b) (get_or b (length a) 0) = second.each (length a) lt in
    next.ready.fresh (subst (λ xs. Contains xs (get_or b (length a) 0)) front (first.whole (get_or b (length a) 0) next.ready.below))

pub one_order : (nodes : ℕ) (edges : List (ℕ × ℕ)) (a b : List ℕ) → IsOrder nodes edges a → IsOrder nodes edges b → a ≡ b
one_order nodes edges a b first second = elim (cases_lt (length a) (length b)) [
  | inl lt ↦ absurd (not_longer nodes edges a b first second lt)
  | inr ge ↦ elim (cases_lt (length b) (length a)) [
    | inl lt ↦ absurd (not_longer nodes edges b a second first lt)
    | inr le ↦ sym (take_all (length a) a (omega arith)) ∙ same_front nodes edges a b first.each second.each (length a) (omega arith) (omega arith) ∙ take_all (length a) b (omega arith)
  ]
]

-- ---- ascending lists with the same elements

rise_rest : (x : ℕ) (xs : List ℕ) → IsStrictlyIncreasing (x ∷ xs) → IsStrictlyIncreasing xs
rise_rest x xs rise k lt =
    subst (λ j. get_or xs k 0 < get_or (x ∷ xs) j 0) (let e : suc k + 1 ≡ suc (k + 1) = omega arith in e) (rise (suc k) (omega (arith, lt)))

above_at : (x : ℕ) (xs : List ℕ) (k : ℕ) → IsStrictlyIncreasing (x ∷ xs) → k < length xs → x < get_or xs k 0
above_at x xs zero rise lt = rise 0 (omega (arith, lt))
above_at x xs (suc k) rise lt =
    let up : x < get_or xs k 0 = above_at x xs k rise (omega (arith, lt)) in
    let step : get_or xs k 0 < get_or xs (suc k) 0 = subst (λ j. get_or xs k 0 < get_or xs j 0) (let e : k + 1 ≡ suc k = omega arith in e) (rise_rest x xs rise k (omega (arith, lt))) in
    omega (arith, up, step)

above_in : (x : ℕ) (xs : List ℕ) (v : ℕ) → IsStrictlyIncreasing (x ∷ xs) → Contains xs v → x < v
above_in x xs v rise (k, lt, is) = let up : x < get_or xs k 0 = above_at x xs k rise lt in let at : get_or xs k 0 ≡ v = get_or_default xs k 0 v lt ∙ is in omega arith

in_first : (x : ℕ) (xs : List ℕ) → Contains (x ∷ xs) x
in_first x xs = Contains-append_left (x ∷ []) xs x (Contains-push [] x)

in_cases : (x : ℕ) (xs : List ℕ) (v : ℕ) → Contains (x ∷ xs) v → (x ≡ v) ⊎ Contains xs v
in_cases x xs v h = elim (Contains-append_cases (x ∷ []) xs v h) [
  | inl first ↦ elim (Contains-push_cases [] x v first) [ inl none ↦ absurd (contains_none v none) | inr e ↦ inl e ]
  | inr rest ↦ inr rest
]

same_head : (x y : ℕ) (xs ys : List ℕ) → IsStrictlyIncreasing (x ∷ xs) → IsStrictlyIncreasing (y ∷ ys) → Contains (y ∷ ys) x → Contains (x ∷ xs) y → x ≡ y
same_head x y xs ys rx ry hx hy = elim (in_cases y ys x hx) [
  | inl e ↦ sym e
  | inr later ↦ elim (in_cases x xs y hy) [
    | inl e ↦ e
    | inr after ↦ let a : y < x = above_in y ys x ry later in let b : x < y = above_in x xs y rx after in omega arith
  ]
]

rest_in : (x y : ℕ) (xs ys : List ℕ) (v : ℕ) → IsStrictlyIncreasing (x ∷ xs) → x ≡ y → ((w : ℕ) → Contains (x ∷ xs) w → Contains (y ∷ ys) w) → Contains xs v → Contains ys v
rest_in x y xs ys v rise same to h = elim (in_cases y ys v (to v (Contains-append_right (x ∷ []) xs v h))) [
  | inl e ↦ let up : x < v = above_in x xs v rise h in absurd (omega (arith, same, e, up))
  | inr in' ↦ in'
]

pub same_ascending : (xs ys : List ℕ) → IsStrictlyIncreasing xs → IsStrictlyIncreasing ys → ((v : ℕ) → Contains xs v → Contains ys v) → ((v : ℕ) → Contains ys v → Contains xs v) → xs ≡ ys
same_ascending [] [] rx ry to back = refl
same_ascending [] (y ∷ ys) rx ry to back = absurd (contains_none y (back y (in_first y ys)))
same_ascending (x ∷ xs) [] rx ry to back = absurd (contains_none x (to x (in_first x xs)))
same_ascending (x ∷ xs) (y ∷ ys) rx ry to back =
    let same : x ≡ y = same_head x y xs ys rx ry (to x (in_first x xs)) (back y (in_first y ys)) in
    let rest : xs ≡ ys = same_ascending xs ys (rise_rest x xs rx) (rise_rest y ys ry) (λ v h. rest_in x y xs ys v rx same to h) (λ v h. rest_in y x ys xs v ry (sym same) back h) in
    ap (λ z. z ∷ xs) same ∙ ap (λ zs. y ∷ zs) rest

-- ---- components

same_component : (nodes : ℕ) (edges : List (ℕ × ℕ)) (before : List (List ℕ)) (c d : List ℕ) (a b : ℕ) → IsNextComponent nodes edges before c a → IsNextComponent nodes edges before d b → c ≡ d
same_component nodes edges before c d a b first second =
    let x : a ≤ b = first.least b second.free in
    let y : b ≤ a = second.least a first.free in
    let same : a ≡ b = omega arith in
    same_ascending c d first.ascending second.ascending
    (λ v h. (second.members v).1 (subst (λ n. Mutual edges n v) same ((first.members v).0 h)))
    (λ v h. (first.members v).1 (subst (λ n. Mutual edges n v) (sym same) ((second.members v).0 h)))

same_groups : (nodes : ℕ) (edges : List (ℕ × ℕ)) (a b : List (List ℕ)) → AreInOrder nodes edges a → AreInOrder nodes edges b → (k : ℕ) → k ≤ length a → k ≤ length b → take k a ≡ take k b
same_groups nodes edges a b first second zero la lb = refl
same_groups nodes edges a b first second (suc k) la lb =
    let front : take k a ≡ take k b = same_groups nodes edges a b first second k (omega (arith, la)) (omega (arith, lb)) in
    let x : (node : ℕ) × IsNextComponent nodes edges (take k a) (get_or a k []) node = first k (omega (arith, la)) in
    let y : (node : ℕ) × IsNextComponent nodes edges (take k b) (get_or b k []) node = second k (omega (arith, lb)) in
    let same : get_or a k [] ≡ get_or b k [] = same_component nodes edges (take k a) (get_or a k []) (get_or b k []) x.0 y.0 x.1
    (subst (λ before. IsNextComponent nodes edges before (get_or b k []) y.0) (sym front) y.1) in
    at_next a k [] (omega (arith, la)) ∙ ap (λ xs. xs ++ get_or a k [] ∷ []) front ∙ ap (λ x. take k b ++ x ∷ []) same ∙ sym (at_next b k [] (omega (arith, lb)))

no_more : (nodes : ℕ) (edges : List (ℕ × ℕ)) (a b : List (List ℕ)) → AreComponents nodes edges a → AreComponents nodes edges b → length a < length b → ⊥
no_more nodes edges a b first second lt =
    let front : a ≡ take (length a) b = sym (take_all (length a) a (omega arith)) ∙ same_groups nodes edges a b first.each second.each (length a) (omega arith) (omega arith) in
    let next : (node : ℕ) × IsNextComponent nodes edges (take (length a) b) (get_or b (length a) []) node = second.each (length a) lt in
    next.1.free.fresh (subst (λ cs. IsPlaced cs next.0) front (first.whole next.0 next.1.free.below))

pub one_list : (nodes : ℕ) (edges : List (ℕ × ℕ)) (a b : List (List ℕ)) → AreComponents nodes edges a → AreComponents nodes edges b → a ≡ b
one_list nodes edges a b first second = elim (cases_lt (length a) (length b)) [
  | inl lt ↦ absurd (no_more nodes edges a b first second lt)
  | inr ge ↦ elim (cases_lt (length b) (length a)) [
    | inl lt ↦ absurd (no_more nodes edges b a second first lt)
    | inr le ↦ sym (take_all (length a) a (omega arith)) ∙ same_groups nodes edges a b first.each second.each (length a) (omega arith) (omega arith) ∙ take_all (length a) b (omega arith)
  ]
]

way_on : (edges : List (ℕ × ℕ)) (u v w : ℕ) → LeadsTo edges u v → LeadsTo edges v w → LeadsTo edges u w
way_on edges u v w (here _) second = second
way_on edges u v w (along _ x _ edge rest) second = along u x w edge (way_on edges x v w rest second)

-- the component at a place, by its node
component_at : (nodes : ℕ) (edges : List (ℕ × ℕ)) (components : List (List ℕ)) (component : List ℕ) → AreComponents nodes edges components → Contains components component
    → (before : List (List ℕ)) × (node : ℕ) × IsNextComponent nodes edges before component node
component_at nodes edges components component are (k, lt, is) =
    let next : (node : ℕ) × IsNextComponent nodes edges (take k components) (get_or components k []) node = are.each k lt in
    (take k components, next.0, subst (λ c. IsNextComponent nodes edges (take k components) c next.0) (get_or_default components k [] component lt ∙ is) next.1)

pub together : (nodes : ℕ) (edges : List (ℕ × ℕ)) (components : List (List ℕ)) (component : List ℕ) (u v : ℕ) → AreComponents nodes edges components → Contains components component → Contains component u → Contains component v → Mutual edges u v
together nodes edges components component u v are in' hu hv =
    let c : (before : List (List ℕ)) × (node : ℕ) × IsNextComponent nodes edges before component node = component_at nodes edges components component are in' in
    let mu : Mutual edges c.1 u = (c.2.members u).0 hu in
    let mv : Mutual edges c.1 v = (c.2.members v).0 hv in
    (way_on edges u c.1 v mu.1 mv.0, way_on edges v c.1 u mv.1 mu.0)

pub whole : (nodes : ℕ) (edges : List (ℕ × ℕ)) (components : List (List ℕ)) (component : List ℕ) (u v : ℕ) → AreComponents nodes edges components → Contains components component → Contains component u → Mutual edges u v → Contains component v
whole nodes edges components component u v are in' hu m =
    let c : (before : List (List ℕ)) × (node : ℕ) × IsNextComponent nodes edges before component node = component_at nodes edges components component are in' in
    let mu : Mutual edges c.1 u = (c.2.members u).0 hu in
    (c.2.members v).1 (way_on edges c.1 u v mu.0 m.0, way_on edges v u c.1 m.1 mu.1)
