-- How much work types are, kind by kind.
use Rattle.std.proofs.Common.{◌≡◌, ◌≤◌, ◌<◌, ◌+◌, ◌*◌, ℕ, suc, zero, List, [], ◌∷◌, ◌++◌, map, length, get_or, Option, Some, None, refl, sym, ap, ◌∙◌, arith}
use Rattle.hr_base.specs.declared.bind.Entity.{Entity}
use Rattle.hr_type.specs.declared.mono.Mono.{Mono}
use Rattle.hr_type.specs.declared.mono.Mono.TheVariants.{Var, Con, Fun}
use Rattle.hr_type.specs.Types.{first_for}
use Rattle.hr_type.specs.Heads.{parts}
use Rattle.hr_type.proofs.Terms.{value-var, value-con, value-fun}
use Rattle.hr_type.proofs.Layers.{by_kind, parts_con, parts_fun}
use Rattle.hr_type.proofs.Matched.{IsApplied}
use Rattle.std.proofs.lemmas.List.{map-append}
use Rattle.hr_unify.specs.Tasks.{Task, Equation, Settled}
use Rattle.hr_unify.specs.Unifiers.{Pairs, IsGood}
use Rattle.hr_unify.specs.Weights.{total, mass, weight, load, item_load, work_load}
use Rattle.hr_unify.proofs.Lists.{first_one}
use Rattle.hr_unify.specs.Working.{paired}
use Rattle.hr_unify.proofs.Solving.{solve_bound, solve_free}

total-append : (ms ns : List ℕ) → total (ms ++ ns) ≡ total ms + total ns
total-append [] ns = omega arith
total-append (m ∷ ms) ns = omega (arith, total-append ms ns)

module _ (ps : Pairs) where
  pub load_var : (n : ℕ) → load ps (Var n) ≡ weight ps n
  unfolding mass
  load_var n = value-var _ _ _ _ n

  pub load_con : (e : Entity) (ts : List Mono) → load ps (Con e ts) ≡ suc (total (map (load ps) ts))
  unfolding mass
  load_con e ts = value-con _ _ _ _ e ts

  pub load_fun : (a b : Mono) → load ps (Fun a b) ≡ suc (load ps a + load ps b)
  unfolding mass
  load_fun a b = value-fun _ _ _ _ a b

  pub weight_bound : (x : ℕ) (t : Mono) → IsGood ps → first_for x ps ≡ Some t → weight ps x ≡ load ps t + 2
  unfolding weight mass
  weight_bound x t good found = solve_bound ℕ (λ _ ns. suc (total ns)) (λ m n. suc (m + n)) (λ n. n + 2) ps (λ _. 1) x t good (first_one x t ps found)

  pub total_at : (ts : List Mono) (i : ℕ) (d : Mono) → i < length ts → load ps (get_or ts i d) ≤ total (map (load ps) ts)
  total_at [] i d h = absurd (omega arith)
  total_at (t ∷ ts) zero d h = omega arith
  total_at (t ∷ ts) (suc i) d h = let k : i < length ts = omega arith in omega (arith, total_at ts i d k)

  pub work_load-append : (xs ys : List Task) → work_load ps (xs ++ ys) ≡ work_load ps xs + work_load ps ys
  work_load-append [] ys = omega arith
  work_load-append (x ∷ xs) ys = omega (arith, work_load-append xs ys)

  -- the measures of the search fall
  pub falls_var : (ty : Mono) (n t : ℕ) → ty ≡ Var n → 2 * load ps ty + 1 ≡ t → 2 * weight ps n < t
  falls_var ty n t is m = let e : load ps ty ≡ weight ps n = ap (load ps) is ∙ load_var n in omega arith

  pub falls_con : (ty : Mono) (e : Entity) (ts us : List Mono) (t : ℕ) → ty ≡ Con e ts → us ≡ ts → 2 * load ps ty + 1 ≡ t → 2 * total (map (load ps) us) + 2 < t
  falls_con ty e ts us t is same m =
      let k : load ps ty ≡ suc (total (map (load ps) us)) = ap (load ps) is ∙ load_con e ts ∙ sym (ap (λ vs. suc (total (map (load ps) vs))) same) in omega arith

  pub falls_from : (ty a b x : Mono) (t : ℕ) → ty ≡ Fun a b → x ≡ a → 2 * load ps ty + 1 ≡ t → 2 * load ps x + 1 < t
  falls_from ty a b x t is same m =
      let k : load ps ty ≡ suc (load ps a + load ps b) = ap (load ps) is ∙ load_fun a b in
      let l : load ps x ≡ load ps a = ap (load ps) same in omega arith

  pub falls_to : (ty a b x : Mono) (t : ℕ) → ty ≡ Fun a b → x ≡ b → 2 * load ps ty + 1 ≡ t → 2 * load ps x + 1 < t
  falls_to ty a b x t is same m =
      let k : load ps ty ≡ suc (load ps a + load ps b) = ap (load ps) is ∙ load_fun a b in
      let l : load ps x ≡ load ps b = ap (load ps) same in omega arith

  pub falls_bound : (n : ℕ) (u : Mono) (t : ℕ) → IsGood ps → first_for n ps ≡ Some u → 2 * weight ps n ≡ t → 2 * load ps u + 1 < t
  falls_bound n u t good found m = let k : weight ps n ≡ load ps u + 2 = weight_bound n u good found in omega arith

  pub falls_at : (ts : List Mono) (i : ℕ) (x : Mono) (t : ℕ) → i < length ts → x ≡ get_or ts i x → 2 * total (map (load ps) ts) + 2 ≡ t → 2 * load ps x + 1 < t
  falls_at ts i x t within is m =
      let k : load ps (get_or ts i x) ≤ total (map (load ps) ts) = total_at ts i x within in
      let l : load ps x ≡ load ps (get_or ts i x) = ap (load ps) is in omega arith

  push_load : (A : List Task) (item : Task) → work_load ps (A ++ item ∷ []) ≡ work_load ps A + item_load ps item
  push_load A item = omega (arith, work_load-append A (item ∷ []))

  weight_free : (n : ℕ) → first_for n ps ≡ None → weight ps n ≡ 1
  unfolding weight
  weight_free n free = solve_free ℕ (λ _ ns. suc (total ns)) (λ m n. suc (m + n)) (λ n. n + 2) ps (λ _. 1) n free

  weighs : IsGood ps → (n : ℕ) → 0 < weight ps n
  weighs good n = by_first (first_for n ps) refl
    where
      by_first : (o : Option Mono) → first_for n ps ≡ o → 0 < weight ps n
      by_first None e = let k : weight ps n ≡ 1 = weight_free n e in omega arith
      by_first (Some t) e = let k : weight ps n ≡ load ps t + 2 = weight_bound n t good e in omega arith

  -- each step leaves less work
  pub lighter_dropped : IsGood ps → (A : List Task) (x : ℕ) (o : Mono) → work_load ps A < work_load ps (A ++ Equation (Var x) o ∷ [])
  lighter_dropped good A x o =
      let k : work_load ps (A ++ Equation (Var x) o ∷ []) ≡ work_load ps A + (load ps (Var x) + load ps o) = push_load A (Equation (Var x) o) in
      let l : load ps (Var x) ≡ weight ps x = load_var x in
      let m : 0 < weight ps x = weighs good x in omega arith

  pub lighter_opened : IsGood ps → (A : List Task) (x : ℕ) (t o : Mono) → first_for x ps ≡ Some t → work_load ps (A ++ Settled x o ∷ Equation t o ∷ []) < work_load ps (A ++ Equation (Var x) o ∷ [])
  lighter_opened good A x t o found =
      let k : work_load ps (A ++ Equation (Var x) o ∷ []) ≡ work_load ps A + (load ps (Var x) + load ps o) = push_load A (Equation (Var x) o) in
      let l : work_load ps (A ++ Settled x o ∷ Equation t o ∷ []) ≡ work_load ps A + work_load ps (Settled x o ∷ Equation t o ∷ []) = work_load-append A (Settled x o ∷ Equation t o ∷ []) in
      let m : load ps (Var x) ≡ weight ps x = load_var x in
      let n : weight ps x ≡ load ps t + 2 = weight_bound x t good found in omega arith

  pub lighter_replaced : IsGood ps → (A : List Task) (x : ℕ) (t o : Mono) → first_for x ps ≡ Some t → work_load ps (A ++ Equation t o ∷ []) < work_load ps (A ++ Equation (Var x) o ∷ [])
  lighter_replaced good A x t o found =
      let k : work_load ps (A ++ Equation (Var x) o ∷ []) ≡ work_load ps A + (load ps (Var x) + load ps o) = push_load A (Equation (Var x) o) in
      let l : work_load ps (A ++ Equation t o ∷ []) ≡ work_load ps A + (load ps t + load ps o) = push_load A (Equation t o) in
      let m : load ps (Var x) ≡ weight ps x = load_var x in
      let n : weight ps x ≡ load ps t + 2 = weight_bound x t good found in omega arith

  pub turned_load : (A : List Task) (l r : Mono) → work_load ps (A ++ Equation l r ∷ []) ≡ work_load ps (A ++ Equation r l ∷ [])
  turned_load A l r = omega (arith, push_load A (Equation l r), push_load A (Equation r l))

  pub lighter_settled : (A : List Task) (x : ℕ) (o : Mono) → work_load ps A < work_load ps (A ++ Settled x o ∷ [])
  lighter_settled A x o = omega (arith, push_load A (Settled x o))

  pub lighter_functions : (A : List Task) (a b c d : Mono) → work_load ps (A ++ Equation b d ∷ Equation a c ∷ []) < work_load ps (A ++ Equation (Fun a b) (Fun c d) ∷ [])
  lighter_functions A a b c d =
      let k : work_load ps (A ++ Equation (Fun a b) (Fun c d) ∷ []) ≡ work_load ps A + (load ps (Fun a b) + load ps (Fun c d)) = push_load A (Equation (Fun a b) (Fun c d)) in
      let l : work_load ps (A ++ Equation b d ∷ Equation a c ∷ []) ≡ work_load ps A + work_load ps (Equation b d ∷ Equation a c ∷ []) = work_load-append A (Equation b d ∷ Equation a c ∷ []) in
      let m : load ps (Fun a b) ≡ suc (load ps a + load ps b) = load_fun a b in
      let n : load ps (Fun c d) ≡ suc (load ps c + load ps d) = load_fun c d in omega arith

  paired_load : (ts us : List Mono) → work_load ps (paired ts us) ≤ total (map (load ps) ts) + total (map (load ps) us)
  paired_load [] us = omega arith
  paired_load (t ∷ ts) [] = omega arith
  paired_load (t ∷ ts) (u ∷ us) = omega (arith, paired_load ts us, push_load (paired ts us) (Equation t u))

  pub lighter_arguments : (A : List Task) (e f : Entity) (ts us : List Mono) → work_load ps (A ++ paired ts us) < work_load ps (A ++ Equation (Con e ts) (Con f us) ∷ [])
  lighter_arguments A e f ts us =
      let k : work_load ps (A ++ Equation (Con e ts) (Con f us) ∷ []) ≡ work_load ps A + (load ps (Con e ts) + load ps (Con f us)) = push_load A (Equation (Con e ts) (Con f us)) in
      let l : work_load ps (A ++ paired ts us) ≡ work_load ps A + work_load ps (paired ts us) = work_load-append A (paired ts us) in
      let m : load ps (Con e ts) ≡ suc (total (map (load ps) ts)) = load_con e ts in
      let n : load ps (Con f us) ≡ suc (total (map (load ps) us)) = load_con f us in
      let p : work_load ps (paired ts us) ≤ total (map (load ps) ts) + total (map (load ps) us) = paired_load ts us in omega arith

  -- the measure of a walk through the types of variables
  pub load_parts : (t : Mono) → IsApplied t → load ps t ≡ suc (total (map (load ps) (parts t)))
  load_parts =
      by_kind (λ t. IsApplied t → load ps t ≡ suc (total (map (load ps) (parts t)))) (λ n a. absurd (a n refl))
      (λ e ts a. load_con e ts ∙ sym (ap (λ us. suc (total (map (load ps) us))) (parts_con e ts)))
      (λ a b h. load_fun a b ∙ (let k : suc (load ps a + load ps b) ≡ suc (load ps a + (load ps b + 0)) = omega arith in k) ∙ sym (ap (λ us. suc (total (map (load ps) us))) (parts_fun a b)))

  total_two : (ts us : List Mono) → total (map (load ps) (ts ++ us)) ≡ total (map (load ps) ts) + total (map (load ps) us)
  total_two ts us = ap total (map-append (load ps) ts us) ∙ total-append (map (load ps) ts) (map (load ps) us)

  pub load_positive : IsGood ps → (t : Mono) → 0 < load ps t
  load_positive good =
      by_kind (λ t. 0 < load ps t) (λ n. let k : load ps (Var n) ≡ weight ps n = load_var n in let m : 0 < weight ps n = weighs good n in omega arith) (λ e ts. let k = load_con e ts in omega arith)
      (λ a b. let k = load_fun a b in omega arith)

  pub walk_dropped : IsGood ps → (before rest : List Mono) (t : Mono) → before ≡ rest ++ t ∷ [] → total (map (load ps) rest) < total (map (load ps) before)
  walk_dropped good before rest t is =
      let k : total (map (load ps) before) ≡ total (map (load ps) rest) + (load ps t + 0) = ap (λ ts. total (map (load ps) ts)) is ∙ total_two rest (t ∷ []) in
      let m : 0 < load ps t = load_positive good t in omega arith

  pub walk_bound : IsGood ps → (before after rest : List Mono) (t u : Mono) (n : ℕ) → before ≡ rest ++ t ∷ [] → t ≡ Var n → first_for n ps ≡ Some u → after ≡ rest ++ u ∷ [] → total (map (load ps) after) < total (map (load ps) before)
  walk_bound good before after rest t u n is h found was =
      let k : total (map (load ps) before) ≡ total (map (load ps) rest) + (load ps t + 0) = ap (λ ts. total (map (load ps) ts)) is ∙ total_two rest (t ∷ []) in
      let j : total (map (load ps) after) ≡ total (map (load ps) rest) + (load ps u + 0) = ap (λ ts. total (map (load ps) ts)) was ∙ total_two rest (u ∷ []) in
      let m : load ps t ≡ weight ps n = ap (load ps) h ∙ load_var n in
      let w : weight ps n ≡ load ps u + 2 = weight_bound n u good found in omega arith

  pub walk_parts : (before after rest : List Mono) (t : Mono) → before ≡ rest ++ t ∷ [] → IsApplied t → after ≡ rest ++ parts t → total (map (load ps) after) < total (map (load ps) before)
  walk_parts before after rest t is a was =
      let k : total (map (load ps) before) ≡ total (map (load ps) rest) + (load ps t + 0) = ap (λ ts. total (map (load ps) ts)) is ∙ total_two rest (t ∷ []) in
      let j : total (map (load ps) after) ≡ total (map (load ps) rest) + total (map (load ps) (parts t)) = ap (λ ts. total (map (load ps) ts)) was ∙ total_two rest (parts t) in
      let m : load ps t ≡ suc (total (map (load ps) (parts t))) = load_parts t a in omega arith
