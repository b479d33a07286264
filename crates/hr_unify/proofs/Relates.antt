-- Related types are equal under each unifier, so what a refusal shows leaves no unifier.
use Rattle.std.proofs.Common.{◌≡◌, ◌⊎◌, ◌<◌, ◌≤◌, ◌+◌, ℕ, suc, zero, List, [], ◌∷◌, map, length, get_or, set, refl, sym, ap, ◌∙◌, subst, inl, inr, arith}
use Rattle.std.specs.List.{AllByRecursion as Each, concat}
use Rattle.std.proofs.lemmas.List.{get_or-map, length-map}
use Rattle.hr_base.specs.declared.bind.Entity.{Entity}
use Rattle.hr_type.specs.declared.mono.Mono.{Mono}
use Rattle.hr_type.specs.declared.mono.Mono.TheVariants.{Var, Con, Fun, outs-Var, outs-Con, outs-Fun}
use Rattle.hr_type.specs.Types.{value, replaced, variables}
use Rattle.hr_type.proofs.Terms.{every_type, value-var, value-con, value-fun, con-con, fun-fun}
use Rattle.hr_unify.specs.Unifiers.{IsOneOf, Equations, Unifies}
use Rattle.hr_unify.specs.Refusals.{Related, given, same, turned, chained, argument, domain, range, replaced_argument, from, to, no_head, arrow_head, head, layer_head, head_of, Clashes, HoldsItself, HasNoUnifier}
use Rattle.hr_unify.specs.Weights.{total, mass}
use Rattle.hr_unify.proofs.Lists.{each_of, one_cases}
use Rattle.hr_unify.proofs.Values.{value_fuses, variables_var, variables_con, variables_fun}

map_set_same : (f : Mono → Mono) (ts : List Mono) (i : ℕ) (u : Mono) → f (get_or ts i u) ≡ f u → map f ts ≡ map f (set ts i u)
map_set_same f [] i u e = refl
map_set_same f (t ∷ ts) zero u e = ap (λ x. x ∷ map f ts) e
map_set_same f (t ∷ ts) (suc i) u e = ap (λ xs. f t ∷ xs) (map_set_same f ts i u e)

module _ (es : Equations) (by : ℕ → Mono) (u : Unifies by es) where
  con_equal : (e : Entity) (ts us : List Mono) → replaced by (Con e ts) ≡ replaced by (Con e us) → map (replaced by) ts ≡ map (replaced by) us
  con_equal e ts us h = (con-con e e (map (replaced by) ts) (map (replaced by) us) (sym (value-con Mono Con Fun by e ts) ∙ h ∙ value-con Mono Con Fun by e us)).1

  fun_equal : (a b c d : Mono) → replaced by (Fun a b) ≡ replaced by (Fun c d) → (replaced by a ≡ replaced by c) × (replaced by b ≡ replaced by d)
  fun_equal a b c d h = fun-fun _ _ _ _ (sym (value-fun Mono Con Fun by a b) ∙ h ∙ value-fun Mono Con Fun by c d)

  pub related_equal : (l r : Mono) → Related es l r → replaced by l ≡ replaced by r
  related_equal l r (given _ _ one) = each_of (λ e. replaced by e.0 ≡ replaced by e.1) es (l, r) u one
  related_equal l r (same _) = refl
  related_equal l r (turned _ _ h) = sym (related_equal r l h)
  related_equal l r (chained _ b _ h k) = related_equal l b h ∙ related_equal b r k
  related_equal l r (argument e ts us i d f long within h) =
      let inside : i < length us = subst (λ n. i < n) long within in
      sym (get_or-map (replaced by) ts i d (replaced by d) within) ∙ ap (λ xs. get_or xs i (replaced by d)) (con_equal e ts us (related_equal (Con e ts) (Con e us) h))
      ∙ get_or-map (replaced by) us i f (replaced by d) inside
  related_equal l r (domain _ b _ d h) = (fun_equal l b r d (related_equal (Fun l b) (Fun r d) h)).0
  related_equal l r (range a _ c _ h) = (fun_equal a l c r (related_equal (Fun a l) (Fun c r) h)).1
  related_equal l r (replaced_argument e ts i v within h) =
      value-con Mono Con Fun by e ts ∙ ap (Con e) (map_set_same (replaced by) ts i v (related_equal (get_or ts i v) v h)) ∙ sym (value-con Mono Con Fun by e (set ts i v))
  related_equal l r (from a b c h) = value-fun Mono Con Fun by a c ∙ ap (λ x. Fun x (replaced by c)) (related_equal a b h) ∙ sym (value-fun Mono Con Fun by b c)
  related_equal l r (to a b c h) = value-fun Mono Con Fun by a b ∙ ap (Fun (replaced by a)) (related_equal b c h) ∙ sym (value-fun Mono Con Fun by a c)

pub head_con : (e : Entity) (ts : List Mono) → head_of (Con e ts) ≡ head e (length ts)
head_con e ts = ap layer_head (outs-Con e ts)

pub head_fun : (a b : Mono) → head_of (Fun a b) ≡ arrow_head
head_fun a b = ap layer_head (outs-Fun a b)

pub head_var : (n : ℕ) → head_of (Var n) ≡ no_head
head_var n = ap layer_head (outs-Var n)

-- a substitution keeps the constructor and the number of arguments
head_kept : (by : ℕ → Mono) (t : Mono) → (head_of t ≡ no_head → ⊥) → head_of (replaced by t) ≡ head_of t
head_kept by =
    every_type (λ t. (head_of t ≡ no_head → ⊥) → head_of (replaced by t) ≡ head_of t)
    (λ n h. absurd (h (head_var n)))
    (λ e ts claims h. ap head_of (value-con Mono Con Fun by e ts) ∙ head_con e (map (replaced by) ts) ∙ ap (head e) (length-map ts (replaced by)) ∙ sym (head_con e ts))
    (λ a b claim_a claim_b h. ap head_of (value-fun Mono Con Fun by a b) ∙ head_fun (replaced by a) (replaced by b) ∙ sym (head_fun a b))

pub clash_refuses : (es : Equations) (l r : Mono) → Clashes es l r → HasNoUnifier es
clash_refuses es l r c = λ by u. c.differ (sym (head_kept by l c.left_applied) ∙ ap head_of (related_equal es by u l r c.related) ∙ head_kept by r c.right_applied)

IsHeavy : (ℕ → ℕ) → ℕ → Mono → Type 0
IsHeavy f v t = IsOneOf v (variables t) → f v ≤ mass f t

heavy_var : (f : ℕ → ℕ) (v n : ℕ) → IsHeavy f v (Var n)
unfolding IsHeavy mass
heavy_var f v n one = at_var (subst (IsOneOf v) (variables_var n) one)
  where
    at_var : IsOneOf v (n ∷ []) → f v ≤ value ℕ (λ _ ns. suc (total ns)) (λ m n. suc (m + n)) f (Var n)
    at_var (inl e) = let p : f v ≡ f n = ap f e in let q : value ℕ (λ _ ns. suc (total ns)) (λ m n. suc (m + n)) f (Var n) ≡ f n = value-var _ _ _ _ n in omega arith
    at_var (inr h) = absurd h

heavy_all : (f : ℕ → ℕ) (v : ℕ) (ts : List Mono) → Each (IsHeavy f v) ts → IsOneOf v (concat (map variables ts)) → f v ≤ total (map (mass f) ts)
unfolding IsHeavy
heavy_all f v [] claims one = absurd one
heavy_all f v (t ∷ ts) claims one = by_part (one_cases v (variables t) (concat (map variables ts)) one) (λ k. heavy_all f v ts claims.1 k)
  where
    by_part : IsOneOf v (variables t) ⊎ IsOneOf v (concat (map variables ts)) → (IsOneOf v (concat (map variables ts)) → f v ≤ total (map (mass f) ts)) → f v ≤ mass f t + total (map (mass f) ts)
    by_part (inl k) go = let p : f v ≤ mass f t = claims.0 k in omega arith
    by_part (inr k) go = let p : f v ≤ total (map (mass f) ts) = go k in omega arith

below_con : (f : ℕ → ℕ) (v : ℕ) (e : Entity) (ts : List Mono) → Each (IsHeavy f v) ts → IsOneOf v (variables (Con e ts)) → f v < mass f (Con e ts)
unfolding mass
below_con f v e ts claims one =
    let p : f v ≤ total (map (mass f) ts) = heavy_all f v ts claims (subst (IsOneOf v) (variables_con e ts) one) in
    let q : value ℕ (λ _ ns. suc (total ns)) (λ m n. suc (m + n)) f (Con e ts) ≡ suc (total (map (mass f) ts)) = value-con _ _ _ _ e ts in omega arith

below_fun : (f : ℕ → ℕ) (v : ℕ) (a b : Mono) → IsHeavy f v a → IsHeavy f v b → IsOneOf v (variables (Fun a b)) → f v < mass f (Fun a b)
unfolding mass IsHeavy
below_fun f v a b claim_a claim_b one = by_part (one_cases v (variables a) (variables b) (subst (IsOneOf v) (variables_fun a b) one))
  where
    whole : value ℕ (λ _ ns. suc (total ns)) (λ m n. suc (m + n)) f (Fun a b) ≡ suc (mass f a + mass f b)
    whole = value-fun _ _ _ _ a b

    by_part : IsOneOf v (variables a) ⊎ IsOneOf v (variables b) → f v < value ℕ (λ _ ns. suc (total ns)) (λ m n. suc (m + n)) f (Fun a b)
    by_part (inl k) = let p : f v ≤ mass f a = claim_a k in let q = whole in omega arith
    by_part (inr k) = let p : f v ≤ mass f b = claim_b k in let q = whole in omega arith

is_heavy : (f : ℕ → ℕ) (v : ℕ) (t : Mono) → IsHeavy f v t
unfolding IsHeavy
is_heavy f v =
    every_type (IsHeavy f v) (heavy_var f v) (λ e ts claims one. let p : f v < mass f (Con e ts) = below_con f v e ts claims one in omega arith)
    (λ a b claim_a claim_b one. let p : f v < mass f (Fun a b) = below_fun f v a b claim_a claim_b one in omega arith)

each_heavy : (f : ℕ → ℕ) (v : ℕ) (ts : List Mono) → Each (IsHeavy f v) ts
each_heavy f v [] = tt
each_heavy f v (t ∷ ts) = (is_heavy f v t, each_heavy f v ts)

-- a type with a variable inside weighs more than the variable
outweighs : (f : ℕ → ℕ) (v : ℕ) (t : Mono) → IsOneOf v (variables t) → (t ≡ Var v → ⊥) → f v < mass f t
outweighs f v =
    every_type (λ t. IsOneOf v (variables t) → (t ≡ Var v → ⊥) → f v < mass f t)
    (λ n one other. absurd (lone n (subst (IsOneOf v) (variables_var n) one) other))
    (λ e ts claims one other. below_con f v e ts (each_heavy f v ts) one)
    (λ a b claim_a claim_b one other. below_fun f v a b (is_heavy f v a) (is_heavy f v b) one)
  where
    lone : (n : ℕ) → IsOneOf v (n ∷ []) → (Var n ≡ Var v → ⊥) → ⊥
    lone n (inl e) other = other (ap Var (sym e))
    lone n (inr k) other = k

pub occurs_refuses : (es : Equations) (v : ℕ) (t : Mono) → HoldsItself es v t → HasNoUnifier es
unfolding mass
occurs_refuses es v t h = λ by u.
    let bulk : Mono → ℕ = mass (λ _. 1) in
    let equal : by v ≡ replaced by t = sym (value-var Mono Con Fun by v) ∙ related_equal es by u (Var v) t h.related in
    let fused : mass (λ _. 1) (replaced by t) ≡ mass (λ n. mass (λ _. 1) (by n)) t = value_fuses ℕ (λ _ ns. suc (total ns)) (λ m n. suc (m + n)) (λ _. 1) by t in
    let heavier : mass (λ _. 1) (by v) < mass (λ n. mass (λ _. 1) (by n)) t = outweighs (λ n. mass (λ _. 1) (by n)) v t h.inside h.other in
    let same_bulk : mass (λ _. 1) (by v) ≡ mass (λ _. 1) (replaced by t) = ap (mass (λ _. 1)) equal in
    clash _ _ _ heavier fused same_bulk
  where
    clash : (a b c : ℕ) → a < b → c ≡ b → a ≡ c → ⊥
    clash a b c h k e = omega arith
