-- What the search for a variable answers, kind by kind.
use Rattle.std.proofs.Common.{◌≡◌, ◌⊎◌, ◌≢◌, ◌==◌, ◌+◌, ◌<◌, ℕ, suc, zero, true, false, eqb, ◌||◌, List, [], ◌∷◌, ◌++◌, map, length, take, get_or, set, Option, Some, None, refl, sym, ap, ◌∙◌, subst, inl, inr, arith, append_assoc}
use Rattle.std.specs.List.{AllByRecursion as Each, concat, list_any}
use Rattle.std.proofs.lemmas.Bool.{false≢true}
use Rattle.std.proofs.lemmas.Bool.Decides.{eqb_tells}
use Rattle.std.proofs.lemmas.List.{take_more, map-append}
use Rattle.hr_base.specs.declared.bind.Entity.{Entity}
use Rattle.hr_type.specs.declared.mono.Mono.{Mono}
use Rattle.hr_type.specs.declared.mono.Mono.TheVariants.{Var, Con, Fun}
use Rattle.hr_type.specs.Types.{variables, first_for}
use Rattle.hr_unify.specs.Unifiers.{IsOneOf, Pairs, halves, Reaches, at_once, through, IsGood}
use Rattle.hr_unify.specs.Refusals.{Related, given, chained, replaced_argument, from, to, head}
use Rattle.hr_unify.specs.Working.{Avoids, Finds, FindsAmong}
use Rattle.hr_unify.proofs.Lists.{each_of, each_both, one_left, one_right, first_one, one_first, none_one}
use Rattle.hr_unify.proofs.Values.{variables_var, variables_con, variables_fun}
use Rattle.hr_unify.proofs.Relates.{head_var, head_con, head_fun}

pub half_of : (y : ℕ) (t : Mono) (ps : Pairs) → IsOneOf {X = ℕ × Mono} (y, t) ps → IsOneOf {X = Mono × Mono} (Var y, t) (halves ps)
half_of y t [] one = absurd one
half_of y t (p ∷ ps) (inl e) = inl (ap (λ (q : ℕ × Mono). let r : Mono × Mono = (Var q.0, q.1) in r) e)
half_of y t (p ∷ ps) (inr one) = inr (half_of y t ps one)

pub any_one : (y : ℕ) (xs : List ℕ) → list_any (λ x. x == y) xs ≡ true → IsOneOf y xs
any_one y [] e = absurd (false≢true e)
any_one y (x ∷ xs) e = by_test (eqb_tells x y) (λ k. any_one y xs k)
  where
    by_test : ((eqb x y ≡ true) × (x ≡ y)) ⊎ ((eqb x y ≡ false) × (x ≢ y)) → (list_any (λ z. z == y) xs ≡ true → IsOneOf y xs) → IsOneOf y (x ∷ xs)
    by_test (inl k) go = inl (sym k.1)
    by_test (inr k) go = inr (go (subst (λ b. (b || list_any (λ z. z == y) xs) ≡ true) k.0 e))

one_in_set : (x : ℕ) (ts : List Mono) (i : ℕ) (t : Mono) → i < length ts → IsOneOf x (variables t) → IsOneOf x (concat (map variables (set ts i t)))
one_in_set x [] i t h one = absurd (omega arith)
one_in_set x (u ∷ ts) zero t h one = one_left x (variables t) (concat (map variables ts)) one
one_in_set x (u ∷ ts) (suc i) t h one = let k : i < length ts = omega arith in one_right x (variables u) (concat (map variables (set ts i t))) (one_in_set x ts i t k one)

length-set_at : (ts : List Mono) (i : ℕ) (t : Mono) → length (set ts i t) ≡ length ts
length-set_at [] i t = refl
length-set_at (u ∷ ts) zero t = refl
length-set_at (u ∷ ts) (suc i) t = ap suc (length-set_at ts i t)

concat-append : (xs ys : List (List ℕ)) → concat (xs ++ ys) ≡ concat xs ++ concat ys
concat-append [] ys = refl
concat-append (x ∷ xs) ys = ap (λ z. x ++ z) (concat-append xs ys) ∙ sym (append_assoc x (concat xs) (concat ys))

module _ (ps : Pairs) (x : ℕ) where
  pub finds_here : (seen : List ℕ) → Finds ps x (Var x) seen (Some (Var x))
  finds_here seen = (Related.same (Var x), subst (IsOneOf x) (sym (variables_var x)) (inl refl), λ h. absurd (h (head_var x)))

  alone : (y : ℕ) → Avoids ps x y → Each (Avoids ps x) (variables (Var y))
  alone y a = subst (Each (Avoids ps x)) (sym (variables_var y)) (a, tt)

  pub finds_seen : (y : ℕ) (seen : List ℕ) → Each (Avoids ps x) seen → IsOneOf y seen → Finds ps x (Var y) seen None
  finds_seen y seen h one = (alone y (each_of (Avoids ps x) seen y h one), h)

  pub finds_through : (y : ℕ) (t w : Mono) (seen : List ℕ) → first_for y ps ≡ Some t → Finds ps x t seen (Some w) → Finds ps x (Var y) seen (Some w)
  finds_through y t w seen found h = (chained (Var y) t w (given (Var y) t (half_of y t ps (first_one y t ps found))) h.0, h.1, λ k. absurd (k (head_var y)))

  finds_new : (y : ℕ) (seen : List ℕ) → Avoids ps x y → Each (Avoids ps x) seen → Finds ps x (Var y) (seen ++ y ∷ []) None
  finds_new y seen a h = (alone y a, each_both (Avoids ps x) seen (y ∷ []) h (a, tt))

  avoids_bound : (y : ℕ) (t : Mono) → IsGood ps → (y ≡ x → ⊥) → first_for y ps ≡ Some t → Each (Avoids ps x) (variables t) → Avoids ps x y
  avoids_bound y t good other found h = (other, λ r. by_first r)
    where
      is_its : (s : Mono) → IsOneOf {X = ℕ × Mono} (y, s) ps → s ≡ t
      is_its s pair = let q : Some s ≡ Some t = sym (one_first y s ps good.distinct pair) ∙ found in cc

      by_first : Reaches ps y x → ⊥
      by_first (at_once _ _ s pair one) = (each_of (Avoids ps x) (variables t) x h (subst (λ v. IsOneOf x (variables v)) (is_its s pair) one)).0 refl
      by_first (through _ u _ s pair one r) = (each_of (Avoids ps x) (variables t) u h (subst (λ v. IsOneOf u (variables v)) (is_its s pair) one)).1 r

  pub avoids_free : (y : ℕ) → (y ≡ x → ⊥) → first_for y ps ≡ None → Avoids ps x y
  avoids_free y other free = (other, λ r. by_first r)
    where
      by_first : Reaches ps y x → ⊥
      by_first (at_once _ _ s pair one) = none_one y s ps free pair
      by_first (through _ u _ s pair one r) = none_one y s ps free pair

  pub finds_bound : (y : ℕ) (t : Mono) (seen : List ℕ) → IsGood ps → (y ≡ x → ⊥) → first_for y ps ≡ Some t → Finds ps x t seen None → Finds ps x (Var y) (seen ++ y ∷ []) None
  finds_bound y t seen good other found h = finds_new y seen (avoids_bound y t good other found h.0) h.1

  pub finds_free : (y : ℕ) (seen : List ℕ) → (y ≡ x → ⊥) → first_for y ps ≡ None → Each (Avoids ps x) seen → Finds ps x (Var y) (seen ++ y ∷ []) None
  finds_free y seen other free h = finds_new y seen (avoids_free y other free) h

  pub finds_left : (a b w : Mono) (seen : List ℕ) → Finds ps x a seen (Some w) → Finds ps x (Fun a b) seen (Some (Fun w b))
  finds_left a b w seen h =
      (from a w b h.0, subst (IsOneOf x) (sym (variables_fun w b)) (one_left x (variables w) (variables b) h.1), λ _. head_fun w b ∙ sym (head_fun a b))

  pub finds_right : (a b w : Mono) (seen : List ℕ) → Finds ps x b seen (Some w) → Finds ps x (Fun a b) seen (Some (Fun a w))
  finds_right a b w seen h =
      (to a b w h.0, subst (IsOneOf x) (sym (variables_fun a w)) (one_right x (variables a) (variables w) h.1), λ _. head_fun a w ∙ sym (head_fun a b))

  pub finds_neither : (a b : Mono) (seen later : List ℕ) → Finds ps x a seen None → Finds ps x b later None → Finds ps x (Fun a b) later None
  finds_neither a b seen later h k = (subst (Each (Avoids ps x)) (sym (variables_fun a b)) (each_both (Avoids ps x) (variables a) (variables b) h.0 k.0), k.1)

  pub finds_argument : (e : Entity) (ts us : List Mono) (seen : List ℕ) → FindsAmong ps x ts seen (Some us) → Finds ps x (Con e ts) seen (Some (Con e us))
  finds_argument e ts us seen h = (
    subst (λ vs. Related (halves ps) (Con e ts) (Con e vs)) (sym h.swapped) (replaced_argument e ts h.place h.ty h.within h.related),
    subst (IsOneOf x) (sym (variables_con e us)) (subst (λ vs. IsOneOf x (concat (map variables vs))) (sym h.swapped) (one_in_set x ts h.place h.ty h.within h.inside)),
    λ _. head_con e us ∙ ap (head e) (ap length h.swapped ∙ length-set_at ts h.place h.ty) ∙ sym (head_con e ts),
  )

  pub finds_no_argument : (e : Entity) (ts : List Mono) (seen : List ℕ) → FindsAmong ps x ts seen None → Finds ps x (Con e ts) seen None
  finds_no_argument e ts seen h = (subst (Each (Avoids ps x)) (sym (variables_con e ts)) h.0, h.1)

  pub among_more : (ts : List Mono) (i : ℕ) (t : Mono) → i < length ts → t ≡ get_or ts i t → Each (Avoids ps x) (concat (map variables (take i ts))) → Each (Avoids ps x) (variables t)
      → Each (Avoids ps x) (concat (map variables (take (i + 1) ts)))
  among_more ts i t within is h k =
      let front : List Mono = take i ts in
      let whole : concat (map variables (take (i + 1) ts)) ≡ concat (map variables front) ++ (variables t ++ []) =
      ap (λ us. concat (map variables us)) (take_more ts i t within ∙ ap (λ u. front ++ u ∷ []) (sym is)) ∙ ap concat (map-append variables front (t ∷ [])) ∙ concat-append (map variables front) (variables t ∷ []) in
      subst (Each (Avoids ps x)) (sym whole) (each_both (Avoids ps x) (concat (map variables front)) (variables t ++ []) h (each_both (Avoids ps x) (variables t) [] k tt))

  -- the same at values that the code holds
  pub finds_as : (t u : Mono) (seen : List ℕ) (o p : Option Mono) → t ≡ u → o ≡ p → Finds ps x t seen o → Finds ps x u seen p
  finds_as t u seen o p e k h = subst (λ q. Finds ps x u seen q) k (subst (λ v. Finds ps x v seen o) e h)

  among_as : (ts us : List Mono) (seen : List ℕ) (o p : Option (List Mono)) → ts ≡ us → o ≡ p → FindsAmong ps x ts seen o → FindsAmong ps x us seen p
  among_as ts us seen o p e k h = subst (λ q. FindsAmong ps x us seen q) k (subst (λ v. FindsAmong ps x v seen o) e h)

  pub left_made : (ty a b g w b' f : Mono) (seen : List ℕ) (o : Option Mono) → ty ≡ Fun a b → g ≡ a → o ≡ Some w → Finds ps x g seen o → f ≡ w → b' ≡ b → Finds ps x ty seen (Some (Fun f b'))
  left_made ty a b g w b' f seen o is same found h e k =
      finds_as (Fun a b) ty seen (Some (Fun w b)) (Some (Fun f b')) (sym is) (λ i. Some (Fun (sym e i) (sym k i))) (finds_left a b w seen (finds_as g a seen o (Some w) same found h))

  pub right_made : (ty a b g w a' f : Mono) (seen : List ℕ) (o : Option Mono) → ty ≡ Fun a b → g ≡ b → o ≡ Some w → Finds ps x g seen o → f ≡ w → a' ≡ a → Finds ps x ty seen (Some (Fun a' f))
  right_made ty a b g w a' f seen o is same found h e k =
      finds_as (Fun a b) ty seen (Some (Fun a w)) (Some (Fun a' f)) (sym is) (λ i. Some (Fun (sym k i) (sym e i))) (finds_right a b w seen (finds_as g b seen o (Some w) same found h))

  pub neither_made : (ty a b g k : Mono) (seen later : List ℕ) (o p : Option Mono) → ty ≡ Fun a b → g ≡ a → k ≡ b → o ≡ None → p ≡ None → Finds ps x g seen o → Finds ps x k later p → Finds ps x ty later None
  neither_made ty a b g k seen later o p is first second lacks too h l =
      finds_as (Fun a b) ty later None None (sym is) refl (finds_neither a b seen later (finds_as g a seen o None first lacks h) (finds_as k b later p None second too l))

  pub argument_made : (ty : Mono) (e f : Entity) (ts gs us : List Mono) (seen : List ℕ) (o : Option (List Mono)) → ty ≡ Con e ts → gs ≡ ts → o ≡ Some us → f ≡ e → FindsAmong ps x gs seen o
      → Finds ps x ty seen (Some (Con f us))
  argument_made ty e f ts gs us seen o is same found copy h =
      finds_as (Con e ts) ty seen (Some (Con e us)) (Some (Con f us)) (sym is) (ap (λ g. Some (Con g us)) (sym copy)) (finds_argument e ts us seen (among_as gs ts seen o (Some us) same found h))

  pub no_argument_made : (ty : Mono) (e : Entity) (ts gs : List Mono) (seen : List ℕ) (o : Option (List Mono)) → ty ≡ Con e ts → gs ≡ ts → o ≡ None → FindsAmong ps x gs seen o → Finds ps x ty seen None
  no_argument_made ty e ts gs seen o is same lacks h = finds_as (Con e ts) ty seen None None (sym is) refl (finds_no_argument e ts seen (among_as gs ts seen o None same lacks h))
