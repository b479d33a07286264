-- A walk through the types of variables: where it does not meet a variable, none of them leads there.
use Rattle.std.proofs.Common.{◌≡◌, ◌≢◌, ◌⊎◌, ◌<◌, ℕ, true, false, cond, eqb, List, [], ◌∷◌, ◌++◌, map, Some, None, refl, sym, ap, ◌∙◌, subst, inl, inr}
use Rattle.std.specs.List.{AllByRecursion as Each, concat}
use Rattle.std.proofs.lemmas.List.{map-append}
use Rattle.std.proofs.lemmas.List.Folds.{concat-append}
use Rattle.std.proofs.lemmas.Bool.Decides.{eqb_tells}
use Rattle.hr_base.specs.declared.bind.Entity.{Entity}
use Rattle.hr_type.specs.declared.mono.Mono.{Mono}
use Rattle.hr_type.specs.declared.mono.Mono.TheVariants.{Var, Con, Fun}
use Rattle.hr_type.specs.Heads.{parts}
use Rattle.hr_type.specs.Types.{variables, first_for}
use Rattle.hr_type.proofs.Layers.{by_kind, parts_con, parts_fun}
use Rattle.hr_type.proofs.Matched.{IsApplied}
use Rattle.hr_unify.specs.Tasks.{marks, put}
use Rattle.hr_unify.specs.Unifiers.{IsOneOf, Pairs, Reaches, at_once, through, IsGood}
use Rattle.hr_unify.specs.Weights.{load, total}
use Rattle.hr_unify.specs.Working.{Avoids, Looks, keys}
use Rattle.hr_unify.proofs.Lists.{each_from, one_left, one_right, one_cases, one_first, first_one}
use Rattle.hr_unify.proofs.Loads.{walk_dropped, walk_bound}
use Rattle.hr_unify.proofs.Values.{variables_var, variables_con, variables_fun}

abbrev pub vars_of : List Mono → List ℕ
vars_of ts = concat (map variables ts)

-- a variable was looked into, or stands in a type that waits
abbrev pub Lies : List ℕ → List Mono → ℕ → Type 0
Lies K L u = IsOneOf u K ⊎ IsOneOf u (vars_of L)

pub record Walks (pairs : Pairs) (x : ℕ) (ty : Mono) (K : List ℕ) (L : List Mono) : Type 0 where
  pub start : (u : ℕ) → IsOneOf u (variables ty) → Lies K L u
  pub inner : (v : ℕ) (t : Mono) → IsOneOf v K → first_for v pairs ≡ Some t → (u : ℕ) → IsOneOf u (variables t) → Lies K L u
  pub apart : IsOneOf x K → ⊥

vars_split : (L M : List Mono) → vars_of (L ++ M) ≡ vars_of L ++ vars_of M
vars_split L M = ap concat (map-append variables L M) ∙ concat-append (map variables L) (map variables M)

vars_left : (u : ℕ) (L M : List Mono) → IsOneOf u (vars_of L) → IsOneOf u (vars_of (L ++ M))
vars_left u L M one = subst (IsOneOf u) (sym (vars_split L M)) (one_left u (vars_of L) (vars_of M) one)

vars_right : (u : ℕ) (L M : List Mono) → IsOneOf u (vars_of M) → IsOneOf u (vars_of (L ++ M))
vars_right u L M one = subst (IsOneOf u) (sym (vars_split L M)) (one_right u (vars_of L) (vars_of M) one)

vars_cases : (u : ℕ) (L M : List Mono) → IsOneOf u (vars_of (L ++ M)) → IsOneOf u (vars_of L) ⊎ IsOneOf u (vars_of M)
vars_cases u L M one = one_cases u (vars_of L) (vars_of M) (subst (IsOneOf u) (vars_split L M) one)

alone : (u : ℕ) (t : Mono) → IsOneOf u (vars_of (t ∷ [])) → IsOneOf u (variables t)
alone u t one = by_cases (one_cases u (variables t) [] one)
  where
    by_cases : IsOneOf u (variables t) ⊎ IsOneOf u [] → IsOneOf u (variables t)
    by_cases (inl k) = k
    by_cases (inr k) = absurd k

pub variables_parts : (t : Mono) → IsApplied t → variables t ≡ vars_of (parts t)
variables_parts =
    by_kind (λ t. IsApplied t → variables t ≡ vars_of (parts t)) (λ n a. absurd (a n refl)) (λ e ts a. variables_con e ts ∙ sym (ap vars_of (parts_con e ts)))
    (λ a b h. variables_fun a b ∙ two (variables a) (variables b) ∙ sym (ap vars_of (parts_fun a b)))
  where
    two : (xs ys : List ℕ) → xs ++ ys ≡ xs ++ (ys ++ [])
    two xs ys = ap (λ zs. xs ++ zs) (sym (Rattle.std.proofs.Common.append-nil ys))

module _ (pairs : Pairs) (x : ℕ) (ty : Mono) where
  pub walk_starts : (K : List ℕ) (L : List Mono) → K ≡ [] → L ≡ ty ∷ [] → Walks pairs x ty K L
  walk_starts K L k l = record {
    start = λ u one. inr (subst (λ ts. IsOneOf u (vars_of ts)) (sym l) (one_left u (variables ty) [] one));
    inner = λ v t one found u other. absurd (subst (IsOneOf v) k one);
    apart = λ one. absurd (subst (IsOneOf x) k one);
  }

  -- where each variable that lay still lies, and what is new has its type looked into
  moves : (K K' : List ℕ) (L L' : List Mono) → Walks pairs x ty K L → ((u : ℕ) → Lies K L u → Lies K' L' u)
      → ((v : ℕ) (t : Mono) → IsOneOf v K' → first_for v pairs ≡ Some t → IsOneOf v K ⊎ ((u : ℕ) → IsOneOf u (variables t) → Lies K' L' u)) → (IsOneOf x K' → ⊥) → Walks pairs x ty K' L'
  moves K K' L L' w lies fresh apart = record { start = λ u one. lies u (w.start u one); inner = λ v t one found u other. by_cases v t found u other (fresh v t one found); apart = apart }
    where
      by_cases : (v : ℕ) (t : Mono) → first_for v pairs ≡ Some t → (u : ℕ) → IsOneOf u (variables t) → IsOneOf v K ⊎ ((u : ℕ) → IsOneOf u (variables t) → Lies K' L' u) → Lies K' L' u
      by_cases v t found u other (inl one) = lies u (w.inner v t one found u other)
      by_cases v t found u other (inr h) = h u other

  pub walk_parts : (K : List ℕ) (L L' rest : List Mono) (t : Mono) → L ≡ rest ++ t ∷ [] → IsApplied t → L' ≡ rest ++ parts t → Walks pairs x ty K L → Walks pairs x ty K L'
  walk_parts K L L' rest t is a was w = moves K K L L' w still (λ v s one found. inl one) w.apart
    where
      inside : (u : ℕ) → IsOneOf u (vars_of rest) ⊎ IsOneOf u (vars_of (t ∷ [])) → IsOneOf u (vars_of L')
      inside u (inl one) = subst (λ ts. IsOneOf u (vars_of ts)) (sym was) (vars_left u rest (parts t) one)
      inside u (inr one) = subst (λ ts. IsOneOf u (vars_of ts)) (sym was) (vars_right u rest (parts t) (subst (IsOneOf u) (variables_parts t a) (alone u t one)))

      still : (u : ℕ) → Lies K L u → Lies K L' u
      still u (inl one) = inl one
      still u (inr one) = inr (inside u (vars_cases u rest (t ∷ []) (subst (λ ts. IsOneOf u (vars_of ts)) is one)))

  module _ (K K' : List ℕ) (L L' rest : List Mono) (n : ℕ) (t : Mono) (is : L ≡ rest ++ t ∷ []) (named : t ≡ Var n) (other : n ≡ x → ⊥) (w : Walks pairs x ty K L) where
    it : (u : ℕ) → IsOneOf u (vars_of (t ∷ [])) → u ≡ n
    it u one = by_one (subst (IsOneOf u) (ap variables named ∙ variables_var n) (alone u t one))
      where
        by_one : IsOneOf u (n ∷ []) → u ≡ n
        by_one (inl e) = e
        by_one (inr k) = absurd k

    lies_on : IsOneOf n K' → ((u : ℕ) → IsOneOf u K → IsOneOf u K') → ((u : ℕ) → IsOneOf u (vars_of rest) → IsOneOf u (vars_of L')) → (u : ℕ) → Lies K L u → Lies K' L' u
    lies_on here keep grow u (inl one) = inl (keep u one)
    lies_on here keep grow u (inr one) = by_cases (vars_cases u rest (t ∷ []) (subst (λ ts. IsOneOf u (vars_of ts)) is one))
      where
        by_cases : IsOneOf u (vars_of rest) ⊎ IsOneOf u (vars_of (t ∷ [])) → Lies K' L' u
        by_cases (inl k) = inr (grow u k)
        by_cases (inr k) = inl (subst (λ v. IsOneOf v K') (sym (it u k)) here)

    pub walk_looks : Looks pairs n K K' rest L' → Walks pairs x ty K' L'
    walk_looks (inl h) =
        subst (λ ks. Walks pairs x ty ks L') (sym h.1)
        (moves K K L L' w (λ u l. still u l) (λ v s one found. inl one) w.apart)
      where
        grown : (u : ℕ) → IsOneOf u (vars_of rest) ⊎ IsOneOf u (vars_of (t ∷ [])) → Lies K L' u
        grown u (inl k) = inr (subst (λ ts. IsOneOf u (vars_of ts)) (sym h.2) k)
        grown u (inr k) = inl (subst (λ v. IsOneOf v K) (sym (it u k)) h.0)

        still : (u : ℕ) → Lies K L u → Lies K L' u
        still u (inl one) = inl one
        still u (inr one) = grown u (vars_cases u rest (t ∷ []) (subst (λ ts. IsOneOf u (vars_of ts)) is one))
    walk_looks (inr (ks, inl h)) =
        moves K K' L L' w (lies_on ((ks n).1 (inl refl)) (λ u one. (ks u).1 (inr one)) (λ u one. subst (λ ts. IsOneOf u (vars_of ts)) (sym h.1) one))
        (λ v s one found. fresh v s found ((ks v).0 one)) (λ one. apart ((ks x).0 one))
      where
        fresh : (v : ℕ) (s : Mono) → first_for v pairs ≡ Some s → (v ≡ n) ⊎ IsOneOf v K → IsOneOf v K ⊎ ((u : ℕ) → IsOneOf u (variables s) → Lies K' L' u)
        fresh v s found (inr one) = inl one
        fresh v s found (inl e) = let q : Some s ≡ None = sym found ∙ ap (λ m. first_for m pairs) e ∙ h.0 in absurd (cc)

        apart : (x ≡ n) ⊎ IsOneOf x K → ⊥
        apart (inl e) = other (sym e)
        apart (inr one) = w.apart one
    walk_looks (inr (ks, inr h)) =
        moves K K' L L' w (lies_on ((ks n).1 (inl refl)) (λ u one. (ks u).1 (inr one)) (λ u one. subst (λ ts. IsOneOf u (vars_of ts)) (sym h.2) (vars_left u rest (h.0 ∷ []) one)))
        (λ v s one found. fresh v s found ((ks v).0 one)) (λ one. apart ((ks x).0 one))
      where
        fresh : (v : ℕ) (s : Mono) → first_for v pairs ≡ Some s → (v ≡ n) ⊎ IsOneOf v K → IsOneOf v K ⊎ ((u : ℕ) → IsOneOf u (variables s) → Lies K' L' u)
        fresh v s found (inr one) = inl one
        fresh v s found (inl e) =
            let q : Some s ≡ Some h.0 = sym found ∙ ap (λ m. first_for m pairs) e ∙ h.1 in
            let same : s ≡ h.0 = cc in
            inr (λ u one. inr (subst (λ ts. IsOneOf u (vars_of ts)) (sym h.2) (vars_right u rest (h.0 ∷ []) (one_left u (variables h.0) [] (subst (λ m. IsOneOf u (variables m)) same one)))))

        apart : (x ≡ n) ⊎ IsOneOf x K → ⊥
        apart (inl e) = other (sym e)
        apart (inr one) = w.apart one

    pub looks_smaller : IsGood pairs → Looks pairs n K K' rest L' → total (map (load pairs) L') < total (map (load pairs) L)
    looks_smaller good (inl h) = subst (λ ts. total (map (load pairs) ts) < total (map (load pairs) L)) (sym h.2) (walk_dropped pairs good L rest t is)
    looks_smaller good (inr (ks, inl h)) = subst (λ ts. total (map (load pairs) ts) < total (map (load pairs) L)) (sym h.1) (walk_dropped pairs good L rest t is)
    looks_smaller good (inr (ks, inr h)) = walk_bound pairs good L L' rest t h.0 n is named h.1 h.2

  -- with nothing left no variable of the type leads to the one that was sought
  module _ (K : List ℕ) (L : List Mono) (good : IsGood pairs) (none : L ≡ []) (w : Walks pairs x ty K L) where
    settled : (u : ℕ) → Lies K L u → IsOneOf u K
    settled u (inl one) = one
    settled u (inr one) = absurd (subst (λ ts. IsOneOf u (vars_of ts)) none one)

    reached : (v u : ℕ) → IsOneOf v K → Reaches pairs v u → IsOneOf u K
    reached v u one (at_once _ _ t pair other) = settled u (w.inner v t one (one_first v t pairs good.distinct pair) u other)
    reached v u one (through _ y _ t pair other r) = reached y u (settled y (w.inner v t one (one_first v t pairs good.distinct pair) y other)) r

    pub walk_ends : Each (Avoids pairs x) (variables ty)
    walk_ends =
        each_from (Avoids pairs x) (variables ty)
        (λ u one. let k = settled u (w.start u one) in ((λ e. w.apart (subst (λ v. IsOneOf v K) e k)), (λ r. w.apart (reached u x k r))))

-- the variables that were looked into, with one more
pub marked_key : (x y : ℕ) (E : List (ℕ × ℕ)) → IsOneOf {X = ℕ × Mono} (x, Var y) (marks E) → IsOneOf x (keys E)
marked_key x y [] one = absurd one
marked_key x y (p ∷ E) (inl e) = inl (ap (λ (q : ℕ × Mono). q.0) e)
marked_key x y (p ∷ E) (inr one) = inr (marked_key x y E one)

pub keys_put : (x y v : ℕ) (E : List (ℕ × ℕ)) → (IsOneOf v (keys (put x y E)) → (v ≡ x) ⊎ IsOneOf v (keys E)) × ((v ≡ x) ⊎ IsOneOf v (keys E) → IsOneOf v (keys (put x y E)))
keys_put x y v [] = (there, back)
  where
    there : IsOneOf v (x ∷ []) → (v ≡ x) ⊎ IsOneOf v []
    there (inl e) = inl e
    there (inr one) = absurd one

    back : (v ≡ x) ⊎ IsOneOf v [] → IsOneOf v (x ∷ [])
    back (inl e) = inl e
    back (inr one) = absurd one
keys_put x y v (p ∷ E) = by_test (eqb_tells x p.0) (keys_put x y v E)
  where
    same : x ≡ p.0 → (v ≡ x) ⊎ IsOneOf v (keys (p ∷ E)) → IsOneOf v (p.0 ∷ keys E)
    same e (inl k) = inl (k ∙ e)
    same e (inr one) = one

    there : (IsOneOf v (keys (put x y E)) → (v ≡ x) ⊎ IsOneOf v (keys E)) → IsOneOf v (p.0 ∷ keys (put x y E)) → (v ≡ x) ⊎ IsOneOf v (keys (p ∷ E))
    there f (inl e) = inr (inl e)
    there f (inr one) = later (f one)
      where
        later : (v ≡ x) ⊎ IsOneOf v (keys E) → (v ≡ x) ⊎ IsOneOf v (keys (p ∷ E))
        later (inl k) = inl k
        later (inr k) = inr (inr k)

    back : ((v ≡ x) ⊎ IsOneOf v (keys E) → IsOneOf v (keys (put x y E))) → (v ≡ x) ⊎ IsOneOf v (keys (p ∷ E)) → IsOneOf v (p.0 ∷ keys (put x y E))
    back f (inl k) = inr (f (inl k))
    back f (inr (inl e)) = inl e
    back f (inr (inr one)) = inr (f (inr one))

    by_test : ((eqb x p.0 ≡ true) × (x ≡ p.0)) ⊎ ((eqb x p.0 ≡ false) × (x ≢ p.0))
        → (IsOneOf v (keys (put x y E)) → (v ≡ x) ⊎ IsOneOf v (keys E)) × ((v ≡ x) ⊎ IsOneOf v (keys E) → IsOneOf v (keys (put x y E))) → (IsOneOf v (keys (put x y (p ∷ E))) → (v ≡ x) ⊎ IsOneOf v (keys (p ∷ E))) × ((v ≡ x) ⊎ IsOneOf v (keys (p ∷ E)) → IsOneOf v (keys (put x y (p ∷ E))))
    by_test (inl k) f = subst (λ b. (IsOneOf v (keys (cond b ((p.0, y) ∷ E) (p ∷ put x y E))) → (v ≡ x) ⊎ IsOneOf v (keys (p ∷ E))) × ((v ≡ x) ⊎ IsOneOf v (keys (p ∷ E)) → IsOneOf v (keys (cond b ((p.0, y) ∷ E) (p ∷ put x y E))))) (sym k.0) ((λ one. inr one), same k.1)
    by_test (inr k) f = subst (λ b. (IsOneOf v (keys (cond b ((p.0, y) ∷ E) (p ∷ put x y E))) → (v ≡ x) ⊎ IsOneOf v (keys (p ∷ E))) × ((v ≡ x) ⊎ IsOneOf v (keys (p ∷ E)) → IsOneOf v (keys (cond b ((p.0, y) ∷ E) (p ∷ put x y E))))) (sym k.0) (there f.0, back f.1)

-- a variable looked into
module _ (pairs : Pairs) (x : ℕ) (E F : List (ℕ × ℕ)) (left later : List Mono) where
  pub looked_before : IsOneOf {X = ℕ × Mono} (x, Var x) (marks E) → Looks pairs x (keys E) (keys E) left left
  looked_before one = inl (marked_key x x E one, refl, refl)

  keyed : F ≡ put x x E → (v : ℕ) → (IsOneOf v (keys F) → (v ≡ x) ⊎ IsOneOf v (keys E)) × ((v ≡ x) ⊎ IsOneOf v (keys E) → IsOneOf v (keys F))
  keyed e v = subst (λ G. (IsOneOf v (keys G) → (v ≡ x) ⊎ IsOneOf v (keys E)) × ((v ≡ x) ⊎ IsOneOf v (keys E) → IsOneOf v (keys G))) (sym e) (keys_put x x v E)

  pub looked_free : F ≡ put x x E → first_for x pairs ≡ None → Looks pairs x (keys E) (keys F) left left
  looked_free e none = inr (keyed e, inl (none, refl))

  pub looked_bound : (t : Mono) → F ≡ put x x E → first_for x pairs ≡ Some t → later ≡ left ++ t ∷ [] → Looks pairs x (keys E) (keys F) left later
  looked_bound t e found is = inr (keyed e, inr (t, found, is))
