-- Elements of lists, and the first pair of a variable.
use Rattle.std.proofs.Common.{◌≡◌, ◌≢◌, ◌⊎◌, ◌<◌, suc, zero, length, take, drop, reverse, get_or, slice_get, drop-cons, ◌+◌, arith, ℕ, Bool, true, false, cond, eqb, nat_eq, Bor, Option, List, [], ◌∷◌, ◌++◌, map, Some, None, Result, Ok, Err, OnOk, IfOk, MatchResult, is_ok, refl, sym, ap, ◌∙◌, inl, inr, subst, append_assoc}
use Rattle.std.specs.List.{AllByRecursion as Each, IsDistinct}
use Rattle.std.proofs.lemmas.List.{map-append, take-append-drop, reverse-append}
use Rattle.std.proofs.lemmas.Bool.{eq-eqb, false≢true}
use Rattle.std.proofs.lemmas.Bool.Decides.{eqb_tells}
use Rattle.std.specs.Map.{lookup}
use Rattle.indexmap.specs.IndexMap.{insert_entry}
use Rattle.hr_type.specs.declared.mono.Mono.{Mono}
use Rattle.hr_type.specs.declared.mono.Mono.TheVariants.{Var}
use Rattle.hr_unify.specs.Tasks.{marks, seen_pairs}
use Rattle.hr_type.specs.Types.{first_for}
use Rattle.hr_unify.specs.Unifiers.{IsOneOf, Pairs}
use Rattle.hr_unify.specs.Weights.{update}

module _ {X : Type 0} (P : X → Type 0) where
  pub each_of : (xs : List X) (x : X) → Each P xs → IsOneOf x xs → P x
  each_of [] x all one = absurd one
  each_of (y ∷ ys) x all (inl e) = subst P (sym e) all.0
  each_of (y ∷ ys) x all (inr one) = each_of ys x all.1 one

  pub each_from : (xs : List X) → ((x : X) → IsOneOf x xs → P x) → Each P xs
  each_from [] h = tt
  each_from (y ∷ ys) h = (h y (inl refl), each_from ys (λ x one. h x (inr one)))

  pub each_left : (xs ys : List X) → Each P (xs ++ ys) → Each P xs
  each_left [] ys h = tt
  each_left (x ∷ xs) ys h = (h.0, each_left xs ys h.1)

  pub each_right : (xs ys : List X) → Each P (xs ++ ys) → Each P ys
  each_right [] ys h = h
  each_right (x ∷ xs) ys h = each_right xs ys h.1

  pub each_both : (xs ys : List X) → Each P xs → Each P ys → Each P (xs ++ ys)
  each_both [] ys h k = k
  each_both (x ∷ xs) ys h k = (h.0, each_both xs ys h.1 k)

pub each_weaker : {X : Type 0} (P Q : X → Type 0) (xs : List X) → ((x : X) → P x → Q x) → Each P xs → Each Q xs
each_weaker P Q [] f h = tt
each_weaker P Q (x ∷ xs) f h = (f x h.0, each_weaker P Q xs f h.1)

pub each_map : {X Y : Type 0} (P : Y → Type 0) (f : X → Y) (xs : List X) → Each (λ x. P (f x)) xs → Each P (map f xs)
each_map P f [] h = tt
each_map P f (x ∷ xs) h = (h.0, each_map P f xs h.1)

pub each_unmap : {X Y : Type 0} (P : Y → Type 0) (f : X → Y) (xs : List X) → Each P (map f xs) → Each (λ x. P (f x)) xs
each_unmap P f [] h = tt
each_unmap P f (x ∷ xs) h = (h.0, each_unmap P f xs h.1)

module _ {X : Type 0} (x : X) where
  pub one_left : (xs ys : List X) → IsOneOf x xs → IsOneOf x (xs ++ ys)
  one_left [] ys h = absurd h
  one_left (z ∷ xs) ys (inl e) = inl e
  one_left (z ∷ xs) ys (inr h) = inr (one_left xs ys h)

  pub one_right : (xs ys : List X) → IsOneOf x ys → IsOneOf x (xs ++ ys)
  one_right [] ys h = h
  one_right (z ∷ xs) ys h = inr (one_right xs ys h)

  pub one_cases : (xs ys : List X) → IsOneOf x (xs ++ ys) → IsOneOf x xs ⊎ IsOneOf x ys
  one_cases [] ys h = inr h
  one_cases (z ∷ xs) ys (inl e) = inl (inl e)
  one_cases (z ∷ xs) ys (inr h) = deeper (one_cases xs ys h)
    where
      deeper : IsOneOf x xs ⊎ IsOneOf x ys → IsOneOf x (z ∷ xs) ⊎ IsOneOf x ys
      deeper (inl k) = inl (inr k)
      deeper (inr k) = inr k

cond_is : {X : Type 0} (b t : Bool) (x y : X) → b ≡ t → cond b x y ≡ cond t x y
cond_is b t x y e = ap (λ v. cond v x y) e

pub update_here : {A : Type 0} (n : ℕ) (a : A) (f : ℕ → A) → update n a f n ≡ a
unfolding update
update_here n a f = cond_is _ true a (f n) (eq-eqb n n refl)

pub update_there : {A : Type 0} (n m : ℕ) (a : A) (f : ℕ → A) → (m ≡ n → ⊥) → update n a f m ≡ f m
unfolding update
update_there n m a f h = elim (eqb_tells m n) [ inl y ↦ absurd (h y.1) | inr y ↦ cond_is _ false a (f m) y.0 ]

-- the first pair of a variable is one of the pairs
pub first_one : (x : ℕ) (t : Mono) (ps : Pairs) → first_for x ps ≡ Some t → IsOneOf (x, t) ps
first_one x t [] e = absurd (cc)
first_one x t (p ∷ ps) e = by_test (eqb_tells p.0 x) (λ later. first_one x t ps later)
  where
    by_test : ((eqb p.0 x ≡ true) × (p.0 ≡ x)) ⊎ ((eqb p.0 x ≡ false) × (p.0 ≢ x)) → (first_for x ps ≡ Some t → IsOneOf (x, t) ps) → IsOneOf (x, t) (p ∷ ps)
    by_test (inl y) go = let q : Some p.1 ≡ Some t = sym (cond_is _ true (Some p.1) (first_for x ps) y.0) ∙ e in let k : p.1 ≡ t = cc in inl (λ i. (sym y.1 i, sym k i))
    by_test (inr y) go = inr (go (sym (cond_is _ false (Some p.1) (first_for x ps) y.0) ∙ e))

-- a variable without a first pair has none
pub none_one : (x : ℕ) (t : Mono) (ps : Pairs) → first_for x ps ≡ None → IsOneOf (x, t) ps → ⊥
none_one x t [] e one = one
none_one x t (p ∷ ps) e one = by_test (eqb_tells p.0 x) one (λ later k. none_one x t ps later k)
  where
    by_test : ((eqb p.0 x ≡ true) × (p.0 ≡ x)) ⊎ ((eqb p.0 x ≡ false) × (p.0 ≢ x)) → IsOneOf (x, t) (p ∷ ps) → (first_for x ps ≡ None → IsOneOf (x, t) ps → ⊥) → ⊥
    by_test (inl y) k go = let q : Some p.1 ≡ None = sym (cond_is _ true (Some p.1) (first_for x ps) y.0) ∙ e in absurd (cc)
    by_test (inr y) (inl k) go = y.1 (sym (ap (λ (q : ℕ × Mono). q.0) k))
    by_test (inr y) (inr k) go = go (sym (cond_is _ false (Some p.1) (first_for x ps) y.0) ∙ e) k

distinct_head : (x : ℕ) (t : Mono) (y : ℕ) (ps : Pairs) → Each (λ z. nat_eq y z ≡ false) (map (λ p. p.0) ps) → IsOneOf (x, t) ps → eqb y x ≡ false
distinct_head x t y [] h one = absurd one
distinct_head x t y (p ∷ ps) h (inl e) = ap (eqb y) (ap (λ (q : ℕ × Mono). q.0) e) ∙ h.0
distinct_head x t y (p ∷ ps) h (inr one) = distinct_head x t y ps h.1 one

-- where no variable is first in two pairs, each pair is the first one of its variable
pub one_first : (x : ℕ) (t : Mono) (ps : Pairs) → IsDistinct nat_eq (map (λ p. p.0) ps) → IsOneOf (x, t) ps → first_for x ps ≡ Some t
unfolding IsDistinct
one_first x t [] d one = absurd one
one_first x t (p ∷ ps) d (inl e) = cond_is _ true (Some p.1) (first_for x ps) (eq-eqb p.0 x (sym (ap (λ (q : ℕ × Mono). q.0) e))) ∙ ap (λ (q : ℕ × Mono). Some q.1) (sym e)
one_first x t (p ∷ ps) d (inr one) = cond_is _ false (Some p.1) (first_for x ps) (distinct_head x t p.0 ps d.0 one) ∙ one_first x t ps d.1 one

pub one_alone : (x : ℕ) (t u : Mono) (ps : Pairs) → IsDistinct nat_eq (map (λ p. p.0) ps) → IsOneOf (x, t) ps → IsOneOf (x, u) ps → t ≡ u
one_alone x t u ps d one other = let q : Some t ≡ Some u = sym (one_first x t ps d one) ∙ one_first x u ps d other in cc

pub none_parts : (x : ℕ) (p : ℕ × Mono) (ps : Pairs) → first_for x (p ∷ ps) ≡ None → (x ≡ p.0 → ⊥) × (first_for x ps ≡ None)
none_parts x p ps e = by_test (eqb_tells p.0 x)
  where
    by_test : ((eqb p.0 x ≡ true) × (p.0 ≡ x)) ⊎ ((eqb p.0 x ≡ false) × (p.0 ≢ x)) → (x ≡ p.0 → ⊥) × (first_for x ps ≡ None)
    by_test (inl y) = let q : Some p.1 ≡ None = sym (cond_is _ true (Some p.1) (first_for x ps) y.0) ∙ e in absurd (cc)
    by_test (inr y) = (λ k. y.1 (sym k), sym (cond_is _ false (Some p.1) (first_for x ps) y.0) ∙ e)

pub none_made : (x : ℕ) (p : ℕ × Mono) (ps : Pairs) → (x ≡ p.0 → ⊥) → first_for x ps ≡ None → first_for x (p ∷ ps) ≡ None
none_made x p ps h e = elim (eqb_tells p.0 x) [ inl y ↦ absurd (h (sym y.1)) | inr y ↦ cond_is _ false (Some p.1) (first_for x ps) y.0 ∙ e ]

-- a variable that differs from each first one has no pair
pub distinct_none : (x : ℕ) (ps : Pairs) → Each (λ z. nat_eq x z ≡ false) (map (λ p. p.0) ps) → first_for x ps ≡ None
distinct_none x [] h = refl
distinct_none x (p ∷ ps) h = none_made x p ps (λ e. false≢true (sym h.0 ∙ eq-eqb x p.0 e)) (distinct_none x ps h.1)

pub one_at : {X : Type 0} (xs : List X) (i : ℕ) (x : X) → i < length xs → x ≡ get_or xs i x → IsOneOf x xs
one_at [] i x within is = absurd (omega arith)
one_at (y ∷ xs) zero x within is = inl is
one_at (y ∷ xs) (suc i) x within is = let k : i < length xs = omega arith in inr (one_at xs i x k is)

-- what holds where a call is Ok, after its error was changed
pub ok_part : {X Y E F : Type 0} (r : Result X E) (q : Result Y F) (y : Y) (P : Type 0) → is_ok q ≡ is_ok r → q ≡ Ok y → OnOk r P → P
ok_part (Ok x) q y P e k h = h
ok_part {Y = Y} {F = F} (Err m) q y P e k h = absurd (false≢true (sym e ∙ ap (is_ok {T = Y} {E = F}) k))

-- what holds of the value of a call that is Ok, after its error was changed
pub ok_value : {X E F : Type 0} (r : Result X E) (q : Result X F) (x : X) (P : X → Type 0) (Q : E → Type 0) → MatchResult r (λ y. q ≡ Ok y) Q → is_ok q ≡ is_ok r → q ≡ Ok x → IfOk r P → P x
ok_value {X = X} {F = F} (Ok y) q x P Q cases e k h = let both : ◌≡◌ {A = Result X F} (Ok y) (Ok x) = sym cases ∙ k in let equal : y ≡ x = cc in subst P equal h
ok_value {X = X} {F = F} (Err m) q x P Q cases e k h = absurd (false≢true (sym e ∙ ap (is_ok {T = X} {E = F}) k))

-- what is found by a variable, in two lists of pairs and by its test
pub first_front : (n : ℕ) (t : Mono) (ps qs : Pairs) → first_for n ps ≡ Some t → first_for n (ps ++ qs) ≡ Some t
first_front n t [] qs e = absurd (cc)
first_front n t (p ∷ ps) qs e = by_test (eqb_tells p.0 n) (first_front n t ps qs)
  where
    by_test : ((eqb p.0 n ≡ true) × (p.0 ≡ n)) ⊎ ((eqb p.0 n ≡ false) × (p.0 ≢ n)) → (first_for n ps ≡ Some t → first_for n (ps ++ qs) ≡ Some t) → first_for n (p ∷ (ps ++ qs)) ≡ Some t
    by_test (inl y) go = ap (λ b. cond b (Some p.1) (first_for n (ps ++ qs))) y.0 ∙ sym (ap (λ b. cond b (Some p.1) (first_for n ps)) y.0) ∙ e
    by_test (inr y) go = ap (λ b. cond b (Some p.1) (first_for n (ps ++ qs))) y.0 ∙ go (sym (ap (λ b. cond b (Some p.1) (first_for n ps)) y.0) ∙ e)

pub first_back : (n : ℕ) (ps qs : Pairs) → first_for n ps ≡ None → first_for n (ps ++ qs) ≡ first_for n qs
first_back n [] qs e = refl
first_back n (p ∷ ps) qs e = by_test (eqb_tells p.0 n) (first_back n ps qs)
  where
    by_test : ((eqb p.0 n ≡ true) × (p.0 ≡ n)) ⊎ ((eqb p.0 n ≡ false) × (p.0 ≢ n)) → (first_for n ps ≡ None → first_for n (ps ++ qs) ≡ first_for n qs) → first_for n (p ∷ (ps ++ qs)) ≡ first_for n qs
    by_test (inl y) go = let q : Some p.1 ≡ None = sym (ap (λ b. cond b (Some p.1) (first_for n ps)) y.0) ∙ e in absurd (cc)
    by_test (inr y) go = ap (λ b. cond b (Some p.1) (first_for n (ps ++ qs))) y.0 ∙ go (sym (ap (λ b. cond b (Some p.1) (first_for n ps)) y.0) ∙ e)

pub turned_test : (m n : ℕ) → eqb m n ≡ eqb n m
turned_test m n = by_tests (eqb_tells m n) (eqb_tells n m)
  where
    by_tests : ((eqb m n ≡ true) × (m ≡ n)) ⊎ ((eqb m n ≡ false) × (m ≢ n)) → ((eqb n m ≡ true) × (n ≡ m)) ⊎ ((eqb n m ≡ false) × (n ≢ m)) → eqb m n ≡ eqb n m
    by_tests (inl a) (inl b) = a.0 ∙ sym b.0
    by_tests (inl a) (inr b) = absurd (b.1 (sym a.1))
    by_tests (inr a) (inl b) = absurd (a.1 (sym b.1))
    by_tests (inr a) (inr b) = a.0 ∙ sym b.0

abbrev pub plain_value : Option (Bor Mono) → Option Mono
plain_value None = None
plain_value (Some t) = Some t.now

pub seen_found : (n : ℕ) (ps : List (ℕ × Bor Mono)) → first_for n (seen_pairs ps) ≡ plain_value (lookup (eqb n) ps)
seen_found n [] = refl
seen_found n (p ∷ ps) = by_test (eqb n p.0) refl (seen_found n ps)
  where
    by_test : (b : Bool) → eqb n p.0 ≡ b → first_for n (seen_pairs ps) ≡ plain_value (lookup (eqb n) ps) → first_for n (seen_pairs (p ∷ ps)) ≡ plain_value (lookup (eqb n) (p ∷ ps))
    by_test true k go =
        ap (λ b. cond b (Some p.1.now) (first_for n (seen_pairs ps))) (turned_test p.0 n ∙ k) ∙ sym (ap (λ b. plain_value (cond b (Some p.1) (lookup (eqb n) ps))) k)
    by_test false k go =
        ap (λ b. cond b (Some p.1.now) (first_for n (seen_pairs ps))) (turned_test p.0 n ∙ k) ∙ go ∙ sym (ap (λ b. plain_value (cond b (Some p.1) (lookup (eqb n) ps))) k)

pub seen_some : (n : ℕ) (ps : List (ℕ × Bor Mono)) (t : Bor Mono) → lookup (eqb n) ps ≡ Some t → first_for n (seen_pairs ps) ≡ Some t.now
seen_some n ps t e = seen_found n ps ∙ ap plain_value e

pub seen_none : (n : ℕ) (ps : List (ℕ × Bor Mono)) → lookup (eqb n) ps ≡ None → first_for n (seen_pairs ps) ≡ None
seen_none n ps e = seen_found n ps ∙ ap plain_value e

pub unseen : (n : ℕ) (ps : List (ℕ × Bor Mono)) → first_for n (seen_pairs ps) ≡ None → lookup (eqb n) ps ≡ None
unseen n ps e = by_value (lookup (eqb n) ps) refl
  where
    by_value : (o : Option (Bor Mono)) → lookup (eqb n) ps ≡ o → o ≡ None
    by_value None k = refl
    by_value (Some t) k = let q : Some t.now ≡ None = sym (seen_found n ps ∙ ap plain_value k) ∙ e in absurd (cc)

pub put_new : {V : Type 0} (n : ℕ) (v : V) (ps : List (ℕ × V)) → lookup (eqb n) ps ≡ None → insert_entry eqb ps n v ≡ ps ++ (n, v) ∷ []
put_new n v [] e = refl
put_new n v (p ∷ ps) e = by_test (eqb n p.0) refl (put_new n v ps)
  where
    by_test : (b : Bool) → eqb n p.0 ≡ b → (lookup (eqb n) ps ≡ None → insert_entry eqb ps n v ≡ ps ++ (n, v) ∷ []) → insert_entry eqb (p ∷ ps) n v ≡ p ∷ (ps ++ (n, v) ∷ [])
    by_test true k go = let q : Some p.1 ≡ None = sym (ap (λ b. cond b (Some p.1) (lookup (eqb n) ps)) k) ∙ e in absurd (cc)
    by_test false k go = ap (λ b. cond b ((p.0, v) ∷ ps) (p ∷ insert_entry eqb ps n v)) k ∙ ap (λ xs. p ∷ xs) (go (sym (ap (λ b. cond b (Some p.1) (lookup (eqb n) ps)) k) ∙ e))

pub marked_one : (x y : ℕ) (ps : List (ℕ × ℕ)) → lookup (eqb x) ps ≡ Some y → IsOneOf {X = ℕ × Mono} (x, Var y) (marks ps)
marked_one x y [] e = absurd (cc)
marked_one x y (p ∷ ps) e = by_test (eqb_tells x p.0) (marked_one x y ps)
  where
    by_test : ((eqb x p.0 ≡ true) × (x ≡ p.0)) ⊎ ((eqb x p.0 ≡ false) × (x ≢ p.0)) → (lookup (eqb x) ps ≡ Some y → IsOneOf {X = ℕ × Mono} (x, Var y) (marks ps)) → IsOneOf {X = ℕ × Mono} (x, Var y) (marks (p ∷ ps))
    by_test (inl k) go = let q : Some p.1 ≡ Some y = sym (ap (λ b. cond b (Some p.1) (lookup (eqb x) ps)) k.0) ∙ e in let same : p.1 ≡ y = cc in inl (λ i. (k.1 i, Var (sym same i)))
    by_test (inr k) go = inr (go (sym (ap (λ b. cond b (Some p.1) (lookup (eqb x) ps)) k.0) ∙ e))

-- one more pair known
pub made_known : (given : Pairs) (old new : List (ℕ × Bor Mono)) (x : ℕ) (t : Bor Mono) → new ≡ insert_entry eqb old x t → first_for x (given ++ seen_pairs old) ≡ None → given ++ seen_pairs new ≡ (given ++ seen_pairs old) ++ (x, t.now) ∷ []
made_known given old new x t h none =
    ap (λ ps. given ++ seen_pairs ps) (h ∙ put_new x t old (unseen x old (behind given none))) ∙ ap (λ ps. given ++ ps) (map-append (λ (p : ℕ × Bor Mono). (p.0, p.1.now)) old ((x, t) ∷ []))
    ∙ sym (append_assoc given (seen_pairs old) ((x, t.now) ∷ []))
  where
    behind : (ps : Pairs) → first_for x (ps ++ seen_pairs old) ≡ None → first_for x (seen_pairs old) ≡ None
    behind [] e = e
    behind (p ∷ ps) e = behind ps (none_parts x p (ps ++ seen_pairs old) e).1

-- of pairs with different variables the later ones have no type among the earlier ones
pub distinct_behind : (v : ℕ) (t : Mono) (ps qs : Pairs) → IsDistinct nat_eq (map (λ p. p.0) (ps ++ (v, t) ∷ qs)) → first_for v ps ≡ None
unfolding IsDistinct
distinct_behind v t [] qs d = refl
distinct_behind v t (p ∷ ps) qs d = none_made v p ps (differ (later ps d.0)) (distinct_behind v t ps qs d.1)
  where
    later : (rs : Pairs) → Each (λ z. nat_eq p.0 z ≡ false) (map (λ q. q.0) (rs ++ (v, t) ∷ qs)) → nat_eq p.0 v ≡ false
    later [] h = h.0
    later (r ∷ rs) h = later rs h.1

    differ : nat_eq p.0 v ≡ false → v ≡ p.0 → ⊥
    differ h e = false≢true (sym h ∙ eq-eqb p.0 v (sym e))

pub distinct_front : (ps : Pairs) (i : ℕ) (p : ℕ × Mono) → i < length ps → p ≡ get_or ps i p → IsDistinct nat_eq (map (λ q. q.0) ps) → first_for p.0 (take i ps) ≡ None
distinct_front ps i p within is d =
    distinct_behind p.0 p.1 (take i ps) (drop (suc i) ps) (subst (λ qs. IsDistinct nat_eq (map (λ (q : ℕ × Mono). q.0) qs)) (sym (take-append-drop i ps) ∙ ap (λ qs. take i ps ++ qs) cut) d)
  where
    cut : drop i ps ≡ (p.0, p.1) ∷ drop (suc i) ps
    cut = rw (drop-cons ps i p within) (ap (λ q. q ∷ drop (suc i) ps) (sym is))

-- the last of a stack of pairs, added behind those that are there
pub reversed_more : {X : Type 0} (xs ys : List X) (x : X) → xs ≡ ys ++ x ∷ [] → reverse xs ≡ x ∷ reverse ys
reversed_more xs ys x h = ap reverse h ∙ reverse-append ys (x ∷ [])

pub added_apart : (old done all fresh rest : Pairs) (v : ℕ) (t : Mono) → fresh ≡ rest ++ (v, t) ∷ [] → done ++ reverse fresh ≡ old ++ reverse all → IsDistinct nat_eq (map (λ p. p.0) (old ++ reverse all)) → first_for v done ≡ None
added_apart old done all fresh rest v t h e d =
    distinct_behind v t done (reverse rest) (subst (λ qs. IsDistinct nat_eq (map (λ (q : ℕ × Mono). q.0) qs)) (sym e ∙ ap (λ qs. done ++ qs) (reversed_more fresh rest (v, t) h)) d)

-- the pairs that were found copied, from the last on
dropped_get : {X : Type 0} (xs : List X) (i : ℕ) (x : X) → Some x ≡ slice_get xs i → drop i xs ≡ x ∷ drop (suc i) xs
dropped_get [] i x e = absurd (let k : Some x ≡ None = e in cc)
dropped_get (y ∷ ys) zero x e = let k : y ≡ x = cc in ap (λ z. z ∷ ys) k
dropped_get (y ∷ ys) (suc i) x e = dropped_get ys i x e

pub copied_more : (es : List (ℕ × Bor Mono)) (i n : ℕ) (q : ℕ × Bor Mono) (found more : Pairs) (u : Mono) → n ≡ i + 1 → Some q ≡ slice_get es i → u ≡ q.1.now → more ≡ found ++ (q.0, u) ∷ [] → reverse found ≡ seen_pairs (drop n es)
    → reverse more ≡ seen_pairs (drop i es)
copied_more es i n q found more u next e same is h =
    let after : n ≡ suc i = omega arith in
    reversed_more more found (q.0, u) is ∙ (λ j. (q.0, same j) ∷ (h ∙ ap (λ m. seen_pairs (drop m es)) after) j) ∙ sym (ap seen_pairs (dropped_get es i q e))
