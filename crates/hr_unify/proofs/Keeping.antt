-- What is kept from step to step.
use Rattle.std.proofs.Common.{◌≡◌, ◌≢◌, ◌⊎◌, ◌+◌, ◌<◌, ℕ, suc, true, false, cond, eqb, Bor, List, [], ◌∷◌, ◌++◌, map, length, get_or, Option, Some, None, Result, Ok, Err, IfOk, refl, sym, ap, ◌∙◌, subst, inl, inr, arith, append-nil, append_assoc, drop, add-one, drop-cons}
use Rattle.std.specs.List.{AllByRecursion as Each, concat}
use Rattle.hr_base.specs.declared.bind.Entity.{Entity}
use Rattle.hr_type.specs.declared.mono.Mono.{Mono}
use Rattle.hr_type.specs.declared.mono.Mono.TheVariants.{Var, Con, Fun}
use Rattle.hr_type.specs.Types.{replaced, variables, first_for}
use Rattle.hr_type.proofs.Terms.{value-con, value-fun}
use Rattle.std.proofs.lemmas.Bool.Decides.{eqb_tells}
use Rattle.hr_unify.specs.Tasks.{Task, Equation, Settled, marks, plain, put}
use Rattle.hr_unify.specs.declared.solve.UnifyError.{UnifyError}
use Rattle.hr_unify.specs.declared.solve.UnifyError.TheVariants.{Mismatch, Occurs, Memory}
use Rattle.hr_unify.specs.Unifiers.{IsOneOf, Pairs, Equations, Unifies, halves, IsGood}
use Rattle.hr_unify.specs.Unifiers.{names}
use Rattle.hr_unify.specs.Refusals.{Related, chained, turned, argument, domain, range, Clashes, head_of, no_head, arrow_head, head}
use Rattle.hr_unify.specs.Weights.{work_load}
use Rattle.hr_unify.specs.Working.{IsKnown, Follows, PairFollows, Equals, Waits, Keeps, Opens, paired, Goes, Splits, IsMismatch}
use Rattle.hr_unify.proofs.Lists.{each_of, each_left, each_right, each_both, first_one}
use Rattle.hr_unify.proofs.Values.{variables_con, variables_fun}
use Rattle.hr_unify.proofs.Finding.{half_of}
use Rattle.hr_unify.proofs.Loads.{lighter_dropped, lighter_opened, lighter_replaced, lighter_arguments, lighter_functions, lighter_settled, turned_load}
use Rattle.hr_unify.proofs.Relates.{head_con, head_fun}

By : Type 0
By = ℕ → Mono

waits_change : (S T : Pairs) (A old new : List Task) → ((by : ℕ → Mono) → Unifies by (halves T) → Each (Equals by) new → Unifies by (halves S) × Each (Equals by) old) → Waits S (A ++ old) → Waits T new → Waits T (A ++ new)
waits_change S T [] old new implied w v = v
waits_change S T (Equation l r ∷ A) old new implied w v = waits_change S T A old new implied w v
waits_change S T (Settled x r ∷ A) old new implied w v =
    (λ by u e. let f = implied by u (each_right (Equals by) A new e) in w.0 by f.0 (each_both (Equals by) A old (each_left (Equals by) A new e) f.1), waits_change S T A old new implied w.1 v)

-- work on top may be changed for work that implies it
pub keeps_change : (es : Equations) (S T : Pairs) (A old new : List Task) (D E : Pairs) → Keeps es S (A ++ old) D
    → ((by : ℕ → Mono) → Unifies by (halves T) → Each (Equals by) new → Unifies by (halves S) × Each (Equals by) old)
    → Each (PairFollows es) T → Each (Follows es) new → Waits T new → ((by : ℕ → Mono) → Unifies by (halves T) → Unifies by (halves E)) → Keeps es T (A ++ new) E
keeps_change es S T A old new D E k implied pairs follows waits repeats = record {
  pairs_follow = pairs;
  work_follows = each_both (Follows es) A new (each_left (Follows es) A old k.work_follows) follows;
  sound = λ by u e. let f = implied by u (each_right (Equals by) A new e) in k.sound by f.0 (each_both (Equals by) A old (each_left (Equals by) A new e) f.1);
  waits = waits_change S T A old new implied k.waits waits;
  repeats = repeats;
}

waits_last : (S : Pairs) (A : List Task) (x : ℕ) (o : Mono) → Waits S (A ++ Settled x o ∷ []) → (by : ℕ → Mono) → Unifies by (halves S) → replaced by (Var x) ≡ replaced by o
waits_last S [] x o w = λ by u. w.0 by u tt
waits_last S (Equation l r ∷ A) x o w = waits_last S A x o w
waits_last S (Settled y q ∷ A) x o w = waits_last S A x o w.1

unifies_split : (by : ℕ → Mono) (D : Pairs) (x : ℕ) (o : Mono) → Unifies by (halves (D ++ (x, o) ∷ [])) → Unifies by (halves D) × (replaced by (Var x) ≡ replaced by o)
unifies_split by [] x o u = (tt, u.0)
unifies_split by (p ∷ D) x o u = let r = unifies_split by D x o u.1 in ((u.0, r.0), r.1)

known_fun : (es : Equations) (a b : Mono) → IsKnown es (Fun a b) → IsKnown es a × IsKnown es b
known_fun es a b h =
    let k = subst (Each (λ n. IsOneOf n (names es))) (variables_fun a b) h in
    (each_left (λ n. IsOneOf n (names es)) (variables a) (variables b) k, each_right (λ n. IsOneOf n (names es)) (variables a) (variables b) k)

known_all : (es : Equations) (ts : List Mono) → Each (λ n. IsOneOf n (names es)) (concat (map variables ts)) → Each (IsKnown es) ts
known_all es [] h = tt
known_all es (t ∷ ts) h =
    (each_left (λ n. IsOneOf n (names es)) (variables t) (concat (map variables ts)) h, known_all es ts (each_right (λ n. IsOneOf n (names es)) (variables t) (concat (map variables ts)) h))

known_con : (es : Equations) (e : Entity) (ts : List Mono) → IsKnown es (Con e ts) → Each (IsKnown es) ts
known_con es e ts h = known_all es ts (subst (Each (λ n. IsOneOf n (names es))) (variables_con e ts) h)

-- arguments in turn
paired_equal : (by : ℕ → Mono) (ts us : List Mono) → length ts ≡ length us → Each (Equals by) (paired ts us) → map (replaced by) ts ≡ map (replaced by) us
paired_equal by [] [] long h = refl
paired_equal by [] (u ∷ us) long h = let z : 0 ≡ suc (length us) = long in absurd (omega arith)
paired_equal by (t ∷ ts) [] long h = let z : suc (length ts) ≡ 0 = long in absurd (omega arith)
paired_equal by (t ∷ ts) (u ∷ us) long h =
    let shorter : length ts ≡ length us = (let z : suc (length ts) ≡ suc (length us) = long in omega arith) in
    let rest = paired_equal by ts us shorter (each_left (Equals by) (paired ts us) (Equation t u ∷ []) h) in
    let here = (each_right (Equals by) (paired ts us) (Equation t u ∷ []) h).0 in
    λ i. here i ∷ rest i

paired_follow : (es : Equations) (ts us : List Mono) → length ts ≡ length us → ((i : ℕ) (d g : Mono) → i < length ts → Related es (get_or ts i d) (get_or us i g)) → Each (IsKnown es) ts → Each (IsKnown es) us
    → Each (Follows es) (paired ts us)
paired_follow es [] us long related k l = tt
paired_follow es (t ∷ ts) [] long related k l = tt
paired_follow es (t ∷ ts) (u ∷ us) long related k l =
    let shorter : length ts ≡ length us = (let z : suc (length ts) ≡ suc (length us) = long in omega arith) in
    let here : 0 < suc (length ts) = omega arith in
    each_both (Follows es) (paired ts us) (Equation t u ∷ [])
    (paired_follow es ts us shorter (λ i d g within. related (suc i) d g (let deep : suc i < suc (length ts) = omega arith in deep)) k.1 l.1)
    ((related 0 t u here, k.0, l.0), tt)

paired_waits : (S : Pairs) (ts us : List Mono) → Waits S (paired ts us)
paired_waits S [] us = tt
paired_waits S (t ∷ ts) [] = tt
paired_waits S (t ∷ ts) (u ∷ us) =
    waits_change S S (paired ts us) [] (Equation t u ∷ []) (λ by v e. (v, tt)) (subst (Waits S) (sym (append-nil (paired ts us))) (paired_waits S ts us)) tt

module _ (es : Equations) (S : Pairs) (A : List Task) (D : Pairs) where
  -- the same with the pairs and what is settled as they are
  keeps_top : (old new : List Task) → Keeps es S (A ++ old) D → ((by : ℕ → Mono) → Unifies by (halves S) → Each (Equals by) new → Each (Equals by) old) → Each (Follows es) new → Waits S new → Keeps es S (A ++ new) D
  keeps_top old new k implied follows waits = keeps_change es S S A old new D D k (λ by u e. (u, implied by u e)) k.pairs_follow follows waits k.repeats

  top_follows : (item : Task) → Keeps es S (A ++ item ∷ []) D → Follows es item
  top_follows item k = (each_right (Follows es) A (item ∷ []) k.work_follows).0

  pub keeps_none : Keeps es S (A ++ []) D → Keeps es S A D
  keeps_none k = subst (λ w. Keeps es S w D) (append-nil A) k

  -- an equation turned round
  pub keeps_turned : (l r : Mono) → Keeps es S (A ++ Equation l r ∷ []) D → Keeps es S (A ++ Equation r l ∷ []) D
  keeps_turned l r k =
      let f = top_follows (Equation l r) k in
      keeps_top (Equation l r ∷ []) (Equation r l ∷ []) k (λ by u e. (sym e.0, tt)) ((turned l r f.0, f.2, f.1), tt) tt

  -- an equation of a variable with itself, and one that was settled, need no more work
  pub keeps_same : (x : ℕ) (o : Mono) → o ≡ Var x → Keeps es S (A ++ Equation (Var x) o ∷ []) D → Keeps es S A D
  keeps_same x o is k = keeps_none (keeps_top (Equation (Var x) o ∷ []) [] k (λ by u e. (ap (replaced by) (sym is), tt)) tt tt)

  pub keeps_settled : (x : ℕ) (o : Mono) → IsOneOf {X = ℕ × Mono} (x, o) D → Keeps es S (A ++ Equation (Var x) o ∷ []) D → Keeps es S A D
  keeps_settled x o one k =
      keeps_none (keeps_top (Equation (Var x) o ∷ []) [] k
      (λ by u e. (each_of (λ q. replaced by q.0 ≡ replaced by q.1) (halves D) (Var x, o) (k.repeats by u) (half_of x o D one), tt)) tt tt)

  pair_equal : (by : ℕ → Mono) (x : ℕ) (t : Mono) → first_for x S ≡ Some t → Unifies by (halves S) → replaced by (Var x) ≡ replaced by t
  pair_equal by x t found u = each_of (λ q. replaced by q.0 ≡ replaced by q.1) (halves S) (Var x, t) u (half_of x t S (first_one x t S found))

  -- the type of a variable in its place
  pub keeps_opened : (x : ℕ) (t o : Mono) → first_for x S ≡ Some t → Keeps es S (A ++ Equation (Var x) o ∷ []) D → Keeps es S (A ++ Settled x o ∷ Equation t o ∷ []) D
  keeps_opened x t o found k =
      let f = top_follows (Equation (Var x) o) k in
      let p : PairFollows es (x, t) = each_of (PairFollows es) S (x, t) k.pairs_follow (first_one x t S found) in
      keeps_top (Equation (Var x) o ∷ []) (Settled x o ∷ Equation t o ∷ []) k (λ by u e. (pair_equal by x t found u ∙ e.1.0, tt))
      (tt, ((chained t (Var x) o (turned (Var x) t p.0) f.0, p.1, f.2), tt)) ((λ by u e. pair_equal by x t found u ∙ e.0), tt)

  -- the same without settling
  pub keeps_replaced : (x : ℕ) (t o : Mono) → first_for x S ≡ Some t → Keeps es S (A ++ Equation (Var x) o ∷ []) D → Keeps es S (A ++ Equation t o ∷ []) D
  keeps_replaced x t o found k =
      let f = top_follows (Equation (Var x) o) k in
      let p : PairFollows es (x, t) = each_of (PairFollows es) S (x, t) k.pairs_follow (first_one x t S found) in
      keeps_top (Equation (Var x) o ∷ []) (Equation t o ∷ []) k (λ by u e. (pair_equal by x t found u ∙ e.0, tt)) ((chained t (Var x) o (turned (Var x) t p.0) f.0, p.1, f.2), tt) tt

  -- what waited is settled
  pub keeps_marked : (x : ℕ) (o : Mono) (E : Pairs) → ((by : ℕ → Mono) → Unifies by (halves D) → replaced by (Var x) ≡ replaced by o → Unifies by (halves E)) → Keeps es S (A ++ Settled x o ∷ []) D → Keeps es S A E
  keeps_marked x o E settles k =
      let waited = waits_last S A x o k.waits in
      none_left (keeps_change es S S A (Settled x o ∷ []) [] D E k (λ by u e. (u, (tt, tt))) k.pairs_follow tt tt (λ by u. settles by (k.repeats by u) (waited by u)))
    where
      none_left : Keeps es S (A ++ []) E → Keeps es S A E
      none_left h = subst (λ w. Keeps es S w E) (append-nil A) h

  pub keeps_functions : (a b c d : Mono) → Keeps es S (A ++ Equation (Fun a b) (Fun c d) ∷ []) D → Keeps es S (A ++ Equation b d ∷ Equation a c ∷ []) D
  keeps_functions a b c d k =
      let f = top_follows (Equation (Fun a b) (Fun c d)) k in
      let lefts = known_fun es a b f.1 in
      let rights = known_fun es c d f.2 in
      keeps_top (Equation (Fun a b) (Fun c d) ∷ []) (Equation b d ∷ Equation a c ∷ []) k
      (λ by u e. (value-fun Mono Con Fun by a b ∙ (λ i. Fun (e.1.0 i) (e.0 i)) ∙ sym (value-fun Mono Con Fun by c d), tt))
      ((range a b c d f.0, lefts.1, rights.1), ((domain a b c d f.0, lefts.0, rights.0), tt)) tt

  pub keeps_arguments : (e : Entity) (ts us : List Mono) → length ts ≡ length us → Keeps es S (A ++ Equation (Con e ts) (Con e us) ∷ []) D → Keeps es S (A ++ paired ts us) D
  keeps_arguments e ts us long k =
      let f = top_follows (Equation (Con e ts) (Con e us)) k in
      keeps_top (Equation (Con e ts) (Con e us) ∷ []) (paired ts us) k
      (λ by u h. (value-con Mono Con Fun by e ts ∙ ap (Con e) (paired_equal by ts us long h) ∙ sym (value-con Mono Con Fun by e us), tt))
      (paired_follow es ts us long (λ i d g within. argument e ts us i d g long within f.0) (known_con es e ts f.1) (known_con es e us f.2)) (paired_waits S ts us)

  pub keeps_clash : (l r : Mono) → (head_of l ≡ no_head → ⊥) → (head_of r ≡ no_head → ⊥) → (head_of l ≡ head_of r → ⊥) → Keeps es S (A ++ Equation l r ∷ []) D → Clashes es l r
  keeps_clash l r p q differ k = record { related = (top_follows (Equation l r) k).0; left_applied = p; right_applied = q; differ = differ }

  pub keeps_bound : (x : ℕ) (t : Mono) → Keeps es S (A ++ Equation (Var x) t ∷ []) D → Keeps es (S ++ (x, t) ∷ []) A D
  keeps_bound x t k =
      let f = top_follows (Equation (Var x) t) k in
      subst (λ w. Keeps es (S ++ (x, t) ∷ []) w D) (append-nil A)
      (keeps_change es S (S ++ (x, t) ∷ []) A (Equation (Var x) t ∷ []) [] D D k
      (λ by u e. let v = unifies_split by S x t u in (v.0, (v.1, tt)))
      (each_both (PairFollows es) S ((x, t) ∷ []) k.pairs_follow ((f.0, f.2), tt)) tt tt (λ by u. k.repeats by (unifies_split by S x t u).0))

-- one more pair of arguments, before the others
pub paired_pushed : (ts us : List Mono) (i n : ℕ) (t u : Mono) → n ≡ i + 1 → i < length ts → i < length us → t ≡ get_or ts i t → u ≡ get_or us i u → (old work pushed : List Task)
    → work ≡ old ++ paired (drop n ts) (drop n us) → pushed ≡ work ++ Equation t u ∷ [] → pushed ≡ old ++ paired (drop i ts) (drop i us)
paired_pushed ts us i n t u e within beside is_t is_u old work pushed h k =
    k ∙ ap (λ w. w ++ Equation t u ∷ []) (h ∙ ap (λ m. old ++ paired (drop m ts) (drop m us)) e) ∙ append_assoc old (paired (drop (i + 1) ts) (drop (i + 1) us)) (Equation t u ∷ [])
    ∙ ap (λ w. old ++ w) (sym (λ j. paired (here ts t within is_t j) (here us u beside is_u j)))
  where
    here : (ts : List Mono) (t : Mono) → i < length ts → t ≡ get_or ts i t → drop i ts ≡ t ∷ drop (i + 1) ts
    here ts t inside is = rw (add-one, drop-cons ts i t) (ap (λ x. x ∷ drop (suc i) ts) (sym is))

-- the type of a variable in its place, or its equation dropped
module _ (S : Pairs) (x : ℕ) (t o : Mono) (A new : List Task) (D : Pairs) (found : first_for x S ≡ Some t) where
  pub opens_goes : Opens D x t o A new → (es : Equations) → Keeps es S (A ++ Equation (Var x) o ∷ []) D → Keeps es S new D
  opens_goes (inl h) es k = subst (λ w. Keeps es S w D) (sym h.1) (keeps_settled es S A D x o h.0 k)
  opens_goes (inr (inl h)) es k = subst (λ w. Keeps es S w D) (sym h) (keeps_opened es S A D x t o found k)
  opens_goes (inr (inr h)) es k = subst (λ w. Keeps es S w D) (sym h) (keeps_replaced es S A D x t o found k)

  pub opens_lighter : IsGood S → Opens D x t o A new → work_load S new < work_load S (A ++ Equation (Var x) o ∷ [])
  opens_lighter good (inl h) = subst (λ w. work_load S w < work_load S (A ++ Equation (Var x) o ∷ [])) (sym h.1) (lighter_dropped S good A x o)
  opens_lighter good (inr (inl h)) = subst (λ w. work_load S w < work_load S (A ++ Equation (Var x) o ∷ [])) (sym h) (lighter_opened S good A x t o found)
  opens_lighter good (inr (inr h)) = subst (λ w. work_load S w < work_load S (A ++ Equation (Var x) o ∷ [])) (sym h) (lighter_replaced S good A x t o found)

-- an equation by the types that the code finds
pub keeps_named : (es : Equations) (S : Pairs) (A : List Task) (D : Pairs) (l m r n : Mono) → l ≡ m → r ≡ n → Keeps es S (A ++ Equation l r ∷ []) D → Keeps es S (A ++ Equation m n ∷ []) D
keeps_named es S A D l m r n e f k = subst (λ (item : Task). Keeps es S (A ++ item ∷ []) D) (λ i. Equation (e i) (f i)) k

pub load_named : (S : Pairs) (A : List Task) (l m r n : Mono) → l ≡ m → r ≡ n → work_load S (A ++ Equation m n ∷ []) ≡ work_load S (A ++ Equation l r ∷ [])
load_named S A l m r n e f = ap (λ (item : Task). work_load S (A ++ item ∷ [])) (λ i. Equation (sym e i) (sym f i))

con_no_head : (e : Entity) (ts : List Mono) → head_of (Con e ts) ≡ no_head → ⊥
con_no_head e ts h = let k : head e (length ts) ≡ no_head = sym (head_con e ts) ∙ h in cc

fun_no_head : (a b : Mono) → head_of (Fun a b) ≡ no_head → ⊥
fun_no_head a b h = let k : arrow_head ≡ no_head = sym (head_fun a b) ∙ h in cc

pub clash_con_fun : (es : Equations) (S : Pairs) (A : List Task) (D : Pairs) (e : Entity) (ts : List Mono) (a b : Mono) → Keeps es S (A ++ Equation (Con e ts) (Fun a b) ∷ []) D → Clashes es (Con e ts) (Fun a b)
clash_con_fun es S A D e ts a b k =
    keeps_clash es S A D (Con e ts) (Fun a b) (con_no_head e ts) (fun_no_head a b) (λ h. let q : head e (length ts) ≡ arrow_head = sym (head_con e ts) ∙ h ∙ head_fun a b in cc) k

pub clash_fun_con : (es : Equations) (S : Pairs) (A : List Task) (D : Pairs) (e : Entity) (ts : List Mono) (a b : Mono) → Keeps es S (A ++ Equation (Fun a b) (Con e ts) ∷ []) D → Clashes es (Fun a b) (Con e ts)
clash_fun_con es S A D e ts a b k =
    keeps_clash es S A D (Fun a b) (Con e ts) (fun_no_head a b) (con_no_head e ts) (λ h. let q : head e (length ts) ≡ arrow_head = sym (head_con e ts) ∙ sym h ∙ head_fun a b in cc) k

pub splits_goes : (S : Pairs) (A new : List Task) (D : Pairs) (e f : Entity) (ts us : List Mono) (r : Result (Option (ℕ × Mono)) UnifyError) → Splits e ts f us A new r
    → (es : Equations) → Keeps es S (A ++ Equation (Con e ts) (Con f us) ∷ []) D → Goes es S new D r
splits_goes S A new D e f ts us (Ok None) h es k =
    subst (λ w. Keeps es S w D) (sym h.2) (keeps_arguments es S A D e ts us h.1 (subst (λ g. Keeps es S (A ++ Equation (Con e ts) (Con g us) ∷ []) D) (sym h.0) k))
splits_goes S A new D e f ts us (Ok (Some b)) h es k = absurd h
splits_goes S A new D e f ts us (Err (Mismatch l r)) h es k =
    let shown = keeps_clash es S A D (Con e ts) (Con f us) (con_no_head e ts) (con_no_head f us) (λ q. h.2 (sym (head_con e ts) ∙ q ∙ head_con f us)) k in
    subst (λ v. Clashes es v r) (sym h.0) (subst (λ v. Clashes es (Con e ts) v) (sym h.1) shown)
splits_goes S A new D e f ts us (Err (Occurs x t)) h es k = absurd h
splits_goes S A new D e f ts us (Err (Memory m)) h es k = tt

pub splits_lighter : (S : Pairs) (A new : List Task) (e f : Entity) (ts us : List Mono) (r : Result (Option (ℕ × Bor Mono)) UnifyError) → Splits e ts f us A new (plain r)
    → IfOk r (λ b. b ≡ None → work_load S new < work_load S (A ++ Equation (Con e ts) (Con f us) ∷ []))
splits_lighter S A new e f ts us (Ok None) h = λ _. subst (λ w. work_load S w < work_load S (A ++ Equation (Con e ts) (Con f us) ∷ [])) (sym h.2) (lighter_arguments S A e f ts us)
splits_lighter S A new e f ts us (Ok (Some b)) h = absurd h
splits_lighter S A new e f ts us (Err m) h = tt

pub lighter_than : {X E : Type 0} (r : Result (Option X) E) (new m n : ℕ) → m ≡ n → IfOk r (λ b. b ≡ None → new < m) → IfOk r (λ b. b ≡ None → new < n)
lighter_than r new m n e h = subst (λ k. IfOk r (λ b. b ≡ None → new < k)) e h

pub functions_lighter : (S : Pairs) (A new : List Task) (l r a b c d : Mono) → l ≡ Fun a b → r ≡ Fun c d → new ≡ A ++ Equation b d ∷ Equation a c ∷ [] → work_load S new < work_load S (A ++ Equation l r ∷ [])
functions_lighter S A new l r a b c d e f is =
    let less = lighter_functions S A a b c d in
    let lighter : work_load S new ≡ work_load S (A ++ Equation b d ∷ Equation a c ∷ []) = ap (work_load S) is in
    let same : work_load S (A ++ Equation (Fun a b) (Fun c d) ∷ []) ≡ work_load S (A ++ Equation l r ∷ []) = load_named S A l (Fun a b) r (Fun c d) e f in
    below _ _ _ _ lighter less same
  where
    below : (m n p q : ℕ) → m ≡ n → n < p → p ≡ q → m < q
    below m n p q h k j = omega arith

-- what waited is settled, in the step that finds it so
unifies_put : (by : ℕ → Mono) (x y : ℕ) (E : List (ℕ × ℕ)) → Unifies by (halves (marks E)) → replaced by (Var x) ≡ replaced by (Var y) → Unifies by (halves (marks (put x y E)))
unifies_put by x y [] u e = (e, tt)
unifies_put by x y (p ∷ E) u e = by_test (eqb_tells x p.0) (unifies_put by x y E u.1 e)
  where
    by_test : ((eqb x p.0 ≡ true) × (x ≡ p.0)) ⊎ ((eqb x p.0 ≡ false) × (x ≢ p.0)) → Unifies by (halves (marks (put x y E))) → Unifies by (halves (marks (put x y (p ∷ E))))
    by_test (inl k) go =
        subst (λ b. Unifies by (halves (marks (cond b ((p.0, y) ∷ E) (p ∷ put x y E))))) (sym k.0) (subst (λ n. replaced by (Var n) ≡ replaced by (Var y)) k.1 e, u.1)
    by_test (inr k) go = subst (λ b. Unifies by (halves (marks (cond b ((p.0, y) ∷ E) (p ∷ put x y E))))) (sym k.0) (u.0, go)

pub settles_goes : (es : Equations) (S : Pairs) (A : List Task) (D new : List (ℕ × ℕ)) (item : Task) (x y : ℕ) → item ≡ Settled x (Var y) → new ≡ put x y D → Keeps es S (A ++ item ∷ []) (marks D) → Keeps es S A (marks new)
settles_goes es S A D new item x y e is k =
    subst (λ E. Keeps es S A (marks E)) (sym is)
    (keeps_marked es S A (marks D) x (Var y) (marks (put x y D)) (λ by u h. unifies_put by x y D u h) (subst (λ w. Keeps es S (A ++ w ∷ []) (marks D)) e k))

pub settles_lighter : (S : Pairs) (A : List Task) (item : Task) (x : ℕ) (o : Mono) → item ≡ Settled x o → work_load S A < work_load S (A ++ item ∷ [])
settles_lighter S A item x o e = subst (λ w. work_load S A < work_load S (A ++ w ∷ [])) (sym e) (lighter_settled S A x o)

-- types that clash, as a refusal shows them
pub mismatch_goes : (es : Equations) (S : Pairs) (A : List Task) (D : Pairs) (l r : Mono) (e : UnifyError) → IsMismatch l r e → Clashes es l r → Goes es S A D (Err e)
mismatch_goes es S A D l r (Mismatch m n) h k = subst (λ v. Clashes es v n) (sym h.0) (subst (λ v. Clashes es l v) (sym h.1) k)
mismatch_goes es S A D l r (Occurs x t) h k = absurd h
mismatch_goes es S A D l r (Memory m) h k = tt

pub mismatch_splits : (e f : Entity) (ts us : List Mono) (old new : List Task) (l r : Mono) (error : UnifyError) → IsMismatch l r error → l ≡ Con e ts → r ≡ Con f us → (head e (length ts) ≡ head f (length us) → ⊥)
    → Splits e ts f us old new (Err error)
mismatch_splits e f ts us old new l r (Mismatch m n) h p q differ = (h.0 ∙ p, h.1 ∙ q, differ)
mismatch_splits e f ts us old new l r (Occurs x t) h p q differ = absurd h
mismatch_splits e f ts us old new l r (Memory m) h p q differ = tt

pub named_clash : (es : Equations) (S : Pairs) (A : List Task) (D : Pairs) (l r m n : Mono) → l ≡ m → r ≡ n → Clashes es m n → Clashes es l r
named_clash es S A D l r m n p q h = subst (λ v. Clashes es v r) (sym p) (subst (λ v. Clashes es m v) (sym q) h)

-- of two variables without a type either may be bound
pub keeps_as : (es : Equations) (S : Pairs) (A : List Task) (D : Pairs) (x y : ℕ) (o this : Mono) → o ≡ Var y → this ≡ Var x → Keeps es S (A ++ Equation (Var x) o ∷ []) D → Keeps es S (A ++ Equation (Var y) this ∷ []) D
keeps_as es S A D x y o this h k kept =
    subst (λ v. Keeps es S (A ++ Equation (Var y) v ∷ []) D) (sym k) (keeps_turned es S A D (Var x) (Var y) (subst (λ v. Keeps es S (A ++ Equation (Var x) v ∷ []) D) h kept))

pub keeps_item : (es : Equations) (S : Pairs) (A : List Task) (D : Pairs) (i j : Task) → i ≡ j → Keeps es S (A ++ i ∷ []) D → Keeps es S (A ++ j ∷ []) D
keeps_item es S A D i j e k = subst (λ (t : Task). Keeps es S (A ++ t ∷ []) D) e k

pub lighter_item : {X E : Type 0} (r : Result (Option X) E) (S : Pairs) (A new : List Task) (i j : Task) → i ≡ j
    → IfOk r (λ b. b ≡ None → work_load S new < work_load S (A ++ j ∷ [])) → IfOk r (λ b. b ≡ None → work_load S new < work_load S (A ++ i ∷ []))
lighter_item r S A new i j e h = lighter_than r (work_load S new) _ _ (ap (λ (t : Task). work_load S (A ++ t ∷ [])) (sym e)) h

pub load_as : (S : Pairs) (A : List Task) (x y : ℕ) (o this : Mono) → o ≡ Var y → this ≡ Var x → work_load S (A ++ Equation (Var y) this ∷ []) ≡ work_load S (A ++ Equation (Var x) o ∷ [])
load_as S A x y o this h k =
    ap (λ (v : Mono). work_load S (A ++ Equation (Var y) v ∷ [])) k ∙ turned_load S A (Var y) (Var x) ∙ sym (ap (λ (v : Mono). work_load S (A ++ Equation (Var x) v ∷ [])) h)
