-- From the problem to its solution: what is kept at the start, at each binding and at each answer.
use Rattle.std.proofs.Common.{◌≡◌, ◌≢◌, ◌⊎◌, ◌<◌, ◌≤◌, ◌+◌, ℕ, Bool, true, false, cond, eqb, List, [], ◌∷◌, ◌++◌, length, get_or, Option, Some, None, is_some, Result, Ok, Err, refl, sym, ap, ◌∙◌, subst, inl, inr, arith}
use Rattle.std.specs.List.{AllByRecursion as Each}
use Rattle.std.proofs.lemmas.Bool.{eq-eqb}
use Rattle.std.proofs.lemmas.Bool.Decides.{eqb_tells}
use Rattle.hr_type.specs.declared.mono.Mono.{Mono}
use Rattle.hr_type.specs.declared.mono.Mono.TheVariants.{Var, Con, Fun}
use Rattle.hr_type.specs.Types.{replaced, variables, first_for}
use Rattle.hr_type.proofs.Terms.{every_type, var-var}
use Rattle.hr_unify.specs.Tasks.{Task, Equation}
use Rattle.hr_unify.specs.declared.solve.UnifyError.{UnifyError}
use Rattle.hr_unify.specs.declared.solve.UnifyError.TheVariants.{Mismatch, Occurs, Memory}
use Rattle.hr_unify.specs.Unifiers.{IsOneOf, Pairs, Equations, halves, problem, Unifies, HasUnifiersOf, SpeaksOf, IsGood, Solved, Solves}
use Rattle.hr_unify.specs.Refusals.{Related, given, same, turned, chained, argument, domain, range, replaced_argument, from, to, head_of, no_head, arrow_head, head, HoldsItself, Shows}
use Rattle.hr_unify.specs.Unifiers.{names}
use Rattle.hr_unify.specs.Working.{IsKnown, Follows, PairFollows, Keeps, Avoids, Binds, Goes, MayBind}
use Rattle.hr_unify.proofs.Lists.{each_of, each_from, each_map, each_weaker, each_right, one_left, one_right}
use Rattle.hr_unify.proofs.Values.{variables_var}
use Rattle.hr_unify.proofs.Finding.{half_of, avoids_free}
use Rattle.hr_unify.proofs.Keeping.{keeps_bound}
use Rattle.hr_unify.proofs.Binding.{good_bound}
use Rattle.hr_unify.proofs.Meaning.{solves}
use Rattle.hr_unify.proofs.Relates.{related_equal, clash_refuses, occurs_refuses, head_con, head_fun}

-- the variables of both sides of an equation are among those of the equations
known_given : (es : Equations) (l r : Mono) → IsOneOf {X = Mono × Mono} (l, r) es → IsKnown es l × IsKnown es r
known_given [] l r one = absurd one
known_given (e ∷ es) l r (inl q) = (
  each_from (λ n. IsOneOf n (names (e ∷ es))) (variables l) (λ n one. one_left n (variables e.0) (variables e.1 ++ names es) (subst (λ t. IsOneOf n (variables t)) (ap (λ (p : Mono × Mono). p.0) q) one)),
  each_from (λ n. IsOneOf n (names (e ∷ es))) (variables r) (λ n one. one_right n (variables e.0) (variables e.1 ++ names es)
      (one_left n (variables e.1) (names es) (subst (λ t. IsOneOf n (variables t)) (ap (λ (p : Mono × Mono). p.1) q) one))),
)
known_given (e ∷ es) l r (inr one) = (further l (known_given es l r one).0, further r (known_given es l r one).1)
  where
    further : (t : Mono) → IsKnown es t → IsKnown (e ∷ es) t
    further t h =
        each_from (λ n. IsOneOf n (names (e ∷ es))) (variables t)
        (λ n k. one_right n (variables e.0) (variables e.1 ++ names es) (one_right n (variables e.1) (names es) (each_of (λ m. IsOneOf m (names es)) (variables t) n h k)))

module _ (pairs : Pairs) (left right : Mono) where
  pub keeps_start : Keeps (problem pairs left right) pairs (Equation left right ∷ []) []
  keeps_start = record {
    pairs_follow = each_from (PairFollows (problem pairs left right)) pairs
        (λ p one. (given (Var p.0) p.1 (inr (half_of p.0 p.1 pairs one)), (known_given (problem pairs left right) (Var p.0) p.1 (inr (half_of p.0 p.1 pairs one))).1));
    work_follows =
        ((given left right (inl refl), (known_given (problem pairs left right) left right (inl refl)).0, (known_given (problem pairs left right) left right (inl refl)).1), tt);
    sound = λ by u e. (e.0, u);
    waits = tt;
    repeats = λ by u. tt;
  }

-- how many of some variables have no pair
pub unbound : Pairs → List ℕ → ℕ
unbound ps [] = 0
unbound ps (n ∷ ns) = cond (is_some (first_for n ps)) 0 1 + unbound ps ns

first_for_at : (n : ℕ) (p : ℕ × Mono) (ps : Pairs) (b : Bool) → eqb p.0 n ≡ b → first_for n (p ∷ ps) ≡ cond b (Some p.1) (first_for n ps)
first_for_at n p ps b e = ap (λ v. cond v (Some p.1) (first_for n ps)) e

first_push_old : (n : ℕ) (u : Mono) (ps : Pairs) (q : ℕ × Mono) → first_for n ps ≡ Some u → first_for n (ps ++ q ∷ []) ≡ Some u
first_push_old n u [] q e = absurd (cc)
first_push_old n u (p ∷ ps) q e = by_test (eqb_tells p.0 n) (λ k. first_push_old n u ps q k)
  where
    by_test : ((eqb p.0 n ≡ true) × (p.0 ≡ n)) ⊎ ((eqb p.0 n ≡ false) × (p.0 ≢ n)) → (first_for n ps ≡ Some u → first_for n (ps ++ q ∷ []) ≡ Some u) → first_for n (p ∷ (ps ++ q ∷ [])) ≡ Some u
    by_test (inl y) go = first_for_at n p (ps ++ q ∷ []) true y.0 ∙ sym (first_for_at n p ps true y.0) ∙ e
    by_test (inr y) go = first_for_at n p (ps ++ q ∷ []) false y.0 ∙ go (sym (first_for_at n p ps false y.0) ∙ e)

first_push_new : (x : ℕ) (t : Mono) (ps : Pairs) → is_some (first_for x (ps ++ (x, t) ∷ [])) ≡ true
first_push_new x t [] = ap is_some (first_for_at x (x, t) [] true (eq-eqb x x refl))
first_push_new x t (p ∷ ps) = by_test (eqb_tells p.0 x) (first_push_new x t ps)
  where
    by_test : ((eqb p.0 x ≡ true) × (p.0 ≡ x)) ⊎ ((eqb p.0 x ≡ false) × (p.0 ≢ x)) → is_some (first_for x (ps ++ (x, t) ∷ [])) ≡ true → is_some (first_for x (p ∷ (ps ++ (x, t) ∷ []))) ≡ true
    by_test (inl y) go = ap is_some (first_for_at x p (ps ++ (x, t) ∷ []) true y.0)
    by_test (inr y) go = ap is_some (first_for_at x p (ps ++ (x, t) ∷ []) false y.0) ∙ go

one_count : Pairs → ℕ → ℕ
one_count ps n = cond (is_some (first_for n ps)) 0 1

count_push : (ps : Pairs) (q : ℕ × Mono) (n : ℕ) → one_count (ps ++ q ∷ []) n ≤ one_count ps n
unfolding one_count
count_push ps q n = by_first (first_for n ps) refl
  where
    small : (b : Bool) → cond b 0 1 ≤ 1
    small true = omega arith
    small false = omega arith

    by_first : (o : Option Mono) → first_for n ps ≡ o → cond (is_some (first_for n (ps ++ q ∷ []))) 0 1 ≤ cond (is_some (first_for n ps)) 0 1
    by_first None e = let k : ◌≡◌ {A = ℕ} (cond (is_some (first_for n ps)) 0 1) 1 = ap (λ (o : Option Mono). cond {A = ℕ} (is_some o) 0 1) e in let l = small (is_some (first_for n (ps ++ q ∷ []))) in omega arith
    by_first (Some u) e = let k : ◌≡◌ {A = ℕ} (cond (is_some (first_for n (ps ++ q ∷ []))) 0 1) 0 = ap (λ (o : Option Mono). cond {A = ℕ} (is_some o) 0 1) (first_push_old n u ps q e) in omega arith

unbound_push : (ps : Pairs) (q : ℕ × Mono) (ns : List ℕ) → unbound (ps ++ q ∷ []) ns ≤ unbound ps ns
unfolding unbound one_count
unbound_push ps q [] = omega arith
unbound_push ps q (n ∷ ns) = omega (arith, count_push ps q n, unbound_push ps q ns)

unbound_falls : (ps : Pairs) (x : ℕ) (t : Mono) (ns : List ℕ) → first_for x ps ≡ None → IsOneOf x ns → unbound (ps ++ (x, t) ∷ []) ns < unbound ps ns
unfolding unbound one_count
unbound_falls ps x t [] free one = absurd one
unbound_falls ps x t (n ∷ ns) free (inl e) =
    let before : ◌≡◌ {A = ℕ} (cond (is_some (first_for n ps)) 0 1) 1 = ap (λ (o : Option Mono). cond {A = ℕ} (is_some o) 0 1) (ap (λ m. first_for m ps) (sym e) ∙ free) in
    let after : ◌≡◌ {A = ℕ} (cond (is_some (first_for n (ps ++ (x, t) ∷ []))) 0 1) 0 = ap (λ b. cond {A = ℕ} b 0 1) (ap (λ m. is_some (first_for m (ps ++ (x, t) ∷ []))) (sym e) ∙ first_push_new x t ps) in
    omega (arith, unbound_push ps (x, t) ns)
unbound_falls ps x t (n ∷ ns) free (inr one) = omega (arith, count_push ps (x, t) n, unbound_falls ps x t ns free one)

-- what follows from the halves of the pairs follows from the problem
cut : (es fs : Equations) → ((l r : Mono) → IsOneOf {X = Mono × Mono} (l, r) fs → Related es l r) → (a b : Mono) → Related fs a b → Related es a b
cut es fs h a b (given _ _ one) = h a b one
cut es fs h a b (same _) = same a
cut es fs h a b (turned _ _ r) = turned b a (cut es fs h b a r)
cut es fs h a b (chained _ m _ p q) = chained a m b (cut es fs h a m p) (cut es fs h m b q)
cut es fs h a b (argument e ts us i d f long within r) = argument e ts us i d f long within (cut es fs h (Con e ts) (Con e us) r)
cut es fs h a b (domain _ c _ d r) = domain a c b d (cut es fs h (Fun a c) (Fun b d) r)
cut es fs h a b (range c _ d _ r) = range c a d b (cut es fs h (Fun c a) (Fun d b) r)
cut es fs h a b (replaced_argument e ts i u within r) = replaced_argument e ts i u within (cut es fs h (get_or ts i u) u r)
cut es fs h a b (from c d f r) = from c d f (cut es fs h c d r)
cut es fs h a b (to c d f r) = to c d f (cut es fs h d f r)

half_follows : (es : Equations) (ps : Pairs) → Each (PairFollows es) ps → (l r : Mono) → IsOneOf {X = Mono × Mono} (l, r) (halves ps) → Related es l r
half_follows es [] h l r one = absurd one
half_follows es (p ∷ ps) h l r (inl e) = subst (λ (q : Mono × Mono). Related es q.0 q.1) (sym e) h.0.0
half_follows es (p ∷ ps) h l r (inr one) = half_follows es ps h.1 l r one

module _ (es : Equations) (ps : Pairs) where
  pub keeps_complete : (D : Pairs) → Keeps es ps [] D → (by : ℕ → Mono) → Unifies by es → Unifies by (halves ps)
  keeps_complete D k by u =
      each_map (λ e. replaced by e.0 ≡ replaced by e.1) (λ p. (Var p.0, p.1)) ps
      (each_from (λ p. replaced by (Var p.0) ≡ replaced by p.1) ps (λ p one. related_equal es by u (Var p.0) p.1 (each_of (PairFollows es) ps p k.pairs_follow one).0))

  pub keeps_solves : (D : Pairs) → IsGood ps → Keeps es ps [] D → Solves ps es
  keeps_solves D good k = solves ps es good (λ by u. k.sound by u tt) (keeps_complete D k)

  pub goes_shows : (work : List Task) (D : Pairs) (e : UnifyError) → Goes es ps work D (Err e) → Shows es e
  goes_shows work D (Mismatch l r) h = (h, clash_refuses es l r h)
  goes_shows work D (Occurs x t) h = absurd h
  goes_shows work D (Memory m) h = tt

  pub bind_shows : (work : List Task) (D : Pairs) (x : ℕ) (t : Mono) (e : UnifyError) → Keeps es ps (work ++ Equation (Var x) t ∷ []) D → MayBind ps x t (Err e) → Shows es e
  bind_shows work D x t (Mismatch l r) k h = absurd h
  bind_shows work D x t (Memory m) k h = tt
  bind_shows work D x t (Occurs y found) k h =
      let follows = (each_right (Follows es) work (Equation (Var x) t ∷ []) k.work_follows).0 in
      let related : Related es (Var x) found = chained (Var x) t found follows.0 (cut es (halves ps) (half_follows es ps k.pairs_follow) t found h.1) in
      let shown : HoldsItself es x found = record { related = related; inside = h.2; other = h.3 } in
      let named : HoldsItself es y found = subst (λ z. HoldsItself es z found) (sym h.0) shown in
      (named, occurs_refuses es y found named)

  pub binding_falls : (work : List Task) (D : Pairs) (x : ℕ) (t : Mono) → Keeps es ps (work ++ Equation (Var x) t ∷ []) D → first_for x ps ≡ None → unbound (ps ++ (x, t) ∷ []) (names es) < unbound ps (names es)
  binding_falls work D x t k free =
      let follows = (each_right (Follows es) work (Equation (Var x) t ∷ []) k.work_follows).0 in
      unbound_falls ps x t (names es) free (subst (Each (λ n. IsOneOf n (names es))) (variables_var x) follows.1).0

-- a variable without a pair leads nowhere
pub loose_avoids : (ps : Pairs) (x : ℕ) (t : Mono) → Binds ps x t → head_of t ≡ no_head → Each (Avoids ps x) (variables t)
loose_avoids ps x =
    every_type (λ t. Binds ps x t → head_of t ≡ no_head → Each (Avoids ps x) (variables t))
    (λ n b h. subst (Each (Avoids ps x)) (sym (variables_var n)) (avoids_free ps x n (λ e. b.other (ap Var e)) (b.loose n refl), tt))
    (λ e ts claims b h. let q : head e (length ts) ≡ no_head = sym (head_con e ts) ∙ h in absurd (cc))
    (λ a c p q b h. let q : arrow_head ≡ no_head = sym (head_fun a c) ∙ h in absurd (cc))

-- a pair that may be added leaves the pairs good
pub extends_good : (ps qs new : Pairs) (x : ℕ) (t : Mono) → IsGood ps → Binds ps x t → qs ≡ ps → Each (Avoids qs x) (variables t) → new ≡ ps ++ (x, t) ∷ [] → IsGood new
extends_good ps qs new x t good binds equal avoids is = subst IsGood (sym is) (good_bound ps x t good binds.free (subst (λ s. Each (Avoids s x) (variables t)) equal avoids))

-- pairs that keep the problem with no work left solve it
pub solved_all : (es : Equations) (S old fresh : Pairs) (work : List Task) (D : Pairs) → S ≡ old ++ fresh → IsGood S → work ≡ [] → Keeps es S work D → Solved old fresh es
solved_all es S old fresh work D is good none kept =
    subst (λ ps. Solves ps es × HasUnifiersOf ps es × SpeaksOf ps es → Solved old fresh es) (sym is) (λ h. record { solves = h.0; exact = h.1; variables = h.2 })
    (keeps_solves es S D good k, (λ by. ((λ u. k.sound by u tt), (λ u. keeps_complete es S D k by u))), each_weaker (PairFollows es) (λ p. IsKnown es p.1) S (λ p f. f.1) k.pairs_follow)
  where
    k : Keeps es S [] D
    k = subst (λ w. Keeps es S w D) none kept

pub starts : (pairs qs : Pairs) (left right : Mono) (work : List Task) (settled : Pairs) → qs ≡ pairs → work ≡ Equation left right ∷ [] → settled ≡ [] → Keeps (problem pairs left right) qs work settled
starts pairs qs left right work settled e f g =
    subst (λ s. Keeps (problem pairs left right) qs work s) (sym g)
    (subst (λ w. Keeps (problem pairs left right) qs w []) (sym f) (subst (λ ps. Keeps (problem pairs left right) ps (Equation left right ∷ []) []) (sym e) (keeps_start pairs left right)))

-- what doing the work answers, at the pairs themselves
pub goes_at : (es : Equations) (S T : Pairs) (work later : List Task) (D E : Pairs) (r : Result (Option (ℕ × Mono)) UnifyError) → S ≡ T → (Keeps es S work D → Goes es S later E r) → Keeps es T work D → Goes es T later E r
goes_at es S T work later D E r e go k = subst (λ ps. Goes es ps later E r) e (go (subst (λ ps. Keeps es ps work D) (sym e) k))

pub goes_as : (es : Equations) (S : Pairs) (work : List Task) (D : Pairs) (o p : Option (ℕ × Mono)) → o ≡ p → Goes es S work D (Ok o) → Goes es S work D (Ok p)
goes_as es S work D o p e h = subst (λ q. Goes es S work D (Ok q)) e h

pub solved_at : (es : Equations) (S : Pairs) (work : List Task) (D : Pairs) → IsGood S → work ≡ [] → Keeps es S work D → Solves S es
solved_at es S work D good e k = keeps_solves es S D good (subst (λ w. Keeps es S w D) e k)

-- a binding made: the work goes on with one more pair, and one variable less to bind
pub bound_at : (es : Equations) (S new : Pairs) (work : List Task) (D : Pairs) (b : ℕ × Mono) → new ≡ S ++ b ∷ [] → Keeps es S (work ++ Equation (Var b.0) b.1 ∷ []) D → Keeps es new work D
bound_at es S new work D b e k = subst (λ ps. Keeps es ps work D) (sym e) (keeps_bound es S work D b.0 b.1 k)

pub falls_at : (es : Equations) (S new : Pairs) (work : List Task) (D : Pairs) (b : ℕ × Mono) → new ≡ S ++ b ∷ [] → Keeps es S (work ++ Equation (Var b.0) b.1 ∷ []) D → first_for b.0 S ≡ None → unbound new (names es) < unbound S (names es)
falls_at es S new work D b e k free = subst (λ ps. unbound ps (names es) < unbound S (names es)) (sym e) (binding_falls es S work D b.0 b.1 k free)

-- the same of pairs that were given in another form
pub solved_as : (old known pairs fresh : Pairs) (left right : Mono) → known ≡ old → pairs ≡ old ++ fresh → Solved known fresh (problem known left right) → Solves pairs (problem old left right)
solved_as old known pairs fresh left right equal is h =
    subst (λ ps. Solves ps (problem old left right)) (sym is) (subst (λ ks. Solves (ks ++ fresh) (problem ks left right)) equal h.solves)

-- of two variables without a type either may be bound to the other one
pub binds_variable : (ps : Pairs) (x y : ℕ) (this : Mono) → this ≡ Var x → first_for x ps ≡ None → first_for y ps ≡ None → x < y → Binds ps y this
binds_variable ps x y this is free_x free_y less = record {
  free = free_y;
  other = λ e. let q : x ≡ y = var-var x y (sym is ∙ e) in absurd (omega arith);
  loose = λ n e. let q : x ≡ n = var-var x n (sym is ∙ e) in ap (λ m. first_for m ps) (sym q) ∙ free_x;
}
