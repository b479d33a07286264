-- Choices for variables, narrowed down one after another.
use Rattle.std.proofs.Common.{◌≡◌, ◌≢◌, ◌⊎◌, ◌↔◌, ℕ, ◌<◌, Bool, true, false, cond, eqb, IsTrue, [], ◌∷◌, ◌++◌, Some, None, Result, Ok, Err, IfOk, refl, sym, ap, ◌∙◌, inl, inr, lt-ltb}
use Rattle.std.proofs.lemmas.Bool.{eq-eqb, false≢true}
use Rattle.std.proofs.lemmas.Bool.Decides.{eqb_tells}
use Rattle.hr_type.specs.declared.mono.Mono.{Mono}
use Rattle.hr_type.specs.declared.mono.Mono.TheVariants.{Var}
use Rattle.hr_type.specs.Types.{bounded, first_for}
use Rattle.hr_type.specs.Matching.{Pairs, Fits, Narrows, Settles}

abbrev By : Type 0
By = ℕ → Mono

-- what always holds narrows nothing
pub narrows_nothing : (old : Pairs) (P : By → Type 0) → ((by : By) → Fits by old → P by) → Narrows old old P
narrows_nothing old P h = record { kept = λ by f. f; holds = h; all = λ by f p. f; some = λ s. s }

cond_read : (X : Type 0) (b t : Bool) (x y : X) → b ≡ t → cond b x y ≡ cond t x y
cond_read X b t x y e = ap (λ v. cond v x y) e

-- a chosen type is what each fitting substitution gives
pub fits_first : (by : By) (n : ℕ) (t : Mono) (ps : Pairs) → first_for n ps ≡ Some t → Fits by ps → by n ≡ t
fits_first by n t [] e f = absurd (cc)
fits_first by n t (p ∷ ps) e f = by_test (eqb_tells p.0 n) (λ later. fits_first by n t ps later f.1)
  where
    by_test : ((eqb p.0 n ≡ true) × (p.0 ≡ n)) ⊎ ((eqb p.0 n ≡ false) × (p.0 ≢ n)) → (first_for n ps ≡ Some t → by n ≡ t) → by n ≡ t
    by_test (inl y) go = let q : Some p.1 ≡ Some t = sym (cond_read _ _ _ (Some p.1) (first_for n ps) y.0) ∙ e in ap by (sym y.1) ∙ f.0 ∙ cc
    by_test (inr y) go = go (sym (cond_read _ _ _ (Some p.1) (first_for n ps) y.0) ∙ e)

-- a variable that has no choice may be given any type
pub update : ℕ → Mono → By → By
update n t by m = cond (eqb m n) t (by m)

update_here : (n : ℕ) (t : Mono) (by : By) → update n t by n ≡ t
unfolding update
update_here n t by = cond_read _ _ true t (by n) (eq-eqb n n refl)

update_there : (n m : ℕ) (t : Mono) (by : By) → eqb m n ≡ false → update n t by m ≡ by m
unfolding update
update_there n m t by e = cond_read _ _ false t (by m) e

pub fits_update : (by : By) (n : ℕ) (t : Mono) (ps : Pairs) → first_for n ps ≡ None → Fits by ps → Fits (update n t by) ps
fits_update by n t [] e f = tt
fits_update by n t (p ∷ ps) e f = by_test (eqb_tells p.0 n) (λ later. fits_update by n t ps later f.1)
  where
    by_test : ((eqb p.0 n ≡ true) × (p.0 ≡ n)) ⊎ ((eqb p.0 n ≡ false) × (p.0 ≢ n)) → (first_for n ps ≡ None → Fits (update n t by) ps) → Fits (update n t by) (p ∷ ps)
    by_test (inl y) go = let q : Some p.1 ≡ None = sym (cond_read _ _ _ (Some p.1) (first_for n ps) y.0) ∙ e in absurd (cc)
    by_test (inr y) go = (update_there n p.0 t by y.0 ∙ f.0, go (sym (cond_read _ _ _ (Some p.1) (first_for n ps) y.0) ∙ e))

fits_front : (by : By) (ps qs : Pairs) → Fits by (ps ++ qs) → Fits by ps × Fits by qs
fits_front by [] qs f = (tt, f)
fits_front by (p ∷ ps) qs f = let r = fits_front by ps qs f.1 in ((f.0, r.0), r.1)

fits_join : (by : By) (ps qs : Pairs) → Fits by ps → Fits by qs → Fits by (ps ++ qs)
fits_join by [] qs f g = g
fits_join by (p ∷ ps) qs f g = (f.0, fits_join by ps qs f.1 g)

-- one more choice narrows to the substitutions that make it
pub narrows_choice : (n : ℕ) (t : Mono) (old : Pairs) (P : By → Type 0) → first_for n old ≡ None → ((by : By) → P by → by n ≡ t) → ((by : By) → by n ≡ t → P by) → Narrows old (old ++ (n, t) ∷ []) P
narrows_choice n t old P e from to = record {
  kept = λ by f. (fits_front by old _ f).0;
  holds = λ by f. to by (fits_front by old _ f).1.0;
  all = λ by f p. fits_join by old _ f (from by p, tt);
  some = λ s. (update n t s.0, fits_join (update n t s.0) old _ (fits_update s.0 n t old e s.1) (update_here n t s.0, tt));
}

-- an answer by equality of two types, where each fitting substitution gives the first one
pub settles_equal : (r : Bool) (old : Pairs) (P : By → Type 0) (x y : Mono) → ((by : By) → Fits by old → P by → x ≡ y) → ((by : By) → Fits by old → x ≡ y → P by) → (IsTrue r ↔ (x ≡ y)) → Settles r old old P
settles_equal true old P x y from to e = narrows_nothing old P (λ by f. to by f (e.0 refl))
settles_equal false old P x y from to e = λ by f p. false≢true (e.1 (from by f p))

-- the same of a call's answer
pub settled_equal : {E : Type 0} (r : Result Bool E) (old : Pairs) (P : By → Type 0) (x y : Mono) → ((by : By) → Fits by old → P by → x ≡ y) → ((by : By) → Fits by old → x ≡ y → P by)
    → IfOk r (λ yes. IsTrue yes ↔ (x ≡ y)) → IfOk r (λ yes. Settles yes old old P)
settled_equal (Ok answer) old P x y from to h = settles_equal answer old P x y from to h
settled_equal (Err e) old P x y from to h = tt

pub bounded_below : (by : By) (n bound : ℕ) → n < bound → bounded bound by n ≡ by n
bounded_below by n bound h = cond_read _ _ true (by n) (Var n) (lt-ltb n bound h)

-- the same of an equal property
pub narrows_as : (old new : Pairs) (P Q : By → Type 0) → ((by : By) → P by → Q by) → ((by : By) → Q by → P by) → Narrows old new P → Narrows old new Q
narrows_as old new P Q to from n = record { kept = n.kept; holds = λ by f. to by (n.holds by f); all = λ by f q. n.all by f (from by q); some = n.some }

-- what an answer of yes or no settles
pub narrowed : (r : Bool) (a b : Pairs) (P : By → Type 0) → r ≡ true → Settles r a b P → Narrows a b P
narrowed true a b P e h = h
narrowed false a b P e h = absurd (cc)

pub refused : (r : Bool) (a b : Pairs) (P : By → Type 0) → r ≡ false → Settles r a b P → (by : By) → Fits by a → P by → ⊥
refused true a b P e h = absurd (cc)
refused false a b P e h = h
