-- Values of variables that satisfy the equations which pairs state, in any algebra.
use Rattle.std.proofs.Common.{◌≡◌, ◌≢◌, ◌⊎◌, ℕ, true, false, eqb, List, [], ◌∷◌, None, refl, sym, ap, ◌∙◌, subst, inl, inr}
use Rattle.std.specs.List.{IsDistinct}
use Rattle.std.proofs.lemmas.Bool.Decides.{eqb_tells}
use Rattle.hr_base.specs.declared.bind.Entity.{Entity}
use Rattle.hr_type.specs.declared.mono.Mono.{Mono}
use Rattle.hr_type.specs.Types.{value, variables, first_for}
use Rattle.hr_unify.specs.Unifiers.{IsOneOf, Pairs, Reaches, at_once, through, IsGood}
use Rattle.hr_unify.specs.Weights as weights
use Rattle.hr_unify.specs.Weights.{update}
use Rattle.hr_unify.proofs.Lists.{each_from, update_here, update_there, none_parts, distinct_none}
use Rattle.hr_unify.proofs.Values.{value_agrees}

-- paths from variable to variable
pub edge_path : (ps : Pairs) (x u z : ℕ) (t : Mono) → IsOneOf (x, t) ps → IsOneOf u (variables t) → (z ≡ u) ⊎ Reaches ps u z → Reaches ps x z
edge_path ps x u z t pair one (inl e) = at_once x z t pair (subst (λ v. IsOneOf v (variables t)) (sym e) one)
edge_path ps x u z t pair one (inr r) = through x u z t pair one r

pub reach_then : (ps : Pairs) (x y z : ℕ) → Reaches ps x y → Reaches ps y z → Reaches ps x z
reach_then ps x y z (at_once _ _ t pair one) r = through x y z t pair one r
reach_then ps x y z (through _ u _ t pair one q) r = through x u z t pair one (reach_then ps u y z q r)

pub path_then : (ps : Pairs) (y x z : ℕ) → (x ≡ y) ⊎ Reaches ps y x → Reaches ps x z → Reaches ps y z
path_then ps y x z (inl e) r = subst (λ v. Reaches ps v z) e r
path_then ps y x z (inr q) r = reach_then ps y x z q r

pub reach_more : (p : ℕ × Mono) (ps : Pairs) (x y : ℕ) → Reaches ps x y → Reaches (p ∷ ps) x y
reach_more p ps x y (at_once _ _ t pair one) = at_once x y t (inr pair) one
reach_more p ps x y (through _ u _ t pair one q) = through x u y t (inr pair) one (reach_more p ps u y q)

pub path_more : (p : ℕ × Mono) (ps : Pairs) (x y : ℕ) → (y ≡ x) ⊎ Reaches ps x y → (y ≡ x) ⊎ Reaches (p ∷ ps) x y
path_more p ps x y (inl e) = inl e
path_more p ps x y (inr r) = inr (reach_more p ps x y r)

no_edges : (x y : ℕ) → Reaches [] x y → ⊥
no_edges x y (at_once _ _ t pair one) = pair
no_edges x y (through _ u _ t pair one q) = pair

pub good_none : (ps : Pairs) → ps ≡ [] → IsGood ps
unfolding IsDistinct
good_none ps e = subst IsGood (sym e) (record { distinct = tt; acyclic = λ x r. no_edges x x r })

pub good_tail : (p : ℕ × Mono) (ps : Pairs) → IsGood (p ∷ ps) → IsGood ps
unfolding IsDistinct
good_tail p ps g = record { distinct = g.distinct.1; acyclic = λ x r. g.acyclic x (reach_more p ps x x r) }

head_free : (p : ℕ × Mono) (ps : Pairs) → IsGood (p ∷ ps) → first_for p.0 ps ≡ None
unfolding IsDistinct
head_free p ps g = distinct_none p.0 ps g.distinct.0

module _ (A : Type 0) (applied : Entity → List A → A) (function : A → A → A) (step : A → A) where
  abbrev solve : Pairs → (ℕ → A) → ℕ → A
  solve = weights.solve A applied function step

  pub solve_free : (ps : Pairs) (given : ℕ → A) (n : ℕ) → first_for n ps ≡ None → solve ps given n ≡ given n
  unfolding weights.solve
  solve_free [] given n e = refl
  solve_free (p ∷ ps) given n e =
      let parts = none_parts n p ps e in
      solve_free ps (update p.0 (step (value A applied function (solve ps given) p.1)) given) n parts.1 ∙ update_there p.0 n (step (value A applied function (solve ps given) p.1)) given parts.0

  -- a value depends on what is given for the variables that are reached alone
  solve_agrees : (ps : Pairs) (f g : ℕ → A) (y : ℕ) → ((z : ℕ) → (z ≡ y) ⊎ Reaches ps y z → f z ≡ g z) → solve ps f y ≡ solve ps g y
  unfolding weights.solve
  solve_agrees [] f g y h = h y (inl refl)
  solve_agrees (p ∷ ps) f g y h =
      solve_agrees ps (update p.0 (step (value A applied function (solve ps f) p.1)) f) (update p.0 (step (value A applied function (solve ps g) p.1)) g) y
      (λ z path. by_test z path (eqb_tells z p.0) (λ u one reached.
      solve_agrees ps f g u (λ v later. h v (inr (reached v (path_more p ps u v later))))))
    where
      by_test : (z : ℕ) → (z ≡ y) ⊎ Reaches ps y z → ((eqb z p.0 ≡ true) × (z ≡ p.0)) ⊎ ((eqb z p.0 ≡ false) × (z ≢ p.0))
          → ((u : ℕ) → IsOneOf u (variables p.1) → ((v : ℕ) → (v ≡ u) ⊎ Reaches (p ∷ ps) u v → Reaches (p ∷ ps) y v) → solve ps f u ≡ solve ps g u)
          → update p.0 (step (value A applied function (solve ps f) p.1)) f z ≡ update p.0 (step (value A applied function (solve ps g) p.1)) g z
      by_test z path (inl k) go =
          let same : value A applied function (solve ps f) p.1 ≡ value A applied function (solve ps g) p.1 =
          value_agrees A applied function (solve ps f) (solve ps g) p.1
          (each_from (λ u. solve ps f u ≡ solve ps g u) (variables p.1)
          (λ u one. go u one (λ v later. path_then (p ∷ ps) y p.0 v (subst (λ q. (q ≡ y) ⊎ Reaches (p ∷ ps) y q) k.1 (path_more p ps y z path)) (edge_path (p ∷ ps) p.0 u v p.1 (inl refl) one later)))) in
          ap (update p.0 (step (value A applied function (solve ps f) p.1)) f) k.1 ∙ update_here p.0 (step (value A applied function (solve ps f) p.1)) f ∙ ap step same
          ∙ sym (update_here p.0 (step (value A applied function (solve ps g) p.1)) g) ∙ sym (ap (update p.0 (step (value A applied function (solve ps g) p.1)) g) k.1)
      by_test z path (inr k) go =
          update_there p.0 z (step (value A applied function (solve ps f) p.1)) f k.1 ∙ h z (path_more p ps y z path) ∙ sym (update_there p.0 z (step (value A applied function (solve ps g) p.1)) g k.1)

  abbrev next : Pairs → ℕ × Mono → (ℕ → A) → ℕ → A
  next ps p given = update p.0 (step (value A applied function (solve ps given) p.1)) given

  apart : (ps : Pairs) (p : ℕ × Mono) → IsGood (p ∷ ps) → (u z : ℕ) → IsOneOf u (variables p.1) → (z ≡ u) ⊎ Reaches ps u z → z ≡ p.0 → ⊥
  apart ps p good u z one path k = good.acyclic p.0 (subst (Reaches (p ∷ ps) p.0) k (edge_path (p ∷ ps) p.0 u z p.1 (inl refl) one (path_more p ps u z path)))

  same_below : (ps : Pairs) (p : ℕ × Mono) (given : ℕ → A) → IsGood (p ∷ ps) → value A applied function (solve ps given) p.1 ≡ value A applied function (solve ps (next ps p given)) p.1
  same_below ps p given good =
      value_agrees A applied function (solve ps given) (solve ps (next ps p given)) p.1
      (each_from (λ u. solve ps given u ≡ solve ps (next ps p given) u) (variables p.1)
      (λ u one. solve_agrees ps given (next ps p given) u (λ z path. sym (update_there p.0 z (step (value A applied function (solve ps given) p.1)) given (apart ps p good u z one path)))))

  bound_first : (ps : Pairs) (p : ℕ × Mono) (given : ℕ → A) → IsGood (p ∷ ps) → solve ps (next ps p given) p.0 ≡ step (value A applied function (solve ps (next ps p given)) p.1)
  bound_first ps p given good =
      solve_free ps (next ps p given) p.0 (head_free p ps good) ∙ update_here p.0 (step (value A applied function (solve ps given) p.1)) given ∙ ap step (same_below ps p given good)

  pub solve_bound : (ps : Pairs) (given : ℕ → A) (x : ℕ) (t : Mono) → IsGood ps → IsOneOf (x, t) ps → solve ps given x ≡ step (value A applied function (solve ps given) t)
  unfolding weights.solve
  solve_bound [] given x t good one = absurd one
  solve_bound (p ∷ ps) given x t good (inr one) = solve_bound ps (next ps p given) x t (good_tail p ps good) one
  solve_bound (p ∷ ps) given x t good (inl e) =
      subst (λ (q : ℕ × Mono). solve ps (next ps p given) q.0 ≡ step (value A applied function (solve ps (next ps p given)) q.1)) (sym e) (bound_first ps p given good)
