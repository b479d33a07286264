-- One more pair keeps a substitution good, where its variable has none and is reached from none of its type's.
use Rattle.std.proofs.Common.{◌≡◌, ◌⊎◌, ℕ, nat_eq, false, eqb, [], ◌∷◌, ◌++◌, map, None, refl, sym, ap, subst, inl, inr}
use Rattle.std.specs.List.{AllByRecursion as Each, IsDistinct}
use Rattle.std.proofs.lemmas.Bool.Decides.{eqb_tells}
use Rattle.hr_type.specs.declared.mono.Mono.{Mono}
use Rattle.hr_type.specs.Types.{variables, first_for}
use Rattle.hr_unify.specs.Unifiers.{IsOneOf, Pairs, Reaches, at_once, through, IsGood}
use Rattle.hr_unify.specs.Working.{Avoids}
use Rattle.hr_unify.proofs.Lists.{each_of, none_parts, one_cases}
use Rattle.hr_unify.proofs.Solving.{edge_path, path_then}

module _ (ps : Pairs) (x : ℕ) (t : Mono) where
  -- what is reached from the new type in the old pairs
  FromType : ℕ → Type 0
  FromType z = (u : ℕ) × IsOneOf u (variables t) × ((z ≡ u) ⊎ Reaches ps u z)

  new_pair : (a : ℕ) (s : Mono) → IsOneOf {X = ℕ × Mono} (a, s) ((x, t) ∷ []) → (a ≡ x) × (s ≡ t)
  new_pair a s (inl e) = (ap (λ (p : ℕ × Mono). p.0) e, ap (λ (p : ℕ × Mono). p.1) e)
  new_pair a s (inr k) = absurd k

  -- a path with the new pair is an old one, or leads to the new variable and on from its type
  bound_reach : (FromType x → ⊥) → (a c : ℕ) → Reaches (ps ++ (x, t) ∷ []) a c → Reaches ps a c ⊎ (((x ≡ a) ⊎ Reaches ps a x) × FromType c)
  unfolding FromType
  bound_reach h a c (at_once _ _ s pair one) = by_pair (one_cases {X = ℕ × Mono} (a, s) ps ((x, t) ∷ []) pair)
    where
      by_pair : IsOneOf {X = ℕ × Mono} (a, s) ps ⊎ IsOneOf {X = ℕ × Mono} (a, s) ((x, t) ∷ []) → Reaches ps a c ⊎ (((x ≡ a) ⊎ Reaches ps a x) × ((u : ℕ) × IsOneOf u (variables t) × ((c ≡ u) ⊎ Reaches ps u c)))
      by_pair (inl k) = inl (at_once a c s k one)
      by_pair (inr k) = let e = new_pair a s k in inr (inl (sym e.0), (c, subst (λ v. IsOneOf c (variables v)) e.1 one, inl refl))
  bound_reach h a c (through _ u _ s pair one r) = by_pair (one_cases {X = ℕ × Mono} (a, s) ps ((x, t) ∷ []) pair) (bound_reach h u c r)
    where
      by_pair : IsOneOf {X = ℕ × Mono} (a, s) ps ⊎ IsOneOf {X = ℕ × Mono} (a, s) ((x, t) ∷ []) → Reaches ps u c ⊎ (((x ≡ u) ⊎ Reaches ps u x) × ((v : ℕ) × IsOneOf v (variables t) × ((c ≡ v) ⊎ Reaches ps v c)))
          → Reaches ps a c ⊎ (((x ≡ a) ⊎ Reaches ps a x) × ((v : ℕ) × IsOneOf v (variables t) × ((c ≡ v) ⊎ Reaches ps v c)))
      by_pair (inl k) (inl q) = inl (through a u c s k one q)
      by_pair (inl k) (inr q) = inr (inr (edge_path ps a u x s k one q.0), q.1)
      by_pair (inr k) (inl q) = let e = new_pair a s k in inr (inl (sym e.0), (u, subst (λ v. IsOneOf u (variables v)) e.1 one, inr q))
      by_pair (inr k) (inr q) = let e = new_pair a s k in absurd (h (u, subst (λ v. IsOneOf u (variables v)) e.1 one, q.0))

  bound_acyclic : IsGood ps → (FromType x → ⊥) → (z : ℕ) → Reaches (ps ++ (x, t) ∷ []) z z → ⊥
  unfolding FromType
  bound_acyclic good h z r = by_path (bound_reach h z z r)
    where
      by_path : Reaches ps z z ⊎ (((x ≡ z) ⊎ Reaches ps z x) × ((u : ℕ) × IsOneOf u (variables t) × ((z ≡ u) ⊎ Reaches ps u z))) → ⊥
      by_path (inl q) = good.acyclic z q
      by_path (inr (inl e, (u, one, path))) = h (u, one, subst (λ v. (v ≡ u) ⊎ Reaches ps u v) (sym e) path)
      by_path (inr (inr q, (u, one, path))) = h (u, one, inr (path_then ps u z x path q))

each_push : (P : ℕ → Type 0) (x : ℕ) (t : Mono) (ps : Pairs) → Each P (map (λ p. p.0) ps) → P x → Each P (map (λ p. p.0) (ps ++ (x, t) ∷ []))
each_push P x t [] h k = (k, tt)
each_push P x t (p ∷ ps) h k = (h.0, each_push P x t ps h.1 k)

eqb_apart : (a b : ℕ) → (b ≡ a → ⊥) → eqb a b ≡ false
eqb_apart a b h = elim (eqb_tells a b) [ inl y ↦ absurd (h (sym y.1)) | inr y ↦ y.0 ]

distinct_push : (x : ℕ) (t : Mono) (ps : Pairs) → IsDistinct nat_eq (map (λ p. p.0) ps) → first_for x ps ≡ None → IsDistinct nat_eq (map (λ p. p.0) (ps ++ (x, t) ∷ []))
unfolding IsDistinct
distinct_push x t [] d e = (tt, tt)
distinct_push x t (p ∷ ps) d e =
    let parts = none_parts x p ps e in
    (each_push (λ z. nat_eq p.0 z ≡ false) x t ps d.0 (eqb_apart p.0 x parts.0), distinct_push x t ps d.1 parts.1)

pub good_bound : (ps : Pairs) (x : ℕ) (t : Mono) → IsGood ps → first_for x ps ≡ None → Each (Avoids ps x) (variables t) → IsGood (ps ++ (x, t) ∷ [])
unfolding FromType
good_bound ps x t good free avoids = record {
  distinct = distinct_push x t ps good.distinct free;
  acyclic = bound_acyclic ps x t good (λ w. apart w);
}
  where
    apart : (u : ℕ) × IsOneOf u (variables t) × ((x ≡ u) ⊎ Reaches ps u x) → ⊥
    apart (u, one, inl e) = (each_of (Avoids ps x) (variables t) u avoids one).0 (sym e)
    apart (u, one, inr r) = (each_of (Avoids ps x) (variables t) u avoids one).1 r
