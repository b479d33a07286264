-- A type with the types of its variables in their places is what its meaning makes of it.
use Rattle.std.proofs.Common.{◌≡◌, ◌++◌, ◌<◌, ℕ, List, [], ◌∷◌, map, reverse, Some, None, refl, sym, ap, ◌∙◌, subst, append_assoc, append-nil}
use Rattle.std.proofs.lemmas.List.{map-append}
use Rattle.hr_type.specs.declared.mono.Mono.{Mono}
use Rattle.hr_type.specs.declared.mono.Mono.TheVariants.{Var, Con, Fun}
use Rattle.hr_type.specs.Heads.{Head, head_of, joined, parts, posts}
use Rattle.hr_type.specs.Types.{replaced, first_for}
use Rattle.hr_type.proofs.Terms.{value-var}
use Rattle.hr_type.proofs.Layers.{by_kind, parts_var, posts_parts, joined-append}
use Rattle.hr_type.proofs.Matched.{IsApplied, head_stays, parts_replaced}
use Rattle.hr_unify.specs.Unifiers.{Pairs, IsGood, IsMeaning}
use Rattle.hr_unify.specs.Weights.{load, total}
use Rattle.hr_unify.specs.Working.{IsLast, StandsFor}
use Rattle.hr_unify.proofs.Lists.{each_of, first_one}
use Rattle.hr_unify.proofs.Loads.{walk_bound, walk_parts, walk_dropped}

module _ (pairs : Pairs) (by : ℕ → Mono) (m : IsMeaning pairs by) where
  whole : Mono → List Head
  whole t = posts (replaced by t)

  -- a variable becomes what its type becomes
  behind : (t its : Mono) → StandsFor pairs t its → replaced by t ≡ replaced by its
  behind t its h = ap (replaced by) h.1 ∙ value-var Mono Con Fun by h.0 ∙ each_of (λ p. by p.0 ≡ replaced by p.1) pairs (h.0, its) m.bound (first_one h.0 its pairs h.2)

  -- another type keeps its layer
  layer : (t : Mono) → IsLast pairs t → posts (replaced by t) ≡ joined (map posts (map (replaced by) (parts t))) ++ head_of t ∷ []
  layer =
      by_kind (λ t. IsLast pairs t → posts (replaced by t) ≡ joined (map posts (map (replaced by) (parts t))) ++ head_of t ∷ []) of_var
      (λ e ts last. applied (Con e ts) (λ n h. Rattle.hr_type.proofs.Terms.var-con n e ts (sym h))) (λ a b last. applied (Fun a b) (λ n h. Rattle.hr_type.proofs.Terms.var-fun n a b (sym h)))
    where
      applied : (t : Mono) → IsApplied t → posts (replaced by t) ≡ joined (map posts (map (replaced by) (parts t))) ++ head_of t ∷ []
      applied t a = posts_parts (replaced by t) ∙ (λ i. joined (map posts (parts_replaced by t a i)) ++ head_stays by t a i ∷ [])

      of_var : (n : ℕ) → IsLast pairs (Var n) → posts (replaced by (Var n)) ≡ joined (map posts (map (replaced by) (parts (Var n)))) ++ head_of (Var n) ∷ []
      of_var n last =
          ap posts (value-var Mono Con Fun by n ∙ m.free n (last n refl)) ∙ posts_parts (Var n)
          ∙ (λ i. joined (map posts (parts_var n i)) ++ head_of (Var n) ∷ []) ∙ sym (λ i. joined (map posts (map (replaced by) (parts_var n i))) ++ head_of (Var n) ∷ [])

  split : (ts us : List Mono) → joined (map posts (map (replaced by) (ts ++ us))) ≡ joined (map posts (map (replaced by) ts)) ++ joined (map posts (map (replaced by) us))
  split ts us = ap (λ xs. joined (map posts xs)) (map-append (replaced by) ts us) ∙ ap joined (map-append posts (map (replaced by) ts) (map (replaced by) us)) ∙ joined-append (map posts (map (replaced by) ts)) (map posts (map (replaced by) us))

  module _ (before after rest : List Mono) (t : Mono) (was : before ≡ rest ++ t ∷ []) where
    pub goes_behind : (its : Mono) (found : List Head) → StandsFor pairs t its → after ≡ rest ++ its ∷ [] → joined (map posts (map (replaced by) after)) ++ found ≡ joined (map posts (map (replaced by) before)) ++ found
    goes_behind its found h is =
        ap (λ hs. hs ++ found)
        (ap (λ ts. joined (map posts (map (replaced by) ts))) is ∙ split rest (its ∷ []) ∙ ap (λ u. joined (map posts (map (replaced by) rest)) ++ (posts u ++ [])) (sym (behind t its h)) ∙ sym (split rest (t ∷ []))
        ∙ sym (ap (λ ts. joined (map posts (map (replaced by) ts))) was))

    pub goes_inside : (found : List Head) → IsLast pairs t → after ≡ rest ++ parts t → joined (map posts (map (replaced by) after)) ++ (head_of t ∷ found) ≡ joined (map posts (map (replaced by) before)) ++ found
    goes_inside found last is =
        ap (λ hs. hs ++ (head_of t ∷ found)) (ap (λ ts. joined (map posts (map (replaced by) ts))) is ∙ split rest (parts t))
        ∙ regroup (joined (map posts (map (replaced by) rest))) (joined (map posts (map (replaced by) (parts t)))) (head_of t) found
        ∙ sym (ap (λ hs. hs ++ found) (ap (λ ts. joined (map posts (map (replaced by) ts))) was ∙ split rest (t ∷ []) ∙ ap (λ hs. joined (map posts (map (replaced by) rest)) ++ (hs ++ [])) (layer t last)))
      where
        regroup : (xs ys : List Head) (h : Head) (zs : List Head) → (xs ++ ys) ++ (h ∷ zs) ≡ (xs ++ ((ys ++ h ∷ []) ++ [])) ++ zs
        regroup xs ys h zs = simp (append_assoc, append-nil)

-- the walk comes to an end
module _ (pairs : Pairs) (good : IsGood pairs) (before after rest : List Mono) (t : Mono) (was : before ≡ rest ++ t ∷ []) where
  pub behind_smaller : (its : Mono) → StandsFor pairs t its → after ≡ rest ++ its ∷ [] → total (map (load pairs) after) < total (map (load pairs) before)
  behind_smaller its h is = walk_bound pairs good before after rest t its h.0 was h.1 h.2 is

  pub inside_smaller : after ≡ rest ++ parts t → total (map (load pairs) after) < total (map (load pairs) before)
  inside_smaller is = kinds t was is
    where
      kinds : (t : Mono) → before ≡ rest ++ t ∷ [] → after ≡ rest ++ parts t → total (map (load pairs) after) < total (map (load pairs) before)
      kinds =
          by_kind (λ t. before ≡ rest ++ t ∷ [] → after ≡ rest ++ parts t → total (map (load pairs) after) < total (map (load pairs) before))
          (λ n w i. subst (λ ts. total (map (load pairs) ts) < total (map (load pairs) before)) (sym (i ∙ ap (λ us. rest ++ us) (parts_var n) ∙ append-nil rest)) (walk_dropped pairs good before rest (Var n) w))
          (λ e ts w i. walk_parts pairs before after rest (Con e ts) w (λ n h. Rattle.hr_type.proofs.Terms.var-con n e ts (sym h)) i)
          (λ a b w i. walk_parts pairs before after rest (Fun a b) w (λ n h. Rattle.hr_type.proofs.Terms.var-fun n a b (sym h)) i)
