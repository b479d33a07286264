-- The meaning of a good substitution, and that each unifier of its halves is an instance of it.
use Rattle.std.proofs.Common.{◌≡◌, ◌≢◌, ◌⊎◌, ℕ, true, false, eqb, [], ◌∷◌, sym, ap, ◌∙◌, inl, inr}
use Rattle.std.proofs.lemmas.Bool.Decides.{eqb_tells}
use Rattle.hr_type.specs.declared.mono.Mono.{Mono}
use Rattle.hr_type.specs.declared.mono.Mono.TheVariants.{Var, Con, Fun}
use Rattle.hr_type.specs.Types.{replaced, variables}
use Rattle.hr_type.proofs.Terms.{value-var}
use Rattle.hr_unify.specs.Unifiers.{Pairs, Equations, Unifies, halves, IsGood, IsMeaning, Solves}
use Rattle.hr_unify.proofs.Lists.{each_from, each_of, each_map, update_here, update_there}
use Rattle.hr_unify.proofs.Values.{value_agrees, value_fuses}
use Rattle.hr_unify.specs.Weights.{solve, update}
use Rattle.hr_unify.proofs.Solving.{solve_free, solve_bound}

pub meaning : Pairs → ℕ → Mono
meaning ps = solve Mono Con Fun (λ t. t) ps Var

pub is_meaning : (ps : Pairs) → IsGood ps → IsMeaning ps (meaning ps)
unfolding meaning
is_meaning ps good = record {
  bound = each_from (λ p. solve Mono Con Fun (λ t. t) ps Var p.0 ≡ replaced (solve Mono Con Fun (λ t. t) ps Var) p.1) ps (λ p one. solve_bound Mono Con Fun (λ t. t) ps Var p.0 p.1 good one);
  free = λ n e. solve_free Mono Con Fun (λ t. t) ps Var n e;
}

module _ (by : ℕ → Mono) where
  instance_of : (ps : Pairs) (given : ℕ → Mono) → Unifies by (halves ps) → ((n : ℕ) → by n ≡ replaced by (given n)) → (n : ℕ) → by n ≡ replaced by (solve Mono Con Fun (λ t. t) ps given n)
  unfolding solve
  instance_of [] given u h n = h n
  instance_of (p ∷ ps) given u h n = instance_of ps (update p.0 (replaced (solve Mono Con Fun (λ t. t) ps given) p.1) given) u.1 (λ m. by_test m (eqb_tells m p.0) (instance_of ps given u.1 h)) n
    where
      by_test : (m : ℕ) → ((eqb m p.0 ≡ true) × (m ≡ p.0)) ⊎ ((eqb m p.0 ≡ false) × (m ≢ p.0)) → ((k : ℕ) → by k ≡ replaced by (solve Mono Con Fun (λ t. t) ps given k))
          → by m ≡ replaced by (update p.0 (replaced (solve Mono Con Fun (λ t. t) ps given) p.1) given m)
      by_test m (inl k) ih =
          let same : replaced by p.1 ≡ replaced (λ j. replaced by (solve Mono Con Fun (λ t. t) ps given j)) p.1 =
          value_agrees Mono Con Fun by (λ j. replaced by (solve Mono Con Fun (λ t. t) ps given j)) p.1
          (each_from (λ j. by j ≡ replaced by (solve Mono Con Fun (λ t. t) ps given j)) (variables p.1) (λ j one. ih j)) in
          ap by k.1 ∙ sym (value-var Mono Con Fun by p.0) ∙ u.0 ∙ same ∙ sym (value_fuses Mono Con Fun by (solve Mono Con Fun (λ t. t) ps given) p.1)
          ∙ sym (ap (replaced by) (ap (update p.0 (replaced (solve Mono Con Fun (λ t. t) ps given) p.1) given) k.1 ∙ update_here p.0 (replaced (solve Mono Con Fun (λ t. t) ps given) p.1) given))
      by_test m (inr k) ih = h m ∙ sym (ap (replaced by) (update_there p.0 m (replaced (solve Mono Con Fun (λ t. t) ps given) p.1) given k.1))

  instance_of_meaning : (ps : Pairs) → Unifies by (halves ps) → (n : ℕ) → by n ≡ replaced by (meaning ps n)
  unfolding meaning
  instance_of_meaning ps u n = instance_of ps Var u (λ m. sym (value-var Mono Con Fun by m)) n

meaning_unifies : (ps : Pairs) → IsGood ps → Unifies (meaning ps) (halves ps)
meaning_unifies ps good =
    each_map (λ e. replaced (meaning ps) e.0 ≡ replaced (meaning ps) e.1) (λ p. (Var p.0, p.1)) ps
    (each_from (λ p. replaced (meaning ps) (Var p.0) ≡ replaced (meaning ps) p.1) ps
    (λ p one. value-var Mono Con Fun (meaning ps) p.0 ∙ each_of (λ q. meaning ps q.0 ≡ replaced (meaning ps) q.1) ps p (is_meaning ps good).bound one))

-- pairs whose halves have exactly the unifiers of the equations solve them
pub solves : (ps : Pairs) (es : Equations) → IsGood ps → ((by : ℕ → Mono) → Unifies by (halves ps) → Unifies by es) → ((by : ℕ → Mono) → Unifies by es → Unifies by (halves ps)) → Solves ps es
solves ps es good sound complete = record {
  good = good;
  means = (
    meaning ps,
    is_meaning ps good,
    record {
      unifies = sound (meaning ps) (meaning_unifies ps good);
      general = λ other u. (other, instance_of_meaning other ps (complete other u));
    },
  );
}
