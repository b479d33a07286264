-- Bindings are good in one way at most.
use Rattle.std.specs.Prelude.{nat_eq, map}
use Rattle.std.specs.List.{IsDistinct-prop}
use mathlib.Core.HLevel.{⊥_prop}
use Rattle.hr_unify.specs.Unifiers.{Pairs, IsGood}

pub IsGood-prop : (pairs : Pairs) → IsProp (IsGood pairs)
IsGood-prop pairs a b = λ i. record {
  distinct = IsDistinct-prop nat_eq (map (λ p. p.0) pairs) a.distinct b.distinct i;
  acyclic = λ x reaches. ⊥_prop (a.acyclic x reaches) (b.acyclic x reaches) i;
}
