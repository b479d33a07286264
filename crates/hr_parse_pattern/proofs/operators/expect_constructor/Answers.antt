use Rattle.std.proofs.Common.{inl, inr}
use Rattle.hr_parse_pattern.proofs.Openings.{takes_as}
use Rattle.hr_parse_pattern.proofs.operators.expect_constructor.Goals as goal

pub returns-in-ConstructorSymbol : goal.returns-in-ConstructorSymbol
returns-in-ConstructorSymbol c = takes_as c.expect_sort.result _ _ (λ item h. inl h) c.expect_sort.ensures

pub returns-in-QualifiedConstructorSymbol : goal.returns-in-QualifiedConstructorSymbol
returns-in-QualifiedConstructorSymbol c = takes_as c.expect_sort-in-QualifiedConstructorSymbol.result _ _ (λ item h. inr (inl h)) c.expect_sort-in-QualifiedConstructorSymbol.ensures

pub returns-in_default : goal.returns-in_default
returns-in_default c = takes_as c.expect.result _ _ (λ item h. inr (inr h)) c.expect.ensures
