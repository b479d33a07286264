use Rattle.std.proofs.Common.{refl, sym, ◌∙◌}
use Rattle.hr_type.specs.Spelling as spec
use Rattle.hr_type.proofs.Layers.{smaller, tested, fails, arities_parts}
use Rattle.hr_type.proofs.Reading.{popped}
use Rattle.hr_type.proofs.arity.has_arities.Goals as goal

pub returns-then-not-has_arity : goal.returns-then-not-has_arity
returns-then-not-has_arity c =
    fails _ _ _ _ (popped (λ t. t.now) _ _ _ c.in-Some.ensures.items) refl spec.has_arities spec.has_arity (arities_parts _) (sym c.has_arity.ensures ∙ c.if-not-has_arity.true) ∙ c.loop-next.invariant

pub loop-next-smaller : goal.loop-next-smaller
loop-next-smaller c = smaller _ _ _ _ (popped (λ t. t.now) _ _ _ c.in-Some.ensures.items) c.in_ok-push_parts.ensures

pub loop-next-preserved : goal.loop-next-preserved
loop-next-preserved c =
    tested _ _ _ _ (popped (λ t. t.now) _ _ _ c.in-Some.ensures.items) c.in_ok-push_parts.ensures spec.has_arities spec.has_arity (arities_parts _) (sym c.has_arity.ensures ∙ c.if-not-has_arity.false) ∙ c.loop-next.invariant
