use Rattle.std.proofs.Common.{refl, sym, ◌∙◌}
use Rattle.hr_type.specs.Spelling as spec
use Rattle.hr_type.proofs.Layers.{smaller, tested, fails, spellable_parts}
use Rattle.hr_type.proofs.Reading.{popped}
use Rattle.hr_type.proofs.spell.is_spellable.Goals as goal

pub returns-then-not-has_spelling : goal.returns-then-not-has_spelling
returns-then-not-has_spelling c =
    fails _ _ _ _ (popped (λ t. t.now) _ _ _ c.in-Some.ensures.items) refl (spec.is_spellable c.args.scope.now) (spec.has_spelling c.args.scope.now) ((spellable_parts c.args.scope.now) _) (sym c.has_spelling.ensures ∙ c.if-not-has_spelling.true) ∙ c.loop-next.invariant

pub loop-next-smaller : goal.loop-next-smaller
loop-next-smaller c = smaller _ _ _ _ (popped (λ t. t.now) _ _ _ c.in-Some.ensures.items) c.in_ok-push_parts.ensures

pub loop-next-preserved : goal.loop-next-preserved
loop-next-preserved c =
    tested _ _ _ _ (popped (λ t. t.now) _ _ _ c.in-Some.ensures.items) c.in_ok-push_parts.ensures (spec.is_spellable c.args.scope.now) (spec.has_spelling c.args.scope.now) ((spellable_parts c.args.scope.now) _) (sym c.has_spelling.ensures ∙ c.if-not-has_spelling.false) ∙ c.loop-next.invariant
