use Rattle.std.proofs.Common.{ℕ, sym, subst}
use Rattle.std.proofs.lemmas.Bool.{eqb-true}
use Rattle.hr_type.specs.declared.mono.Mono.{Mono}
use Rattle.hr_type.specs.declared.mono.Mono.TheVariants.{Var}
use Rattle.hr_unify.specs.Tasks.{marks}
use Rattle.hr_unify.specs.Unifiers.{IsOneOf}
use Rattle.hr_unify.proofs.Lists.{marked_one}
use Rattle.hr_unify.proofs.known.is_marked.Goals as goal

pub returns-in-Some : goal.returns-in-Some
returns-in-Some c = λ t.
    subst (λ y. IsOneOf {X = ℕ × Mono} (c.args.variable, Var y) (marks c.args.marked.now.entries)) (eqb-true _ _ t) (marked_one c.args.variable _ c.args.marked.now.entries (sym c.in-Some.ensures.value))
