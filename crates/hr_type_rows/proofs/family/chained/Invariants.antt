use Rattle.hr_unify.specs.Unifiers.{IsGood}
use Rattle.hr_type_rows.proofs.family.chained.Given as goal

abbrev pub invariant-loop-step : goal.invariant-loop-step
invariant-loop-step l = IsGood l.solver.bindings.entries
