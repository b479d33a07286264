use Rattle.hr_unify.specs.Unifiers.{IsGood}
use Rattle.hr_type_rows.proofs.family.elements.Given as goal

abbrev pub invariant-loop-element : goal.invariant-loop-element
invariant-loop-element l = IsGood l.solver.bindings.entries
