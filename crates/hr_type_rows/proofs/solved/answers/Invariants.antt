use Rattle.std.proofs.Common.{length}
use Rattle.hr_unify.specs.Unifiers.{IsGood}
use Rattle.hr_type_rows.proofs.solved.answers.Given as goal

abbrev pub invariant-equations : goal.invariant-equations
invariant-equations l = IsGood l.solver.bindings.entries

abbrev pub decreases-equations : goal.decreases-equations
decreases-equations l = length l.rest
