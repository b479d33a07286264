use Rattle.std.proofs.Common.{◌≡◌, take}
use Rattle.hr_unify.proofs.unifier.indexed.Given as goal

abbrev pub invariant-loop-variable : goal.invariant-loop-variable
invariant-loop-variable l = l.given.entries ≡ take l.variable-index l.pairs
