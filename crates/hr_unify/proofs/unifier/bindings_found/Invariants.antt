use Rattle.hr_unify.specs.Tasks.{marks, pairs_of, tasks}
use Rattle.hr_unify.specs.Unifiers.{IsGood, names, problem}
use Rattle.hr_unify.specs.Working.{Keeps}
use Rattle.hr_unify.proofs.Unifying.{unbound}
use Rattle.std.proofs.Common.{◌≡◌}
use Rattle.hr_unify.proofs.unifier.bindings_found.Given as goal

abbrev pub invariant-solving : goal.invariant-solving
invariant-solving l = record {
  good : IsGood (pairs_of l.known);
  keeps : Keeps (problem l.given.entries l.left l.right) (pairs_of l.known) (tasks l.work.items) (marks l.settled.entries);
  same : l.known.given.now.entries ≡ l.given.entries;
}

abbrev pub decreases-solving : goal.decreases-solving
decreases-solving l = unbound (pairs_of l.known) (names (problem l.given.entries l.left l.right))
