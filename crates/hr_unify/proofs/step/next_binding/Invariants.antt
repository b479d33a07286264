use Rattle.hr_unify.specs.Tasks.{marks, pairs_of, tasks}
use Rattle.hr_unify.specs.Unifiers.{Equations}
use Rattle.hr_unify.specs.Weights.{work_load}
use Rattle.hr_unify.specs.Working.{Keeps}
use Rattle.hr_unify.proofs.step.next_binding.Given as goal

abbrev pub invariant-loop-item : goal.invariant-loop-item
invariant-loop-item l = (es : Equations) → Keeps es (pairs_of l.known) (tasks l.initial.work.items) (marks l.initial.settled.entries) → Keeps es (pairs_of l.known) (tasks l.work.items) (marks l.settled.entries)

abbrev pub decreases-loop-item : goal.decreases-loop-item
decreases-loop-item l = work_load (pairs_of l.known) (tasks l.work.items)
