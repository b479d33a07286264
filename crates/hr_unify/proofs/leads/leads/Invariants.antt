use Rattle.std.proofs.Common.{map}
use Rattle.hr_unify.specs.Tasks.{pairs_of}
use Rattle.hr_unify.specs.Weights.{load, total}
use Rattle.hr_unify.specs.Working.{keys}
use Rattle.hr_unify.proofs.Leading.{Walks}
use Rattle.hr_unify.proofs.leads.leads.Given as goal

abbrev pub invariant-loop-next : goal.invariant-loop-next
invariant-loop-next l = Walks (pairs_of l.known) l.variable l.ty (keys l.seen.entries) (map (λ t. t.now) l.left.items)

abbrev pub decreases-loop-next : goal.decreases-loop-next
decreases-loop-next l = total (map (load (pairs_of l.known)) (map (λ t. t.now) l.left.items))
