use Rattle.hr_graph.proofs.ShortestCycle.{IsComing, left_of}
use Rattle.hr_graph.proofs.cycle.least_cycle.Given as goal

abbrev pub invariant-loop-best : goal.invariant-loop-best
invariant-loop-best l = IsComing l.edges l.steps.items l.first l.cycle.items l.best

abbrev pub decreases-loop-best : goal.decreases-loop-best
decreases-loop-best l = left_of l.best
