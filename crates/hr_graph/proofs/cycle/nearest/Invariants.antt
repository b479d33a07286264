use Rattle.std.proofs.Common.{take}
use Rattle.hr_graph.specs.Cycle.{IsNearest}
use Rattle.hr_graph.proofs.cycle.nearest.Given as goal

abbrev pub invariant-loop-node : goal.invariant-loop-node
invariant-loop-node l = IsNearest (take l.node-index l.row) l.steps l.best
