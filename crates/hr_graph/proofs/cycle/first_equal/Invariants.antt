use Rattle.std.proofs.Common.{take}
use Rattle.hr_graph.specs.Cycle.{IsFirstEqual}
use Rattle.hr_graph.proofs.cycle.first_equal.Given as goal

abbrev pub invariant-loop-from : goal.invariant-loop-from
invariant-loop-from l = IsFirstEqual l.numbers (take l.from-index l.edges) l.first
