use Rattle.std.proofs.Common.{take}
use Rattle.hr_graph.specs.Graph.{IsWithin}
use Rattle.hr_graph_rows.proofs.edges.are_within.Given as goal

abbrev pub invariant-loop-from : goal.invariant-loop-from
invariant-loop-from l = IsWithin l.nodes (take l.from-index l.edges)
