use Rattle.hr_graph.specs.Graph.{IsWithin}
use Rattle.hr_typing_code.proofs.edges.within.Given as goal

abbrev pub invariant-loop-edge : goal.invariant-loop-edge
invariant-loop-edge l = IsWithin l.count l.kept.items
