use Rattle.std.proofs.Common.{take}
use Rattle.hr_graph.specs.Modules.{AreEdges}
use Rattle.hr_graph.proofs.module_names.edges.Given as goal

abbrev pub invariant-loop-import : goal.invariant-loop-import
invariant-loop-import l = AreEdges l.names (take l.import-index l.imports) l.edges.items
