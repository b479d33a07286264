use Rattle.std.proofs.Common.{take}
use Rattle.hr_graph.specs.Groups.{AreLinks}
use Rattle.hr_graph.proofs.groups.between.Given as goal

abbrev pub invariant-loop-from : goal.invariant-loop-from
invariant-loop-from l = AreLinks (take l.from-index l.edges) l.leasts l.links.items
