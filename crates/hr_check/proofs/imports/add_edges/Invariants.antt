use Rattle.hr_check.specs.Edges.{StaysWithin}
use Rattle.hr_check.proofs.imports.add_edges.Given as goal

abbrev pub invariant-loop-target : goal.invariant-loop-target
invariant-loop-target l = StaysWithin l.from l.initial.edges.items l.edges.items
