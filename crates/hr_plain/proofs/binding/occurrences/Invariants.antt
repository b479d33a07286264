use Rattle.std.proofs.Common.{◌≡◌, ◌++◌, drop}
use Rattle.hr_plain.specs.Scoping as spec
use Rattle.hr_plain.proofs.binding.occurrences.Given as goal

-- what is there, and the marks of the equations that are left, is the whole
abbrev pub invariant-loop-number : goal.invariant-loop-number
invariant-loop-number l =
    l.marks.items ++ spec.marks_from l.owner l.text l.number (drop l.number l.tree.equations) ≡ spec.occurrences_of l.owner l.text l.tree
