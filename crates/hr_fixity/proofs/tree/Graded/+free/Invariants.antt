use Rattle.std.proofs.Common.{◌≤◌}
use Rattle.hr_fixity.specs.declared.tree.Graded.{size-Graded}
use Rattle.hr_fixity.proofs.tree.Graded.+free.Given as goal

abbrev pub decreases-free : goal.decreases-free
decreases-free l = goal.size-free l

-- what is left is no deeper than the tree
abbrev pub invariant-loop-tree : goal.invariant-loop-tree
invariant-loop-tree l = size-Graded l.tree ≤ size-Graded l.fn.tree
