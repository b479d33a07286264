-- What is there, and the patterns that are left, is the whole.
use Rattle.std.proofs.Common.{◌≡◌, ◌++◌, drop}
use Rattle.hr_plain_tree.proofs.yields.push_equation.Given as goal

abbrev pub invariant-loop-pattern : goal.invariant-loop-pattern
invariant-loop-pattern l = l.list.items ++ drop l.pattern-index l.pattern-items ≡ l.initial.list.items ++ l.pattern-items
