-- The search behind the patterns that are left is that behind all patterns.
use Rattle.std.proofs.Common.{◌≡◌, drop}
use Rattle.hr_plain_tree.specs.Search.{passed}
use Rattle.hr_plain_tree.proofs.search.behind_equation.Given as goal

abbrev pub invariant-loop-pattern : goal.invariant-loop-pattern
invariant-loop-pattern l = passed l.search (drop l.pattern-index l.pattern-items) ≡ passed l.initial.search l.pattern-items
