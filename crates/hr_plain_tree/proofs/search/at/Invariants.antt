-- The search behind the equations that are left is that behind all equations.
use Rattle.std.proofs.Common.{◌≡◌, drop}
use Rattle.std.specs.List.{flat_map}
use Rattle.hr_plain_tree.specs.Search.{passed}
use Rattle.hr_plain_tree.specs.Yields.{equation_items}
use Rattle.hr_plain_tree.proofs.search.at.Given as goal

abbrev pub invariant-loop-equation : goal.invariant-loop-equation
invariant-loop-equation l = passed l.search (flat_map equation_items (drop l.equation-index l.equation-items)) ≡ passed l.initial.search (flat_map equation_items l.equation-items)
