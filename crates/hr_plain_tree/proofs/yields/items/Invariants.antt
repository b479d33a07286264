-- What is there, and what the equations that are left yield, is the whole.
use Rattle.std.proofs.Common.{◌≡◌, ◌++◌, drop}
use Rattle.std.specs.List.{flat_map}
use Rattle.hr_plain_tree.specs.Yields.{equation_items}
use Rattle.hr_plain_tree.proofs.yields.items.Given as goal

abbrev pub invariant-loop-equation : goal.invariant-loop-equation
invariant-loop-equation l = l.list.items ++ flat_map equation_items (drop l.equation-index l.equation-items) ≡ flat_map equation_items l.equation-items
