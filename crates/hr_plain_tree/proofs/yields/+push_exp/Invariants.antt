-- What is there, and what the atoms that are left yield, is the whole.
use Rattle.std.proofs.Common.{◌≡◌, ◌++◌, drop}
use Rattle.std.specs.List.{flat_map}
use Rattle.hr_plain_tree.specs.Yields.{yield_of}
use Rattle.hr_plain_tree.proofs.yields.+push_exp.Given as goal

abbrev pub invariant-loop-atom : goal.invariant-loop-atom
invariant-loop-atom l = l.list.items ++ flat_map yield_of (drop l.atom-index l.atom-items) ≡ l.initial.list.items ++ flat_map yield_of l.atom-items
