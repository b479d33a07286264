-- The search behind the atoms that are left is that behind all atoms.
use Rattle.std.proofs.Common.{◌≡◌, drop}
use Rattle.std.specs.List.{flat_map}
use Rattle.hr_plain_tree.specs.Search.{passed}
use Rattle.hr_plain_tree.specs.Yields.{yield_of}
use Rattle.hr_plain_tree.proofs.search.+behind_exp.Given as goal

abbrev pub invariant-loop-atom : goal.invariant-loop-atom
invariant-loop-atom l = passed l.search (flat_map yield_of (drop l.atom-index l.atom-items)) ≡ passed l.initial.search (flat_map yield_of l.atom-items)
