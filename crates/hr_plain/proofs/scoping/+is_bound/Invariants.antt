use Rattle.std.proofs.Common.{◌≡◌, drop}
use Rattle.std.specs.List.{flat_map, list_all}
use Rattle.hr_plain_tree.specs.Yields.{yield_of}
use Rattle.hr_plain.specs.Sets.{is_bound_in}
use Rattle.hr_plain.proofs.scoping.+is_bound.Given as goal

-- the names in all atoms are bound where those in the ones that are left are
abbrev pub invariant-loop-atom : goal.invariant-loop-atom
invariant-loop-atom l =
    list_all (is_bound_in l.variables l.top) (flat_map yield_of (drop l.atom-index l.atom-items)) ≡ list_all (is_bound_in l.variables l.top) (flat_map yield_of l.atom-items)
