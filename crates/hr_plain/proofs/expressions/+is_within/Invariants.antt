use Rattle.std.proofs.Common.{◌≡◌, ◌-◌, nat_le, drop}
use Rattle.std.specs.List.{list_all}
use Rattle.hr_plain_tree.specs.Yields.{height_of}
use Rattle.hr_plain.proofs.expressions.+is_within.Given as goal

-- all atoms are within the limit where those that are left are
abbrev pub invariant-loop-atom : goal.invariant-loop-atom
invariant-loop-atom l =
    list_all (λ atom. nat_le (height_of atom) (l.limit - 1)) (drop l.atom-index l.atom-items) ≡ list_all (λ atom. nat_le (height_of atom) (l.limit - 1)) l.atom-items
