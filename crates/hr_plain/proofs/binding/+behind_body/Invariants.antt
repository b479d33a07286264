use Rattle.std.proofs.Common.{◌≡◌, ◌+◌, length, drop}
use Rattle.std.specs.List.{flat_map}
use Rattle.hr_plain_tree.specs.Yields.{yield_of}
use Rattle.hr_plain.proofs.binding.+behind_body.Given as goal

-- the lexemes of the atoms that have been passed are no longer counted
abbrev pub invariant-loop-atom : goal.invariant-loop-atom
invariant-loop-atom l = l.left + length (flat_map yield_of l.atom-items) ≡ l.fn.lexemes + length (flat_map yield_of (drop l.atom-index l.atom-items))
