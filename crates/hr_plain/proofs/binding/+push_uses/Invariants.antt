use Rattle.std.proofs.Common.{◌≡◌, ◌++◌, ◌&&◌, drop, map}
use Rattle.std.specs.List.{flat_map}
use Rattle.hr_plain_tree.specs.Yields.{yield_of}
use Rattle.hr_plain.specs.Scoping as spec
use Rattle.hr_plain.proofs.binding.+push_uses.Given as goal

-- what is there, and the marks of the atoms that are left, is the whole
abbrev pub invariant-loop-atom : goal.invariant-loop-atom
invariant-loop-atom l =
    l.marks.items ++ flat_map (λ e. map (λ item. l.are_sought && spec.is_named l.text item) (yield_of e)) (drop l.atom-index l.atom-items)
    ≡ l.initial.marks.items ++ flat_map (λ e. map (λ item. l.are_sought && spec.is_named l.text item) (yield_of e)) l.atom-items
