use Rattle.std.proofs.Common.{◌≡◌, ◌++◌, drop, map, Some}
use Rattle.hr_rename.specs.Edits.{respelled_at}
use Rattle.hr_rename.proofs.edits.edits_of.Given as goal

abbrev pub invariant-loop-spot : goal.invariant-loop-spot
invariant-loop-spot l =
    map (λ edit. Some edit) l.edits.items ++ map (respelled_at l.lists.items l.new) (drop l.spot-index l.spot-items)
    ≡ map (respelled_at l.lists.items l.new) l.spot-items
