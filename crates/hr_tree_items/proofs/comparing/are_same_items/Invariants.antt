use Rattle.std.proofs.Common.{◌≡◌, drop}
use Rattle.hr_tree_items.specs.Same.{same_items}
use Rattle.hr_tree_items.proofs.comparing.are_same_items.Given as goal

abbrev pub invariant-loop-item : goal.invariant-loop-item
invariant-loop-item l = same_items (drop l.item-index l.left) l.rest ≡ same_items l.left l.right
