-- What is behind the parentheses that are left is what is behind all.
use Rattle.std.proofs.Common.{◌≡◌, fold, drop}
use Rattle.std.specs.List.{flat_map}
use Rattle.hr_tree.specs.Yields.{closed_items}
use Rattle.hr_tree.proofs.walk.declarations.walk_closes.Given as goal

abbrev pub invariant-loop-closed : goal.invariant-loop-closed
invariant-loop-closed g l = fold g.V.Visitor.behind l.visitor (flat_map closed_items (drop l.closed-index l.closes)) ≡ fold g.V.Visitor.behind l.initial.visitor (flat_map closed_items l.closes)
