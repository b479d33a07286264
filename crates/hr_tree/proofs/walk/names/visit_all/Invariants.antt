-- What is behind the items that are left is what is behind all.
use Rattle.std.proofs.Common.{◌≡◌, fold, drop}
use Rattle.hr_tree.proofs.walk.names.visit_all.Given as goal

abbrev pub invariant-loop-item : goal.invariant-loop-item
invariant-loop-item g l = fold g.V.Visitor.behind l.visitor (drop l.item-index l.items) ≡ fold g.V.Visitor.behind l.initial.visitor l.items
