-- What is behind the names that are left is what is behind all.
use Rattle.std.proofs.Common.{◌≡◌, fold, drop}
use Rattle.std.specs.List.{flat_map}
use Rattle.hr_tree.specs.Lists.{listed_items}
use Rattle.hr_tree.specs.Yields.{imported_items}
use Rattle.hr_tree.proofs.walk.modules.walk_imported.Given as goal

abbrev pub invariant-loop-imported : goal.invariant-loop-imported
invariant-loop-imported g l = fold g.V.Visitor.behind l.visitor (flat_map (listed_items imported_items) (drop l.imported-index l.list)) ≡ fold g.V.Visitor.behind l.initial.visitor (flat_map (listed_items imported_items) l.list)
