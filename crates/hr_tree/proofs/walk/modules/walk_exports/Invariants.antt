-- What is behind the exports that are left is what is behind all.
use Rattle.std.proofs.Common.{◌≡◌, fold, drop}
use Rattle.std.specs.List.{flat_map}
use Rattle.hr_tree.specs.Lists.{listed_items}
use Rattle.hr_tree.specs.Yields.{export_items}
use Rattle.hr_tree.proofs.walk.modules.walk_exports.Given as goal

abbrev pub invariant-loop-export : goal.invariant-loop-export
invariant-loop-export g l = fold g.V.Visitor.behind l.visitor (flat_map (listed_items export_items) (drop l.export-index l.exports)) ≡ fold g.V.Visitor.behind l.initial.visitor (flat_map (listed_items export_items) l.exports)
