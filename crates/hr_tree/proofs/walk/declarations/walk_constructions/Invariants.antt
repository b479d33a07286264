-- What is behind the constructors that are left is what is behind all.
use Rattle.std.proofs.Common.{◌≡◌, fold, drop}
use Rattle.std.specs.List.{flat_map}
use Rattle.hr_tree.specs.Lists.{listed_items}
use Rattle.hr_tree.specs.Yields.{construction_items}
use Rattle.hr_tree.proofs.walk.declarations.walk_constructions.Given as goal

abbrev pub invariant-loop-construction : goal.invariant-loop-construction
invariant-loop-construction g l = fold g.V.Visitor.behind l.visitor (flat_map (listed_items construction_items) (drop l.construction-index l.constructions)) ≡ fold g.V.Visitor.behind l.initial.visitor (flat_map (listed_items construction_items) l.constructions)
