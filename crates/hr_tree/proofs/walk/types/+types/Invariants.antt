-- What is behind the parts that are left is what is behind all.
use Rattle.std.proofs.Common.{◌≡◌, fold, drop}
use Rattle.std.specs.List.{flat_map}
use Rattle.hr_tree.specs.Lists.{listed_items}
use Rattle.hr_tree.specs.Yields.{ty_items}
use Rattle.hr_tree.proofs.walk.types.+types.Given as goal

abbrev pub invariant-walk_tys-loop-ty : goal.invariant-walk_tys-loop-ty
invariant-walk_tys-loop-ty g l = fold g.V.Visitor.behind l.visitor (flat_map ty_items (drop l.ty-index l.tys)) ≡ fold g.V.Visitor.behind l.initial.visitor (flat_map ty_items l.tys)

abbrev pub invariant-walk_listed-loop-part : goal.invariant-walk_listed-loop-part
invariant-walk_listed-loop-part g l = fold g.V.Visitor.behind l.visitor (flat_map (listed_items ty_items) (drop l.part-index l.parts)) ≡ fold g.V.Visitor.behind l.initial.visitor (flat_map (listed_items ty_items) l.parts)
