-- What is behind the fields that are left is what is behind all.
use Rattle.std.proofs.Common.{◌≡◌, fold, drop}
use Rattle.std.specs.List.{flat_map}
use Rattle.hr_tree.specs.Lists.{listed_items}
use Rattle.hr_tree.specs.Yields.{field_type_items}
use Rattle.hr_tree.proofs.walk.declarations.walk_field_types.Given as goal

abbrev pub invariant-loop-field : goal.invariant-loop-field
invariant-loop-field g l = fold g.V.Visitor.behind l.visitor (flat_map (listed_items field_type_items) (drop l.field-index l.fields)) ≡ fold g.V.Visitor.behind l.initial.visitor (flat_map (listed_items field_type_items) l.fields)
