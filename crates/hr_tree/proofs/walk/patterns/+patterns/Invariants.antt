-- What is behind the parts that are left is what is behind all.
use Rattle.std.proofs.Common.{◌≡◌, fold, drop}
use Rattle.std.specs.List.{flat_map}
use Rattle.hr_tree.specs.Lists.{listed_items, operand_items, field_items}
use Rattle.hr_tree.specs.Yields.{pat_items}
use Rattle.hr_tree.proofs.walk.patterns.+patterns.Given as goal

abbrev pub invariant-walk_pats-loop-pat : goal.invariant-walk_pats-loop-pat
invariant-walk_pats-loop-pat g l = fold g.V.Visitor.behind l.visitor (flat_map pat_items (drop l.pat-index l.pats)) ≡ fold g.V.Visitor.behind l.initial.visitor (flat_map pat_items l.pats)

abbrev pub invariant-walk_list-loop-part : goal.invariant-walk_list-loop-part
invariant-walk_list-loop-part g l = fold g.V.Visitor.behind l.visitor (flat_map (listed_items pat_items) (drop l.part-index l.parts)) ≡ fold g.V.Visitor.behind l.initial.visitor (flat_map (listed_items pat_items) l.parts)

abbrev pub invariant-walk_operands-loop-operand : goal.invariant-walk_operands-loop-operand
invariant-walk_operands-loop-operand g l = fold g.V.Visitor.behind l.visitor (flat_map (operand_items pat_items) (drop l.operand-index l.operands)) ≡ fold g.V.Visitor.behind l.initial.visitor (flat_map (operand_items pat_items) l.operands)

abbrev pub invariant-walk_fields-loop-field : goal.invariant-walk_fields-loop-field
invariant-walk_fields-loop-field g l = fold g.V.Visitor.behind l.visitor (flat_map (listed_items (field_items pat_items)) (drop l.field-index l.fields)) ≡ fold g.V.Visitor.behind l.initial.visitor (flat_map (listed_items (field_items pat_items)) l.fields)
