-- What is behind the parts that are left is what is behind all.
use Rattle.std.proofs.Common.{◌≡◌, fold, drop}
use Rattle.std.specs.List.{flat_map}
use Rattle.hr_tree.specs.Lists.{listed_items, operand_items, field_items, piece_items, guarded_items}
use Rattle.hr_tree.specs.Yields.{exp_items, qualifier_items, decl_items, alt_items}
use Rattle.hr_tree.proofs.walk.expressions.+expressions.Given as goal

abbrev pub invariant-walk_exps-loop-exp : goal.invariant-walk_exps-loop-exp
invariant-walk_exps-loop-exp g l = fold g.V.Visitor.behind l.visitor (flat_map exp_items (drop l.exp-index l.exps)) ≡ fold g.V.Visitor.behind l.initial.visitor (flat_map exp_items l.exps)

abbrev pub invariant-walk_list-loop-part : goal.invariant-walk_list-loop-part
invariant-walk_list-loop-part g l = fold g.V.Visitor.behind l.visitor (flat_map (listed_items exp_items) (drop l.part-index l.parts)) ≡ fold g.V.Visitor.behind l.initial.visitor (flat_map (listed_items exp_items) l.parts)

abbrev pub invariant-walk_operands-loop-operand : goal.invariant-walk_operands-loop-operand
invariant-walk_operands-loop-operand g l = fold g.V.Visitor.behind l.visitor (flat_map (operand_items exp_items) (drop l.operand-index l.operands)) ≡ fold g.V.Visitor.behind l.initial.visitor (flat_map (operand_items exp_items) l.operands)

abbrev pub invariant-walk_fields-loop-field : goal.invariant-walk_fields-loop-field
invariant-walk_fields-loop-field g l = fold g.V.Visitor.behind l.visitor (flat_map (listed_items (field_items exp_items)) (drop l.field-index l.fields)) ≡ fold g.V.Visitor.behind l.initial.visitor (flat_map (listed_items (field_items exp_items)) l.fields)

abbrev pub invariant-walk_qualifiers-loop-qualifier : goal.invariant-walk_qualifiers-loop-qualifier
invariant-walk_qualifiers-loop-qualifier g l = fold g.V.Visitor.behind l.visitor (flat_map (listed_items qualifier_items) (drop l.qualifier-index l.qualifiers)) ≡ fold g.V.Visitor.behind l.initial.visitor (flat_map (listed_items qualifier_items) l.qualifiers)

abbrev pub invariant-walk_decls-loop-piece : goal.invariant-walk_decls-loop-piece
invariant-walk_decls-loop-piece g l = fold g.V.Visitor.behind l.visitor (flat_map (piece_items decl_items) (drop l.piece-index l.piece-items)) ≡ fold g.V.Visitor.behind l.initial.visitor (flat_map (piece_items decl_items) l.piece-items)

abbrev pub invariant-walk_alts_behind-loop-piece : goal.invariant-walk_alts_behind-loop-piece
invariant-walk_alts_behind-loop-piece g l = fold g.V.Visitor.behind l.visitor (flat_map (piece_items alt_items) (drop l.piece-index l.piece-items)) ≡ fold g.V.Visitor.behind l.initial.visitor (flat_map (piece_items alt_items) l.piece-items)

abbrev pub invariant-walk_body-loop-guarded : goal.invariant-walk_body-loop-guarded
invariant-walk_body-loop-guarded g l = fold g.V.Visitor.behind l.visitor (flat_map (guarded_items exp_items) (drop l.guarded-index l.guarded-items)) ≡ fold g.V.Visitor.behind l.initial.visitor (flat_map (guarded_items exp_items) l.guarded-items)

abbrev pub invariant-walk_where-loop-piece : goal.invariant-walk_where-loop-piece
invariant-walk_where-loop-piece g l = fold g.V.Visitor.behind l.visitor (flat_map (piece_items decl_items) (drop l.piece-index l.piece-items)) ≡ fold g.V.Visitor.behind l.initial.visitor (flat_map (piece_items decl_items) l.piece-items)
