-- What is behind the parts that are left is what is behind all.
use Rattle.std.proofs.Common.{◌≡◌, None, fold, drop}
use Rattle.std.specs.List.{flat_map}
use Rattle.std.specs.Option.{option_copied}
use Rattle.hr_scope_rules.specs.Events.{after}
use Rattle.hr_scope_rules.specs.Phrases.{listed_events, operand_events, field_events}
use Rattle.hr_scope_rules.specs.Outline.{exp_events, declared_of, qualified_of, alt_events, pieces_events, alternative_events, guarded_events, qualifiers_events}
use Rattle.hr_outline.specs.Seen.{seen}
use Rattle.hr_outline.proofs.expressions.+expressions.Given as goal

abbrev pub invariant-read_exps-loop-exp : goal.invariant-read_exps-loop-exp
invariant-read_exps-loop-exp l = fold after (seen l.out) (flat_map exp_events (drop l.exp-index l.exps)) ≡ fold after (seen l.initial.out) (flat_map exp_events l.exps)

abbrev pub invariant-read_list-loop-part : goal.invariant-read_list-loop-part
invariant-read_list-loop-part l = fold after (seen l.out) (flat_map (listed_events exp_events) (drop l.part-index l.parts)) ≡ fold after (seen l.initial.out) (flat_map (listed_events exp_events) l.parts)

abbrev pub invariant-read_operands-loop-operand : goal.invariant-read_operands-loop-operand
invariant-read_operands-loop-operand l = fold after (seen l.out) (flat_map (operand_events exp_events) (drop l.operand-index l.operands)) ≡ fold after (seen l.initial.out) (flat_map (operand_events exp_events) l.operands)

abbrev pub invariant-read_fields-loop-field : goal.invariant-read_fields-loop-field
invariant-read_fields-loop-field l = fold after (seen l.out) (flat_map (listed_events (field_events exp_events)) (drop l.field-index l.fields)) ≡ fold after (seen l.initial.out) (flat_map (listed_events (field_events exp_events)) l.fields)

abbrev pub invariant-read_qualifiers-loop-index : goal.invariant-read_qualifiers-loop-index
invariant-read_qualifiers-loop-index l = fold after (seen l.out) (qualifiers_events qualified_of l.index (drop l.index l.qualifiers)) ≡ fold after (seen l.initial.out) (qualifiers_events qualified_of 0 l.qualifiers)

abbrev pub invariant-read_block-loop-piece : goal.invariant-read_block-loop-piece
invariant-read_block-loop-piece l = fold after (seen l.out) (pieces_events declared_of (option_copied l.before) (drop l.piece-index l.piece-items)) ≡ fold after (seen l.initial.out) (pieces_events declared_of None l.piece-items)

abbrev pub invariant-read_where-loop-piece : goal.invariant-read_where-loop-piece
invariant-read_where-loop-piece l = fold after (seen l.out) (pieces_events declared_of (option_copied l.before) (drop l.piece-index l.piece-items)) ≡ fold after (seen l.initial.out) (pieces_events declared_of None l.piece-items)

abbrev pub invariant-read_body-loop-guarded : goal.invariant-read_body-loop-guarded
invariant-read_body-loop-guarded l = fold after (seen l.out) (flat_map (guarded_events exp_events) (drop l.guarded-index l.guarded-items)) ≡ fold after (seen l.initial.out) (flat_map (guarded_events exp_events) l.guarded-items)

abbrev pub invariant-read_alternatives-loop-piece : goal.invariant-read_alternatives-loop-piece
invariant-read_alternatives-loop-piece l = fold after (seen l.out) (flat_map (alternative_events alt_events) (drop l.piece-index l.piece-items)) ≡ fold after (seen l.initial.out) (flat_map (alternative_events alt_events) l.piece-items)
