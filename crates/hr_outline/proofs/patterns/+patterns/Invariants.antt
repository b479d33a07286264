-- What is behind the parts that are left is what is behind all.
use Rattle.std.proofs.Common.{◌≡◌, fold, drop}
use Rattle.std.specs.List.{flat_map}
use Rattle.hr_scope_rules.specs.Events.{after}
use Rattle.hr_scope_rules.specs.Phrases.{listed_events, operand_events, field_events, pat_events}
use Rattle.hr_outline.specs.Seen.{seen}
use Rattle.hr_outline.proofs.patterns.+patterns.Given as goal

abbrev pub invariant-read_pats-loop-pat : goal.invariant-read_pats-loop-pat
invariant-read_pats-loop-pat l = fold after (seen l.out) (flat_map pat_events (drop l.pat-index l.pats)) ≡ fold after (seen l.initial.out) (flat_map pat_events l.pats)

abbrev pub invariant-read_list-loop-part : goal.invariant-read_list-loop-part
invariant-read_list-loop-part l = fold after (seen l.out) (flat_map (listed_events pat_events) (drop l.part-index l.parts)) ≡ fold after (seen l.initial.out) (flat_map (listed_events pat_events) l.parts)

abbrev pub invariant-read_operands-loop-operand : goal.invariant-read_operands-loop-operand
invariant-read_operands-loop-operand l = fold after (seen l.out) (flat_map (operand_events pat_events) (drop l.operand-index l.operands)) ≡ fold after (seen l.initial.out) (flat_map (operand_events pat_events) l.operands)

abbrev pub invariant-read_fields-loop-field : goal.invariant-read_fields-loop-field
invariant-read_fields-loop-field l = fold after (seen l.out) (flat_map (listed_events (field_events pat_events)) (drop l.field-index l.fields)) ≡ fold after (seen l.initial.out) (flat_map (listed_events (field_events pat_events)) l.fields)
