-- What is behind the parts that are left is what is behind all.
use Rattle.std.proofs.Common.{◌≡◌, fold, drop}
use Rattle.std.specs.List.{flat_map}
use Rattle.hr_scope_rules.specs.Phrases.{listed_events, operator_events}
use Rattle.hr_scope_rules.specs.Events.{after}
use Rattle.hr_outline.specs.Seen.{seen}
use Rattle.hr_outline.proofs.names.read_operators.Given as goal

abbrev pub invariant-loop-listed : goal.invariant-loop-listed
invariant-loop-listed l = fold after (seen l.out) (flat_map (listed_events (operator_events l.naming)) (drop l.listed-index l.list)) ≡ fold after (seen l.initial.out) (flat_map (listed_events (operator_events l.naming)) l.list)
