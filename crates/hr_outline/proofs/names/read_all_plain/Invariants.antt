-- What is behind the parts that are left is what is behind all.
use Rattle.std.proofs.Common.{◌≡◌, fold, drop}
use Rattle.hr_scope_rules.specs.Events.{after, plain_events}
use Rattle.hr_outline.specs.Seen.{seen}
use Rattle.hr_outline.proofs.names.read_all_plain.Given as goal

abbrev pub invariant-loop-item : goal.invariant-loop-item
invariant-loop-item l = fold after (seen l.out) (plain_events (drop l.item-index l.items)) ≡ fold after (seen l.initial.out) (plain_events l.items)
