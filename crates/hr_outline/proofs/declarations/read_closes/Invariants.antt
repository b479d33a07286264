-- What is behind the parts that are left is what is behind all.
use Rattle.std.proofs.Common.{◌≡◌, fold, drop}
use Rattle.std.specs.List.{flat_map}
use Rattle.hr_scope_rules.specs.Events.{after}
use Rattle.hr_scope_rules.specs.Outline.{closed_events}
use Rattle.hr_outline.specs.Seen.{seen}
use Rattle.hr_outline.proofs.declarations.read_closes.Given as goal

abbrev pub invariant-loop-closed : goal.invariant-loop-closed
invariant-loop-closed l = fold after (seen l.out) (flat_map closed_events (drop l.closed-index l.closes)) ≡ fold after (seen l.initial.out) (flat_map closed_events l.closes)
