-- What is behind the parts that are left is what is behind all.
use Rattle.std.proofs.Common.{◌≡◌, fold, drop}
use Rattle.std.specs.List.{flat_map}
use Rattle.hr_scope_rules.specs.Events.{after}
use Rattle.hr_scope_rules.specs.Phrases.{listed_events, ty_events}
use Rattle.hr_outline.specs.Seen.{seen}
use Rattle.hr_outline.proofs.types.+types.Given as goal

abbrev pub invariant-read_types-loop-ty : goal.invariant-read_types-loop-ty
invariant-read_types-loop-ty l = fold after (seen l.out) (flat_map ty_events (drop l.ty-index l.types)) ≡ fold after (seen l.initial.out) (flat_map ty_events l.types)

abbrev pub invariant-read_list-loop-part : goal.invariant-read_list-loop-part
invariant-read_list-loop-part l = fold after (seen l.out) (flat_map (listed_events ty_events) (drop l.part-index l.parts)) ≡ fold after (seen l.initial.out) (flat_map (listed_events ty_events) l.parts)
