-- What is behind the parts that are left is what is behind all.
use Rattle.std.proofs.Common.{◌≡◌, fold, drop}
use Rattle.hr_scope_rules.specs.Events.{after}
use Rattle.hr_scope_rules.specs.Outline.{all_left, qualified_of}
use Rattle.hr_outline.specs.Seen.{seen}
use Rattle.hr_outline.proofs.regions.leave_all.Given as goal

abbrev pub invariant-loop-listed : goal.invariant-loop-listed
invariant-loop-listed l = fold after (seen l.out) (all_left qualified_of (drop l.listed-index l.qualifiers)) ≡ fold after (seen l.initial.out) (all_left qualified_of l.qualifiers)
