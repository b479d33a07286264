-- What is behind the parts that are left is what is behind all.
use Rattle.std.proofs.Common.{◌≡◌, fold, drop}
use Rattle.hr_scope_rules.specs.Events.{after}
use Rattle.hr_scope_rules.specs.Outline.{all_entered, qualified_of}
use Rattle.hr_outline.specs.Seen.{seen}
use Rattle.hr_outline.proofs.regions.enter_all.Given as goal

abbrev pub invariant-loop-index : goal.invariant-loop-index
invariant-loop-index l = fold after (seen l.out) (all_entered qualified_of l.index (drop l.index l.qualifiers)) ≡ fold after (seen l.initial.out) (all_entered qualified_of 0 l.qualifiers)
