-- What is behind the parts that are left is what is behind all.
use Rattle.std.proofs.Common.{◌≡◌, fold, drop, map}
use Rattle.hr_scope_rules.specs.Events.{after, Event}
use Rattle.hr_scope_rules.specs.declared.naming.Naming.{Naming}
use Rattle.hr_outline.specs.Seen.{seen}
use Rattle.hr_outline.proofs.declarations.read_parameters.Given as goal

abbrev pub invariant-loop-item : goal.invariant-loop-item
invariant-loop-item l = fold after (seen l.out) (map (Event.Lexeme Naming.Parameter) (drop l.item-index l.items)) ≡ fold after (seen l.initial.out) (map (Event.Lexeme Naming.Parameter) l.items)
