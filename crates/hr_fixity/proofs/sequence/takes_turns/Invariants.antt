use Rattle.std.proofs.Common.{◌≡◌, drop}
use Rattle.hr_fixity.specs.Sequence.{take_turns}
use Rattle.hr_fixity.specs.declared.sequence.Awaited.TheVariants.{Term}
use Rattle.hr_fixity.proofs.sequence.takes_turns.Given as goal

abbrev pub invariant-loop-part : goal.invariant-loop-part
invariant-loop-part l = take_turns l.awaited (drop l.part-index l.parts) ≡ take_turns Term l.parts
