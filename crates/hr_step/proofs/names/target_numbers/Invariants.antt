use Rattle.std.proofs.Common.{◌≡◌, drop, replicate, None}
use Rattle.hr_step.specs.Names.{numbered_by}
use Rattle.hr_step.proofs.names.target_numbers.Given as goal

abbrev pub invariant-loop-number : goal.invariant-loop-number
invariant-loop-number l = numbered_by l.numbers.items l.number (drop l.number l.draft) ≡ numbered_by (replicate l.lexemes None) 0 l.draft
