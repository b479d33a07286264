use Rattle.std.proofs.Common.{◌≡◌, drop}
use Rattle.hr_step.specs.Trivia.{are_blanks}
use Rattle.hr_step.proofs.trivia.are_blanks.Given as goal

abbrev pub invariant-loop-byte : goal.invariant-loop-byte
invariant-loop-byte l = are_blanks (drop l.byte-index l.bytes) ≡ are_blanks l.bytes
