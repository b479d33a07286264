use Rattle.std.proofs.Common.{◌≡◌, ◌≤◌, drop}
use Rattle.hr_step.specs.Trivia.{front_from}
use Rattle.hr_step.proofs.trivia.front_len.Given as goal

abbrev pub invariant-loop-place : goal.invariant-loop-place
invariant-loop-place l = (front_from l.front l.place (drop l.place l.bytes) ≡ front_from 0 0 l.bytes) × (l.front ≤ l.place)
