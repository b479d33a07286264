use Rattle.std.proofs.Common.{◌≡◌, drop}
use Rattle.hr_plain.specs.Form as spec
use Rattle.hr_plain.proofs.trivia.is_plain_trivia.Given as goal

-- what is left is plain where the whole is
abbrev pub invariant-loop-b : goal.invariant-loop-b
invariant-loop-b l = spec.is_plain_trivia_where l.inside (drop l.b-index l.trivia) ≡ spec.is_plain_trivia l.trivia
