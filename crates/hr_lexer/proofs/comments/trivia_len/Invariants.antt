use Rattle.std.proofs.Common.{◌≡◌, ◌+◌, ◌-◌, ◌≤◌, length}
use Rattle.hr_lexer.specs.TriviaReader.{trivia_len}
use Rattle.hr_lexer.proofs.comments.trivia_len.Given as goal

abbrev pub invariant-loop-len : goal.invariant-loop-len
invariant-loop-len l = record {
  left : length l.rest ≤ length l.text;
  same : trivia_len l.rest + (length l.text - length l.rest) ≡ trivia_len l.text;
}

abbrev pub decreases-loop-len : goal.decreases-loop-len
decreases-loop-len l = length l.rest
