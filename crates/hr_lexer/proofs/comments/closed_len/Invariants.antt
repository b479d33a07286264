use Rattle.std.proofs.Common.{◌≡◌, ◌+◌, ◌-◌, ◌≤◌, false, length}
use Rattle.std.specs.Option.{option_map}
use Rattle.hr_rules.specs.Comments.{closed_len}
use Rattle.hr_lexer.proofs.comments.closed_len.Given as goal

-- what is left has as many characters less as were read, and its answer more by these is the whole one's
abbrev pub invariant-loop-rest : goal.invariant-loop-rest
invariant-loop-rest l = record {
  left : length l.rest ≤ length l.text;
  shallow : l.depth + length l.rest ≤ length l.text;
  same : option_map (λ n. n + (length l.text - length l.rest)) (closed_len false l.depth l.rest) ≡ closed_len false 0 l.text;
}

abbrev pub decreases-loop-rest : goal.decreases-loop-rest
decreases-loop-rest l = length l.rest
