use Rattle.std.proofs.Common.{◌≡◌, ◌+◌, ◌-◌, ◌≤◌, length}
use Rattle.std.specs.Option.{option_map}
use Rattle.hr_rules.specs.Quotes.{string_len}
use Rattle.hr_lexer.proofs.quotes.string_len.Given as goal

abbrev pub invariant-loop-rest : goal.invariant-loop-rest
invariant-loop-rest l = record {
  left : length l.rest ≤ length l.text;
  same : option_map (λ n. n + (length l.text - length l.rest)) (string_len l.rest) ≡ string_len l.text;
}

abbrev pub decreases-loop-rest : goal.decreases-loop-rest
decreases-loop-rest l = length l.rest
