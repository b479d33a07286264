use Rattle.std.proofs.Common.{◌≡◌, min, take}
use Rattle.hr_rules.specs.Numbers.{value_of}
use Rattle.hr_lexer.proofs.numbers.value_capped.Given as goal

abbrev pub invariant-loop-digit : goal.invariant-loop-digit
invariant-loop-digit l = l.value ≡ min 18446744073709551615 (value_of l.base (take l.digit-index l.digits))
