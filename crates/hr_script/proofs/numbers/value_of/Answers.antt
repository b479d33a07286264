use Rattle.std.proofs.Common.{◌∙◌, ap, ◌+◌, ◌*◌}
use Rattle.hr_script.proofs.Values.{too_large}
use Rattle.hr_script.specs.Numbers.{decimal_value}
use Rattle.hr_script.proofs.numbers.value_of.Goals as goal

pub returns-then-value-gt-GREATEST : goal.returns-then-value-gt-GREATEST
unfolding decimal_value
returns-then-value-gt-GREATEST c =
    too_large c.loop-digit.value _ c.loop-digit.digit-index _ c.args.digits.now c.loop-digit-test.true (ap (λ x. c.loop-digit.value * 10 + x) (c.from.ensures ∙ c.saturating_sub.ensures)) c.if-value-gt-GREATEST.true c.loop-digit.invariant.1
