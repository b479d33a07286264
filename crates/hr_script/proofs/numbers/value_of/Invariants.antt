use Rattle.std.proofs.Common.{◌≡◌, ◌≤◌, ◌+◌, ◌-◌, ◌*◌, fold, drop}
use Rattle.hr_script.specs.Numbers.{decimal_value}
use Rattle.hr_script.proofs.numbers.value_of.Given as goal

-- going on from the value so far gives the whole value
abbrev pub invariant-loop-digit : goal.invariant-loop-digit
invariant-loop-digit l = (l.value ≤ 4294967295) × (fold (λ n c. n * 10 + (c - 48)) l.value (drop l.digit-index l.digits) ≡ decimal_value l.digits)
