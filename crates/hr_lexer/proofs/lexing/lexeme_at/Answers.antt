-- A digit begins a number, so something is read there.
use Rattle.std.proofs.Common.{◌≡◌, true, sym, ap, ◌∙◌}
use Rattle.hr_rules.specs.Numbers.{is_decimal}
use Rattle.hr_rules.specs.Runs.{begins}
use Rattle.hr_rules.proofs.Digits.{digit_decimal}
use Rattle.hr_lexer.proofs.lexing.lexeme_at.Goals as goal

pub returns-in-Digit-clause-some : goal.returns-in-Digit-clause-some
returns-in-Digit-clause-some c =
    let first : is_decimal c.in_ok-first.first.now ≡ true = digit_decimal c.in_ok-first.first.now (sym c.kind_of.ensures ∙ c.in-Digit.is) in
    c.number_at.ensures.some (ap (begins is_decimal) c.in_ok-first.ensures.cases.0 ∙ first)
