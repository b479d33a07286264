use Rattle.hr_parse_pattern.specs.Patterns.{ReadsSigned}
use Rattle.hr_parse_pattern.proofs.Behind.{further}
use Rattle.hr_parse_pattern.proofs.Openings.{at_signed}
use Rattle.hr_parse_pattern.proofs.brackets.behind_minus.Goals as goal

pub returns-in-Variable-clause-reads : goal.returns-in-Variable-clause-reads
returns-in-Variable-clause-reads c = further _ _ _ _ _ c.variable.ensures.reads (λ before h. at_signed before c.minus_in_parenthesis.new.cursor c.in-Variable.is (c.in_ok-bound.ensures before h)) (λ start before h. h)

pub returns-in_ok-number-in-Number-clause-reads : goal.returns-in_ok-number-in-Number-clause-reads
returns-in_ok-number-in-Number-clause-reads c =
    λ before h. (
      (at_signed before c.minus_in_parenthesis.new.cursor c.in-Number.is (c.in_ok-bound.ensures before h)).0,
      (at_signed before c.minus_in_parenthesis.new.cursor c.in-Number.is (c.in_ok-bound.ensures before h)).1,
      c.in_ok-number-in-Number.ensures.reads _ (at_signed before c.minus_in_parenthesis.new.cursor c.in-Number.is (c.in_ok-bound.ensures before h)).2,
    )
