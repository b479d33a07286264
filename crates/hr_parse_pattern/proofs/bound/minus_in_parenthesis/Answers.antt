use Rattle.std.proofs.Common.{refl}
use Rattle.hr_parse_lexeme.proofs.Phrases.{takes_stay}
use Rattle.hr_parse_pattern.proofs.Names.{same_name, three_lexemes}
use Rattle.hr_parse_pattern.proofs.bound.minus_in_parenthesis.Goals as goal

pub returns-in-Some : goal.returns-in-Some
returns-in-Some c = λ before h. same_name c.new.ensures (three_lexemes refl (h.is, (c.in_ok-minus.ensures.is.0, c.in-Some.ensures.is)) h c.in_ok-minus.ensures c.in-Some.ensures)

pub returns-in-None : goal.returns-in-None
returns-in-None c = λ before h. (_, h, takes_stay c.in-None.ensures c.in_ok-minus.ensures)
