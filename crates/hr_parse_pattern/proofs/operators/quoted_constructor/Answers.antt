use Rattle.std.proofs.Common.{refl}
use Rattle.hr_parse_pattern.proofs.Names.{three_lexemes}
use Rattle.hr_parse_pattern.proofs.operators.quoted_constructor.Goals as goal

pub returns : goal.returns
returns c = λ before h. three_lexemes refl (h.is, (c.in_ok-name.ensures.is, c.in_ok-right.ensures.is)) h c.in_ok-name.ensures c.in_ok-right.ensures
