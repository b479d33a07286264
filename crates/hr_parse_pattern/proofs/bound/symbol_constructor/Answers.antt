use Rattle.std.proofs.Common.{refl}
use Rattle.hr_parse_pattern.proofs.Names.{same_name, three_lexemes}
use Rattle.hr_parse_pattern.proofs.bound.symbol_constructor.Goals as goal

pub returns : goal.returns
returns c = λ before h. same_name c.new.ensures (three_lexemes refl (h.is, (c.in_ok-symbol.ensures.is, c.in_ok-right.ensures.is)) h c.in_ok-symbol.ensures c.in_ok-right.ensures)
