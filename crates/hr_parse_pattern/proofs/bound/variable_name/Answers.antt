use Rattle.std.proofs.Common.{refl}
use Rattle.hr_parse_pattern.proofs.Names.{one_lexeme, same_name}
use Rattle.hr_parse_pattern.proofs.bound.variable_name.Goals as goal

pub returns : goal.returns
returns c = same_name c.new.ensures (one_lexeme refl c.in_ok-name.ensures.is c.in_ok-name.ensures)
