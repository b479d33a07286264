use Rattle.hr_grammar.proofs.Firsts.{types_begin_lem}
use Rattle.hr_grammar.proofs.laws.types_begin.Goals as goal

pub returns : goal.returns
returns c = types_begin_lem
