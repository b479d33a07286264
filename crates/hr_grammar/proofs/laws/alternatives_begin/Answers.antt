use Rattle.hr_grammar.proofs.PartFirsts.{alternatives_begin_lem}
use Rattle.hr_grammar.proofs.laws.alternatives_begin.Goals as goal

pub returns : goal.returns
returns c = alternatives_begin_lem
