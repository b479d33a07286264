use Rattle.hr_grammar.proofs.PartFirsts.{declarations_begin_lem}
use Rattle.hr_grammar.proofs.laws.declarations_begin.Goals as goal

pub returns : goal.returns
returns c = declarations_begin_lem
