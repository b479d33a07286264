use Rattle.hr_grammar.proofs.Firsts.{expressions_begin_lem}
use Rattle.hr_grammar.proofs.laws.expressions_begin.Goals as goal

pub returns : goal.returns
returns c = expressions_begin_lem
