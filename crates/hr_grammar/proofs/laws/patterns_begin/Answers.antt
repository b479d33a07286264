use Rattle.hr_grammar.proofs.Firsts.{patterns_begin_lem}
use Rattle.hr_grammar.proofs.laws.patterns_begin.Goals as goal

pub returns : goal.returns
returns c = patterns_begin_lem
