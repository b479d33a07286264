use Rattle.hr_grammar.proofs.LeftOut.{left_out_lem}
use Rattle.hr_grammar.proofs.laws.left_out_stands_nowhere.Goals as goal

pub returns : goal.returns
returns c = left_out_lem
