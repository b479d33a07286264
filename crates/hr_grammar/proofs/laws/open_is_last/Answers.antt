use Rattle.hr_grammar.proofs.Places.{open_is_last_lem}
use Rattle.hr_grammar.proofs.laws.open_is_last.Goals as goal

pub returns : goal.returns
returns c = open_is_last_lem
