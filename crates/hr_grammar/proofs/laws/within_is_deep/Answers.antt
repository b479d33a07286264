use Rattle.hr_grammar.proofs.Deep.{within_is_deep_lem}
use Rattle.hr_grammar.proofs.laws.within_is_deep.Goals as goal

pub returns : goal.returns
returns c = within_is_deep_lem
