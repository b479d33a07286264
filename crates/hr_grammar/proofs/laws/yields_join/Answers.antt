use Rattle.hr_grammar.proofs.Joins.{yields_join_lem}
use Rattle.hr_grammar.proofs.laws.yields_join.Goals as goal

pub returns : goal.returns
returns c = yields_join_lem
