use Rattle.hr_grammar.proofs.Joins.{parts_stand_lem}
use Rattle.hr_grammar.proofs.laws.parts_stand.Goals as goal

pub returns : goal.returns
returns c = parts_stand_lem
