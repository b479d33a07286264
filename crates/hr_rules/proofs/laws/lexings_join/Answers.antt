use Rattle.hr_rules.proofs.Lexing.{lexings_join_lem}
use Rattle.hr_rules.proofs.laws.lexings_join.Goals as goal

pub returns : goal.returns
returns c = lexings_join_lem
