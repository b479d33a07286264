use Rattle.hr_rules.proofs.Reading.{readings_join_lem}
use Rattle.hr_rules.proofs.laws.readings_join.Goals as goal

pub returns : goal.returns
returns c = readings_join_lem
