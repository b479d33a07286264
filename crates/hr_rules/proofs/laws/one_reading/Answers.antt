use Rattle.hr_rules.proofs.Reading.{one_reading_lem}
use Rattle.hr_rules.proofs.laws.one_reading.Goals as goal

pub returns : goal.returns
returns c = one_reading_lem
