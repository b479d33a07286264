use Rattle.hr_rules.proofs.Stops.{stopped_has_none_lem}
use Rattle.hr_rules.proofs.laws.stopped_has_none.Goals as goal

pub returns : goal.returns
returns c = stopped_has_none_lem
