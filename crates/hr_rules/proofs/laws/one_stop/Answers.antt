use Rattle.hr_rules.proofs.Stops.{one_stop_lem}
use Rattle.hr_rules.proofs.laws.one_stop.Goals as goal

pub returns : goal.returns
returns c = one_stop_lem
