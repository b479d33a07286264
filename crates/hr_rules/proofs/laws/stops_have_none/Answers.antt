use Rattle.hr_rules.proofs.Stops.{stops_have_none_lem}
use Rattle.hr_rules.proofs.laws.stops_have_none.Goals as goal

pub returns : goal.returns
returns c = stops_have_none_lem
