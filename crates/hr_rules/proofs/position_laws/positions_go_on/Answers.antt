use Rattle.hr_rules.proofs.GoOn.{positions_from-append}
use Rattle.hr_rules.proofs.position_laws.positions_go_on.Goals as goal

pub returns : goal.returns
returns c = positions_from-append
