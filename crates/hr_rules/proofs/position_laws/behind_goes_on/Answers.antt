use Rattle.hr_rules.proofs.GoOn.{behind-append}
use Rattle.hr_rules.proofs.position_laws.behind_goes_on.Goals as goal

pub returns : goal.returns
returns c = behind-append
