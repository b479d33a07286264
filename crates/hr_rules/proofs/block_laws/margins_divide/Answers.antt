use Rattle.hr_rules.proofs.Margins.{margins}
use Rattle.hr_rules.proofs.block_laws.margins_divide.Goals as goal

pub returns : goal.returns
returns c = margins
