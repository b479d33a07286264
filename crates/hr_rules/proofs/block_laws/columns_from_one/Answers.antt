use Rattle.hr_rules.proofs.Margins.{columns-one}
use Rattle.hr_rules.proofs.block_laws.columns_from_one.Goals as goal

pub returns : goal.returns
returns c = columns-one
