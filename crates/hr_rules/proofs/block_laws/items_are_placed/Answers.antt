use Rattle.hr_rules.proofs.Margins.{items-placed}
use Rattle.hr_rules.proofs.block_laws.items_are_placed.Goals as goal

pub returns : goal.returns
returns c = items-placed
