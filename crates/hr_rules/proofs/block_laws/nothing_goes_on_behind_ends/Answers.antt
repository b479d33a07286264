use Rattle.hr_rules.proofs.BlockEnds.{nothing-goes-on-behind-ends}
use Rattle.hr_rules.proofs.block_laws.nothing_goes_on_behind_ends.Goals as goal

pub returns : goal.returns
returns c = nothing-goes-on-behind-ends
