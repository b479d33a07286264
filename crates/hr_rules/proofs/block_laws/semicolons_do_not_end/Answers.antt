use Rattle.hr_rules.proofs.BlockEnds.{semicolons-go-on}
use Rattle.hr_rules.proofs.block_laws.semicolons_do_not_end.Goals as goal

pub returns : goal.returns
returns c = semicolons-go-on
