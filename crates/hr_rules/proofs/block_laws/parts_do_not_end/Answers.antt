use Rattle.hr_rules.proofs.BlockEnds.{parts-go-on}
use Rattle.hr_rules.proofs.block_laws.parts_do_not_end.Goals as goal

pub returns : goal.returns
returns c = parts-go-on
