use Rattle.hr_rules.proofs.PosAt.{behind_is_pos_at_lem}
use Rattle.hr_rules.proofs.position_laws.behind_is_pos_at.Goals as goal

pub returns : goal.returns
returns c = behind_is_pos_at_lem
