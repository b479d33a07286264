use Rattle.hr_scope_lists.proofs.Levels.{exports_agree}
use Rattle.hr_scope_lists.proofs.laws.exports_agree.Goals as goal

pub returns : goal.returns
returns c = exports_agree
