use Rattle.hr_scope_lists.proofs.DoubleSteps.{doubles_agree}
use Rattle.hr_scope_lists.proofs.laws.doubles_agree.Goals as goal

pub returns : goal.returns
returns c = doubles_agree
