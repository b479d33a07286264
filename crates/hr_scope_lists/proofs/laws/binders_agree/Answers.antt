use Rattle.hr_scope_lists.proofs.BinderSteps.{binders_agree}
use Rattle.hr_scope_lists.proofs.laws.binders_agree.Goals as goal

pub returns : goal.returns
returns c = binders_agree
