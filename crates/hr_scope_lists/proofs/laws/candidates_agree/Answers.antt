use Rattle.hr_scope_lists.proofs.FoundSteps.{candidates_agree}
use Rattle.hr_scope_lists.proofs.laws.candidates_agree.Goals as goal

pub returns : goal.returns
returns c = candidates_agree
