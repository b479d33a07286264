use Rattle.hr_scope_lists.proofs.Levels.{scopes_agree}
use Rattle.hr_scope_lists.proofs.laws.scopes_agree.Goals as goal

pub returns : goal.returns
returns c = scopes_agree
