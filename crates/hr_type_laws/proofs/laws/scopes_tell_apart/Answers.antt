use Rattle.hr_type_laws.proofs.Telling.{scopes_tell_apart_lem}
use Rattle.hr_type_laws.proofs.laws.scopes_tell_apart.Goals as goal

pub returns : goal.returns
returns c = scopes_tell_apart_lem
