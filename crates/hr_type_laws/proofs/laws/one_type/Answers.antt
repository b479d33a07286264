use Rattle.hr_type_laws.proofs.Read.{one_type_lem}
use Rattle.hr_type_laws.proofs.laws.one_type.Goals as goal

pub returns : goal.returns
returns c = one_type_lem
