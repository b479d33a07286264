use Rattle.hr_type_laws.proofs.Between.{blanks_between_lem}
use Rattle.hr_type_laws.proofs.laws.blanks_between.Goals as goal

pub returns : goal.returns
returns c = blanks_between_lem
