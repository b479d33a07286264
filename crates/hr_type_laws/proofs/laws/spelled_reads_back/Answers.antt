use Rattle.hr_type_laws.proofs.Written.{spelled_reads_back_lem}
use Rattle.hr_type_laws.proofs.laws.spelled_reads_back.Goals as goal

pub returns : goal.returns
returns c = spelled_reads_back_lem
