use Rattle.hr_type_laws.proofs.Written.{written_is_lexed_lem}
use Rattle.hr_type_laws.proofs.laws.written_is_lexed.Goals as goal

pub returns : goal.returns
returns c = written_is_lexed_lem
