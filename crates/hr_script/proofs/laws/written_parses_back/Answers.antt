use Rattle.hr_script.proofs.Scripts.{written_lem}
use Rattle.hr_script.proofs.laws.written_parses_back.Goals as goal

pub returns : goal.returns
returns c = written_lem
