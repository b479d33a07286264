use Rattle.hr_script.proofs.Scripts.{one_script_lem}
use Rattle.hr_script.proofs.laws.one_script.Goals as goal

pub returns : goal.returns
returns c = one_script_lem
