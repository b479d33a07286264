use Rattle.hr_grammar_cases.proofs.StandingModules.{modules_stand_lem}
use Rattle.hr_grammar_cases.proofs.laws.modules_stand.Goals as goal

pub returns : goal.returns
returns c = modules_stand_lem
