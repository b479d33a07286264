use Rattle.hr_grammar_cases.proofs.StandingModules.{modules_yield_lem}
use Rattle.hr_grammar_cases.proofs.laws.modules_yield.Goals as goal

pub returns : goal.returns
returns c = modules_yield_lem
