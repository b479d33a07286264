use Rattle.hr_grammar_cases.proofs.Types.{types_give_lem}
use Rattle.hr_grammar_cases.proofs.laws.types_give.Goals as goal

pub returns : goal.returns
returns c = types_give_lem
