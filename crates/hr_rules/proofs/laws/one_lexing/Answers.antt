use Rattle.hr_rules.proofs.Lexing.{one_lexing_at_most}
use Rattle.hr_rules.proofs.laws.one_lexing.Goals as goal

pub returns : goal.returns
returns c = one_lexing_at_most
