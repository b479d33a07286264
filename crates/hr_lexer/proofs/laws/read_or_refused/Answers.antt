use Rattle.hr_lexer.proofs.Total.{read_or_refused_lem}
use Rattle.hr_lexer.proofs.laws.read_or_refused.Goals as goal

pub returns : goal.returns
returns c = read_or_refused_lem
