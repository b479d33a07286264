use Rattle.hr_plain.proofs.Total.{plain_or_refused_lem}
use Rattle.hr_plain.proofs.laws.plain_or_refused.Goals as goal

pub returns : goal.returns
returns c = plain_or_refused_lem
