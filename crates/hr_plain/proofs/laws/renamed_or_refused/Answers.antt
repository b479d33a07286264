use Rattle.hr_plain.proofs.Total.{renamed_or_refused_lem}
use Rattle.hr_plain.proofs.laws.renamed_or_refused.Goals as goal

pub returns : goal.returns
returns c = renamed_or_refused_lem
