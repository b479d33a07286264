use Rattle.hr_rules.proofs.Apart.{rules_keep_apart}
use Rattle.hr_rules.proofs.laws.rules_keep_apart.Goals as goal

pub returns : goal.returns
returns c = rules_keep_apart
