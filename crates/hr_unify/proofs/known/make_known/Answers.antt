use Rattle.std.proofs.Common.{ap, ◌∙◌, ◌++◌, append_assoc}
use Rattle.hr_unify.proofs.Lists.{made_known}
use Rattle.hr_unify.proofs.known.make_known.Goals as goal

pub returns-clause-bound : goal.returns-clause-bound
returns-clause-bound c = made_known _ _ _ _ _ c.in_ok-insert.ensures.entries c.requires
