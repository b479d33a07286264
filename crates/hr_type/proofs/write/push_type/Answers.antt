use Rattle.std.proofs.Common.{ap, ◌∙◌}
use Rattle.hr_type.specs.Jobs.{load, pending}
use Rattle.hr_type.proofs.Jobbing.{load-push, pending-push}
use Rattle.hr_type.proofs.write.push_type.Goals as goal

pub returns-clause-text : goal.returns-clause-text
returns-clause-text c = ap (pending c.args.scope.now) c.in_ok-push.ensures.items ∙ pending-push c.args.scope.now c.args.jobs.now.items _

pub returns-clause-work : goal.returns-clause-work
returns-clause-work c = ap load c.in_ok-push.ensures.items ∙ load-push c.args.jobs.now.items _
