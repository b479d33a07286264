use Rattle.std.proofs.Common.{◌∙◌}
use Rattle.hr_type.proofs.Reading.{popped}
use Rattle.hr_unify.specs.Tasks.{task_of}
use Rattle.hr_unify.proofs.work.push_equation.Goals as goal

pub returns : goal.returns
returns c = popped task_of _ _ _ c.in_ok-push.ensures.items
