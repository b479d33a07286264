use Rattle.std.proofs.Common.{◌∙◌}
use Rattle.hare.specs.declared.status.Status.{Status}
use Rattle.hare.proofs.Ends.{told}
use Rattle.hare.proofs.refactoring.tell_stopped.Goals as goal

pub returns : goal.returns
returns g c = λ words start now request olds news run kept.
    told words _ _ Status.StepRefused _ _ (request, olds, news, _, run, kept, c.as_slice.ensures.value ∙ c.in_ok-report.ensures) c.tell.ensures
