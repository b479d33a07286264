use Rattle.std.proofs.Common.{◌∙◌, refl, rules}
use Rattle.hare.specs.declared.status.Status.{Status}
use Rattle.hare.proofs.Ends.{told}
use Rattle.hare.proofs.refactoring.run.Goals as goal

pub returns-in_ok-report-in-None : goal.returns-in_ok-report-in-None
returns-in_ok-report-in-None g c = told _ _ _ Status.BadWords _ _ (search rules, refl, c.as_slice.ensures.value ∙ c.in_ok-report-in-None.ensures) c.tell.ensures
