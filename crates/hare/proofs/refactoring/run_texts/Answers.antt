use Rattle.std.proofs.Common.{◌∙◌, Some, ap}
use Rattle.hare.specs.declared.status.Status.{Status}
use Rattle.hare.specs.Shown.{shown}
use Rattle.hare.proofs.Ends.{told}
use Rattle.hare.proofs.refactoring.run_texts.Goals as goal

pub returns-in_ok-report-in-Err : goal.returns-in_ok-report-in-Err
returns-in_ok-report-in-Err g c = λ words start asked kept.
    told words _ _ Status.NotAccepted _ _ (
      shown c.args.asked,
      c.args.commands.now,
      c.args.texts.now,
      c.in-Err.error,
      asked,
      kept,
      ap Some c.as_slice.ensures.value ∙ c.in_ok-report-in-Err.ensures,
    )
    c.tell.ensures
