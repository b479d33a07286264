use Rattle.std.proofs.Common.{◌∙◌, inl, inr, refl, subst}
use Rattle.std.specs.Prelude.{codes}
use Rattle.hr_script.specs.Laws.{IsScriptRefusal}
use Rattle.hare.specs.declared.status.Status.{Status}
use Rattle.hare.specs.Shown.{shown}
use Rattle.hare.proofs.Ends.{told}
use Rattle.hare.proofs.refactoring.tell_bad.Goals as goal

pub returns-in_ok-report-in-BadLine : goal.returns-in_ok-report-in-BadLine
returns-in_ok-report-in-BadLine g c = λ words start now few cause kept.
    let refused = subst (IsScriptRefusal cause.0) c.in-BadLine.is cause.2 in
    let text = c.as_slice.ensures.value ∙ c.in_ok-report-in-BadLine.ensures in
    told words _ _ Status.BadScript _ _ (shown c.args.asked, cause.0, c.in-BadLine.number, few, cause.1, refused, kept, text) c.tell.ensures

pub returns-in_ok-report-in-TooManySteps : goal.returns-in_ok-report-in-TooManySteps
returns-in_ok-report-in-TooManySteps g c = λ words start now few cause kept.
    let refused = subst (IsScriptRefusal cause.0) c.in-TooManySteps.is cause.2 in
    let text = c.as_slice-in-TooManySteps.ensures.value ∙ c.in_ok-report-in-TooManySteps.ensures in
    told words _ _ Status.OverLimit _ _ (shown c.args.asked, codes "steps", inr (inr (inl (cause.0, few, cause.1, refused, refl))), kept, text) c.tell-in-TooManySteps.ensures
