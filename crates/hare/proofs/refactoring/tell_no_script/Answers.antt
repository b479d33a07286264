use Rattle.std.proofs.Common.{◌∙◌, inl, inr, refl, subst}
use Rattle.std.specs.Prelude.{codes}
use Rattle.hr_files.specs.Read.{IsUnreadFile}
use Rattle.hare.specs.declared.status.Status.{Status}
use Rattle.hare.specs.Shown.{shown}
use Rattle.hare.proofs.Ends.{told}
use Rattle.hare.proofs.Since.{first_missing, first_too_long}
use Rattle.hare.proofs.refactoring.tell_no_script.Goals as goal

pub returns-in_ok-report-in-Missing : goal.returns-in_ok-report-in-Missing
returns-in_ok-report-in-Missing g c = λ words start now few cause kept.
    let missing = first_missing _ start now _ (subst (IsUnreadFile 0 c.args.asked.script.now start now) c.in-Missing.is cause) in
    let text = c.as_slice.ensures.value ∙ c.in_ok-report-in-Missing.ensures in
    told words _ _ Status.ReadFault _ _ (shown c.args.asked, c.args.asked.script.now, inl (few, missing, refl), kept, text) c.tell.ensures

pub returns-in_ok-report-in-TooLong : goal.returns-in_ok-report-in-TooLong
returns-in_ok-report-in-TooLong g c = λ words start now few cause kept.
    let long = first_too_long _ start now _ (subst (IsUnreadFile 0 c.args.asked.script.now start now) c.in-TooLong.is cause) in
    let text = c.as_slice-in-TooLong.ensures.value ∙ c.in_ok-report-in-TooLong.ensures in
    told words _ _ Status.OverLimit _ _ (shown c.args.asked, codes "script", inr (inl (few, long, refl)), kept, text) c.tell-in-TooLong.ensures
