use Rattle.std.proofs.Common.{◌∙◌, inl, inr, map, refl, subst}
use Rattle.std.specs.Prelude.{codes}
use Rattle.std.specs.String.{string_bytes}
use Rattle.hr_files.specs.Read.{IsUnread}
use Rattle.hare.specs.declared.status.Status.{Status}
use Rattle.hare.specs.Shown.{shown}
use Rattle.hare.proofs.Ends.{told}
use Rattle.hare.proofs.refactoring.tell_unread.Goals as goal

pub returns-in_ok-report-in-Missing : goal.returns-in_ok-report-in-Missing
returns-in_ok-report-in-Missing g c = λ words start now scripted unread kept.
    let names = map string_bytes c.args.asked.files.now in
    let cause = subst (IsUnread names start now) c.in-Missing.is unread in
    let text = c.as_slice.ensures.value ∙ c.in_ok-report-in-Missing.ensures in
    told words _ _ Status.ReadFault _ _ (shown c.args.asked, c.name_at.result.now, inr (c.args.commands.now, c.in-Missing.file, scripted, cause, c.name_at.ensures), kept, text) c.tell.ensures

pub returns-in_ok-report-in-TooLong : goal.returns-in_ok-report-in-TooLong
returns-in_ok-report-in-TooLong g c = λ words start now scripted unread kept.
    let names = map string_bytes c.args.asked.files.now in
    let cause = subst (IsUnread names start now) c.in-TooLong.is unread in
    let text = c.as_slice-in-TooLong.ensures.value ∙ c.in_ok-report-in-TooLong.ensures in
    told words _ _ Status.OverLimit _ _ (
      shown c.args.asked,
      c.name_at-in-TooLong.result.now,
      inr (inr (inr (inl (c.args.commands.now, c.in-TooLong.file, scripted, cause, c.name_at-in-TooLong.ensures)))),
      kept,
      text,
    )
    c.tell-in-TooLong.ensures

pub returns-in_ok-report-in-TooLongTogether : goal.returns-in_ok-report-in-TooLongTogether
returns-in_ok-report-in-TooLongTogether g c = λ words start now scripted unread kept.
    let cause = subst (IsUnread (map string_bytes c.args.asked.files.now) start now) c.in-TooLongTogether.is unread in
    let text = c.as_slice-in-TooLongTogether.ensures.value ∙ c.in_ok-report-in-TooLongTogether.ensures in
    told words _ _ Status.OverLimit _ _ (shown c.args.asked, codes "project", inr (inr (inr (inr (c.args.commands.now, scripted, cause, refl)))), kept, text)
    c.tell-in-TooLongTogether.ensures
