use Rattle.std.proofs.Common.{◌<◌, ◌∙◌, inl, refl, subst, sym}
use Rattle.std.proofs.lemmas.List.{length-map}
use Rattle.std.specs.Prelude.{codes}
use Rattle.std.specs.String.{string_bytes}
use Rattle.hare.specs.declared.status.Status.{Status}
use Rattle.hare.specs.Ends.{files_limit}
use Rattle.hare.specs.Shown.{shown}
use Rattle.hare.proofs.Ends.{told, untouched}
use Rattle.hare.proofs.refactoring.run_asked.Goals as goal

pub returns-in_ok-report : goal.returns-in_ok-report
returns-in_ok-report g c = λ words good.
    let many = subst (λ n. files_limit < n) (sym (length-map c.args.asked.files.now string_bytes)) c.if-asked-gt-FILES_LIMIT.true in
    told words _ _ Status.OverLimit _ _ (shown c.args.asked, codes "modules", inl (good, many, refl), untouched _ _, c.as_slice.ensures.value ∙ c.in_ok-report.ensures) c.tell.ensures
