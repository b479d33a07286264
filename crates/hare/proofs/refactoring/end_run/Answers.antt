use Rattle.std.proofs.Common.{◌++◌, ◌∙◌, ap, map, subst, sym}
use Rattle.std.specs.String.{string_bytes}
use Rattle.hr_files.specs.Replaced.{name_of}
use Rattle.hare.specs.declared.status.Status.{Status}
use Rattle.hare.specs.Ends.{AreDone}
use Rattle.hare.specs.Report as report
use Rattle.hare.specs.Shown.{shown}
use Rattle.hare.proofs.Ends.{told}
use Rattle.hare.proofs.refactoring.end_run.Goals as goal

pub returns-in_ok-report : goal.returns-in_ok-report
returns-in_ok-report g c = λ words start run kept.
    let names = map string_bytes c.args.asked.files.now in
    let store = g.S.Shelf.store c.args.shelf.now in
    let text = c.as_slice-then-asked.ensures.value ∙ c.in_ok-report.ensures
    ∙ ap (λ list. c.args.told.items ++ report.changed (map (λ change. name_of names change) list)) (c.as_slice.ensures.value ∙ c.in_ok-changes.ensures) in
    told words _ _ Status.Done _ _ (
      shown c.args.asked,
      c.args.olds.now,
      c.args.news.now,
      c.args.told.items,
      run,
      subst (λ dry. AreDone dry (shown c.args.asked) c.args.olds.now c.args.news.now start store) (sym c.if-asked.true) kept,
      text,
    )
    c.tell.ensures
