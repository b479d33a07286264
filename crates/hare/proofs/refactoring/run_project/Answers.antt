use Rattle.std.proofs.Common.{◌∙◌, ap, refl, sym, true, false}
use Rattle.hr_check.specs.Projects.{texts_of}
use Rattle.hare.specs.Report.{step_lines}
use Rattle.hare.specs.Shown.{shown}
use Rattle.hare.proofs.Runs.{has_run}
use Rattle.hare.proofs.refactoring.run_project.Goals as goal

pub returns-then-ran : goal.returns-then-ran
returns-then-ran g c = λ words start asked kept.
    let told = c.in_ok-told.ensures ∙ ap (step_lines 1 c.args.commands.now) c.as_slice.ensures in
    c.tell_stopped.ensures words start (g.S.Shelf.store c.args.shelf.now) (shown c.args.asked) c.args.texts.now _
    (has_run words start (shown c.args.asked) c.args.commands.now c.args.texts.now _ _ _ _ true c.args.project _ _ asked c.requires.texts c.requires.read c.in_ok-session.ensures c.in_ok-ran.ensures.ran c.if-ran.true refl told)
    kept

pub returns : goal.returns
returns g c = λ words start asked kept.
    let told = c.in_ok-told.ensures ∙ ap (step_lines 1 c.args.commands.now) c.as_slice.ensures in
    let news = c.texts-news.ensures ∙ ap texts_of c.project.ensures in
    c.end_run.ensures words start
    (has_run words start (shown c.args.asked) c.args.commands.now c.args.texts.now _ _ _ _ false c.args.project _ _ asked c.requires.texts c.requires.read c.in_ok-session.ensures c.in_ok-ran.ensures.ran c.if-ran.false (sym news) told)
    kept
