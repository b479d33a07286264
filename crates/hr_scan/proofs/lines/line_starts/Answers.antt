use Rattle.std.proofs.Common.{true, false, sym, ap, ◌∙◌, append-nil}
use Rattle.hr_scan.specs.Lines.{ends_newline}
use Rattle.hr_scan.proofs.LineStarts.{starts_grow}
use Rattle.hr_scan.proofs.lines.line_starts.Goals as goal
use Rattle.hr_scan.proofs.lines.line_starts.Goals.{then-ends_newline+in_ok-push, else-ends_newline}

pub loop-place-preserved : goal.loop-place-preserved
loop-place-preserved c =
    let grow = starts_grow c.loop-place.place c.args.bytes.now c.loop-place.starts.items c.if-ends_newline.starts.items _ in
    elim c.if-ends_newline.branch [
      | then-ends_newline+in_ok-push w ↦ grow true c.loop-place-test.true c.loop-place.invariant (sym (c.ends_newline.ensures ∙ ap ends_newline c.split_at.ensures.back) ∙ w.if-ends_newline.true) (ap (λ v. v.items) w.starts-is ∙ w.in_ok-push.ensures.items)
      | else-ends_newline w ↦ grow false c.loop-place-test.true c.loop-place.invariant (sym (c.ends_newline.ensures ∙ ap ends_newline c.split_at.ensures.back) ∙ w.if-ends_newline.false) (ap (λ v. v.items) w.starts-is ∙ sym (append-nil _))
    ]
