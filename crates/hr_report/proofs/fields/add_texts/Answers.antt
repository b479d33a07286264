use Rattle.std.proofs.Common.{◌≡◌, ◌++◌, sym, ap, ◌∙◌}
use Rattle.hr_report.proofs.Joined.{joined_behind, texts_at_end}
use Rattle.hr_report.proofs.fields.add_texts.Goals as goal

pub returns : goal.returns
returns c =
    sym (texts_at_end c.loop-text.bytes.items c.loop-text.text-index c.args.texts.now c.loop-text-test.false)
    ∙ c.loop-text.invariant
    ∙ ap (λ text. c.args.bytes.now.items ++ text) (sym (joined_behind c.args.first.now c.args.texts.now))
