use Rattle.std.proofs.Common.{◌≡◌, ◌++◌, map, sym, ap, ◌∙◌}
use Rattle.hr_report.proofs.Joined.{at_end, joined_behind}
use Rattle.hr_report.proofs.fields.add_fields.Goals as goal

pub returns : goal.returns
returns c =
    sym (at_end (λ field. field.now) c.loop-field.bytes.items c.loop-field.field-index c.args.fields.now c.loop-field-test.false)
    ∙ c.loop-field.invariant
    ∙ ap (λ text. c.args.bytes.now.items ++ text) (sym (joined_behind c.args.first.now (map (λ field. field.now) c.args.fields.now)))
