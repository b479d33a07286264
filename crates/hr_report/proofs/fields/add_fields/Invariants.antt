use Rattle.std.proofs.Common.{◌≡◌, ◌++◌, drop, map}
use Rattle.hr_report.proofs.Joined.{joined_fields}
use Rattle.hr_report.proofs.fields.add_fields.Given as goal

abbrev pub invariant-loop-field : goal.invariant-loop-field
invariant-loop-field l =
    l.bytes.items ++ joined_fields (map (λ field. field.now) (drop l.field-index l.fields)) ≡ l.fn.bytes.items ++ (l.fn.first ++ joined_fields (map (λ field. field.now) l.fields))
