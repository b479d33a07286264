use Rattle.std.proofs.Common.{◌≡◌, ◌++◌, drop}
use Rattle.hr_report.proofs.Joined.{joined_fields}
use Rattle.hr_report.proofs.fields.add_texts.Given as goal

abbrev pub invariant-loop-text : goal.invariant-loop-text
invariant-loop-text l = l.bytes.items ++ joined_fields (drop l.text-index l.texts) ≡ l.fn.bytes.items ++ (l.fn.first ++ joined_fields l.texts)
