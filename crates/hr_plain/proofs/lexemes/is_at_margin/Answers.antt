use Rattle.std.proofs.Common.{ap, ◌∙◌, None}
use Rattle.std.specs.List.{last_or}
use Rattle.hr_plain.specs.Form.{ends_line}
use Rattle.hr_plain.proofs.Basics.{last_get}
use Rattle.hr_plain.proofs.lexemes.is_at_margin.Goals as goal

pub returns-in-Some : goal.returns-in-Some
returns-in-Some c = ap (ends_line c.args.is_first) (c.in-Some.ensures.value ∙ last_get c.as_slice.result.now ∙ ap (last_or None) c.as_slice.ensures)
