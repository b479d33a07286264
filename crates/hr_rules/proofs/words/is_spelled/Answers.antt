use Rattle.std.proofs.Common.{◌∙◌}
use Rattle.hr_rules.proofs.Spellings.{spelled}
use Rattle.hr_rules.proofs.words.is_spelled.Goals as goal

pub returns : goal.returns
returns c = c.eq.ensures ∙ spelled c.args.word.now c.args.text.now
