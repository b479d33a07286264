use Rattle.std.proofs.Common.{◌∙◌}
use Rattle.hr_type.proofs.copy.place.Goals as goal

pub returns : goal.returns
returns c = c.in_ok-push.ensures.items ∙ c.in_ok-ty.ensures
