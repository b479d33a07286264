use Rattle.std.proofs.Common.{◌∙◌}
use Rattle.hr_type.proofs.Matched.{found_as}
use Rattle.hr_type.proofs.general.look_up.Goals as goal

pub returns : goal.returns
returns c = c.get.ensures.value ∙ found_as c.args.variable c.args.bindings.now.entries
