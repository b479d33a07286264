use Rattle.std.proofs.Common.{◌∙◌}
use Rattle.hr_type.proofs.Matched.{found_as, inserted}
use Rattle.hr_type.proofs.general.add.Goals as goal

pub returns-clause-added : goal.returns-clause-added
returns-clause-added c = c.in_ok-insert.ensures.entries ∙ inserted c.args.variable c.args.ty c.args.bindings.now.entries (found_as c.args.variable c.args.bindings.now.entries ∙ c.requires)
