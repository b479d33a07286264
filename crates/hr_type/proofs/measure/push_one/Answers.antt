use Rattle.std.proofs.Common.{ap, ◌∙◌}
use Rattle.hr_type.specs.Inside.{deepest_of, spread}
use Rattle.hr_type.proofs.Reading.{deepest-push, spread-push}
use Rattle.hr_type.proofs.measure.push_one.Goals as goal

pub returns-clause-deep : goal.returns-clause-deep
returns-clause-deep c = ap deepest_of c.in_ok-push.ensures.items ∙ deepest-push c.args.stack.now.items _

pub returns-clause-wide : goal.returns-clause-wide
returns-clause-wide c = ap spread c.in_ok-push.ensures.items ∙ spread-push c.args.stack.now.items _
