use Rattle.std.proofs.Common.{refl}
use Rattle.hr_type.proofs.Freeing.{closed_steps, first_steps}
use Rattle.hr_type.proofs.mono.Mono.hung_in_arguments.Goals as goal

pub returns-then-len-eq0 : goal.returns-then-len-eq0
returns-then-len-eq0 c = closed_steps c.args.entity c.args.arguments c.args.rest _ 0 refl

pub returns : goal.returns
returns c = first_steps c.args.entity c.args.arguments _ _ c.args.rest c.exchange-first.ensures.item c.exchange-first.ensures.others
