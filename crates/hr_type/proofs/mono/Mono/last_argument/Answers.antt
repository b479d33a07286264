use Rattle.hr_type.proofs.Freeing.{last_steps}
use Rattle.hr_type.proofs.mono.Mono.last_argument.Goals as goal

pub returns-in-Some : goal.returns-in-Some
returns-in-Some c = last_steps c.args.entity c.args.arguments _ _ _ c.in-Some.ensures c.with_others.ensures
