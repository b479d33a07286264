use Rattle.std.proofs.Common.{◌<◌, subst, sym}
use Rattle.hr_type.specs.declared.mono.Mono.{Mono}
use Rattle.hr_type.specs.declared.mono.Mono.TheVariants.{Fun}
use Rattle.hr_type.specs.Sizes.{steps, steps_beside}
use Rattle.hr_type.proofs.Freeing.{from_steps}
use Rattle.hr_type.proofs.mono.Mono.hung_in_function.Goals as goal

pub returns : goal.returns
returns c =
    subst (λ (t : Mono). steps t (Fun c.exchange-first.new.self c.args.to) < steps_beside (Fun c.args.from c.args.to) c.args.rest) (sym c.exchange-first.ensures.value)
    (subst (λ (t : Mono). steps c.args.from (Fun t c.args.to) < steps_beside (Fun c.args.from c.args.to) c.args.rest) (sym c.exchange-first.ensures.after)
    (from_steps c.args.from c.args.to c.args.rest))
