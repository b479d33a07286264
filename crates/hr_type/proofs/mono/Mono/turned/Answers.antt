use Rattle.std.proofs.Common.{refl}
use Rattle.hr_type.proofs.Freeing.{turned_steps, steps_con, steps_fun}
use Rattle.hr_type.proofs.mono.Mono.turned.Goals as goal

pub returns-in-Con : goal.returns-in-Con
returns-in-Con c = turned_steps _ c.args.rest _ 0 c.in-Con.is refl (λ n. steps_con _ c.args.rest _ _ c.in-Con.is)

pub returns-in-Fun : goal.returns-in-Fun
returns-in-Fun c = turned_steps _ c.args.rest _ 0 c.in-Fun.is refl (λ n. steps_fun _ c.args.rest _ _ c.in-Fun.is)
