use Rattle.std.proofs.Common.{◌<◌, sym, refl, subst}
use Rattle.hr_type.specs.declared.mono.Mono.{Mono}
use Rattle.hr_type.specs.Sizes.{steps}
use Rattle.hr_type.proofs.Freeing.{if_some, steps_as, beside_as, both_steps, steps_con, steps_fun}
use Rattle.hr_type.proofs.mono.Mono.taken_apart.Goals as goal

pub returns-in-Var : goal.returns-in-Var
returns-in-Var c = if_some c.turned.result _ _ (λ r h. steps_as _ _ c.args.rest c.args.rest c.args.ty (h _) c.in-Var.is refl) c.turned.ensures

pub returns-in-Var-rest : goal.returns-in-Var-rest
returns-in-Var-rest c = if_some c.last_argument.result _ _ (λ r h. steps_as _ _ _ c.args.rest c.args.ty (h _) c.in-Con.is c.in-Var-rest.is) c.last_argument.ensures

pub returns-in-Con-rest : goal.returns-in-Con-rest
returns-in-Con-rest c =
    if_some c.hung_in_arguments.result _ _
    (λ r h. beside_as _ _ _ c.args.rest c.args.ty h c.in-Con.is c.in-Con-rest.is (steps_con c.args.ty c.args.rest _ _ c.in-Con-rest.is)) c.hung_in_arguments.ensures

pub returns-in-Fun-rest : goal.returns-in-Fun-rest
returns-in-Fun-rest c =
    if_some c.hung_in_arguments-in-Fun-rest.result _ _
    (λ r h. beside_as _ _ _ c.args.rest c.args.ty h c.in-Con.is c.in-Fun-rest.is (steps_fun c.args.ty c.args.rest _ _ c.in-Fun-rest.is)) c.hung_in_arguments-in-Fun-rest.ensures

pub returns-in-Var-rest-2 : goal.returns-in-Var-rest-2
returns-in-Var-rest-2 c =
    subst (λ (t : Mono). steps t c.into_inner-in-Var-rest-2.result < steps c.args.ty c.args.rest) (sym c.into_inner.ensures)
    (subst (λ (t : Mono). steps c.in-Fun.to t < steps c.args.ty c.args.rest) (sym c.into_inner-in-Var-rest-2.ensures)
    (both_steps c.in-Fun.from c.in-Fun.to c.args.ty c.args.rest _ c.in-Fun.is c.in-Var-rest-2.is))

pub returns-in-Con-rest-2 : goal.returns-in-Con-rest-2
returns-in-Con-rest-2 c =
    beside_as _ _ _ c.args.rest c.args.ty c.hung_in_function.ensures c.in-Fun.is c.in-Con-rest-2.is (steps_con c.args.ty c.args.rest _ _ c.in-Con-rest-2.is)

pub returns-in-Fun-rest-2 : goal.returns-in-Fun-rest-2
returns-in-Fun-rest-2 c =
    beside_as _ _ _ c.args.rest c.args.ty c.hung_in_function-in-Fun-rest-2.ensures c.in-Fun.is c.in-Fun-rest-2.is (steps_fun c.args.ty c.args.rest _ _ c.in-Fun-rest-2.is)
