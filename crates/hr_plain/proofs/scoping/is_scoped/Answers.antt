use Rattle.std.proofs.Common.{◌≡◌, true, subst}
use Rattle.hr_plain.specs.Form.{variables_in}
use Rattle.hr_plain.specs.Sets.{Collects, Holds, are_apart}
use Rattle.hr_plain.proofs.Together.{body_bound}
use Rattle.hr_plain.proofs.scoping.is_scoped.Goals as goal

pub returns-in-Some : goal.returns-in-Some
returns-in-Some c =
    let names = variables_in c.as_slice.result.now in
    let found : (are_apart names ≡ true) × Holds c.in-Some.variables names = subst (Collects (are_apart names) names) c.in-Some.is c.in_ok-variables.ensures in
    let same = c.as_slice.ensures in
    body_bound c.args.equation.now c.in-Some.variables c.args.top.now c.is_bound.result
    (subst (λ patterns. Holds c.in-Some.variables (variables_in patterns)) same found.1)
    (subst (λ patterns. are_apart (variables_in patterns) ≡ true) same found.0)
    c.is_bound.ensures
