use Rattle.std.proofs.Common.{◌≡◌, true, subst}
use Rattle.std.specs.List.{list_all}
use Rattle.std.proofs.lemmas.Result.{IfOk-weaker}
use Rattle.hr_plain.specs.Form.{defined_by}
use Rattle.hr_plain.specs.Sets.{Collects, Holds, are_scoped, are_together, has, is_scoped_by}
use Rattle.hr_plain.proofs.Together.{all_bound}
use Rattle.hr_plain.proofs.scoping.are_scoped.Goals as goal

pub returns-in-Some : goal.returns-in-Some
returns-in-Some c =
    let names = defined_by c.args.equations.now in
    let found : (are_together names ≡ true) × Holds c.in-Some.top names = subst (Collects (are_together names) names) c.in-Some.is c.in_ok-top.ensures in
    IfOk-weaker c.are_bound.result (λ are. are ≡ list_all (is_scoped_by (has c.in-Some.top)) c.args.equations.now) (λ are. are ≡ are_scoped c.args.equations.now)
    (λ are h. all_bound c.args.equations.now c.in-Some.top are found.0 found.1 h) c.are_bound.ensures
