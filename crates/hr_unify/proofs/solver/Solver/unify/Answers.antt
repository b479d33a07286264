use Rattle.std.proofs.Common.{sym, subst}
use Rattle.hr_unify.specs.Unifiers.{HasUnifiersOf, problem}
use Rattle.hr_unify.proofs.Lists.{ok_part}
use Rattle.hr_unify.proofs.solver.Solver.unify.Goals as goal

pub returns-clause-exact : goal.returns-clause-exact
returns-clause-exact c =
    let all = ok_part c.add_all.result c.map_err.result _ _ c.map_err.ensures.variant c.in_ok-map_err.was c.add_all.ensures.all in
    subst (λ ps. HasUnifiersOf ps (problem c.args.self.now.bindings.entries c.args.left.now c.args.right.now)) (sym all) c.in_ok-fresh.ensures.solves.exact
