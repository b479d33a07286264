use Rattle.std.proofs.Common.{refl}
use Rattle.hr_unify.specs.Tasks.{pairs_of}
use Rattle.hr_unify.proofs.Lists.{ok_part}
use Rattle.hr_unify.proofs.Unifying.{extends_good}
use Rattle.hr_unify.proofs.unifier.bind.Goals as goal

pub returns-clause-bound : goal.returns-clause-bound
returns-clause-bound c =
    let made = ok_part c.make_known.result c.map_err.result _ _ c.map_err.ensures.variant c.in_ok-map_err.was c.make_known.ensures.bound in
    (made, extends_good (pairs_of c.args.known.now) _ _ c.args.variable c.args.ty.now c.requires.good c.requires.binds refl c.in_default.ensures made)
