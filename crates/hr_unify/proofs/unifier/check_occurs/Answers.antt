use Rattle.std.proofs.Common.{◌∙◌}
use Rattle.hr_unify.specs.Tasks.{pairs_of}
use Rattle.hr_unify.proofs.Lists.{ok_value}
use Rattle.hr_unify.proofs.Unifying.{loose_avoids}
use Rattle.hr_unify.proofs.unifier.check_occurs.Goals as goal

pub returns-then-is_loose : goal.returns-then-is_loose
returns-then-is_loose c = loose_avoids (pairs_of c.args.known.now) c.args.variable c.args.ty.now c.requires.binds (c.is_loose.ensures.0 c.if-is_loose.true)

pub returns-then-not-may : goal.returns-then-not-may
returns-then-not-may c = ok_value c.leads.result c.map_err.result c.in_ok-may.may _ _ c.map_err.ensures.cases c.map_err.ensures.variant c.in_ok-may.was c.leads.ensures c.if-not-may.true
