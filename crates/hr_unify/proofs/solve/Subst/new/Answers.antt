use Rattle.hr_unify.proofs.Solving.{good_none}
use Rattle.hr_unify.proofs.solve.Subst.new.Goals as goal

pub returns-clause-good : goal.returns-clause-good
returns-clause-good c = good_none _ c.new.ensures.items
