use Rattle.std.proofs.Common.{rules}
use Rattle.hr_session.proofs.Undoing.{took_back}
use Rattle.hr_session.proofs.session.Session.step.Goals as goal

pub returns-then-eq-clause-good : goal.returns-then-eq-clause-good
returns-then-eq-clause-good g c = took_back _ _ c.args.self.now c.undo.new.self c.args.command.now c.undo.result (search rules) c.undo.ensures
