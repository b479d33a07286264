use Rattle.std.proofs.Common.{take}
use Rattle.hr_session.proofs.Fold.{WereRun}
use Rattle.hr_session.proofs.session.Session.run_script.Given as goal

abbrev pub invariant-loop-command : goal.invariant-loop-command
invariant-loop-command g l =
    WereRun (g.S.Stepper.takes l.stepper) (g.S.Stepper.refuses l.stepper) g.S.Stepper.is_memory l.keep_going l.fn.self (take l.command-index l.commands) l.lines.items l.self
