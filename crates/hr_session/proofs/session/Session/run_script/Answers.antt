use Rattle.std.proofs.Common.{◌≡◌, ◌+◌, ◌≤◌, ◌++◌, ◌∷◌, [], length, take, ap, subst, sym, ◌∙◌, true, false, arith}
use Rattle.std.proofs.lemmas.List.{take_all}
use Rattle.hr_session.specs.Runs.{Runs, StandsWithin}
use Rattle.hr_session.proofs.Fold.{WereRun, broken_off, ends_it, finished, further, goes_yet, stopped, told_err}
use Rattle.hr_session.proofs.session.Session.run_script.Goals as goal

pub loop-command-preserved : goal.loop-command-preserved
loop-command-preserved g c =
    let lines : c.push_reserved.new.self.items ≡ c.loop-command.lines.items ++ c.in_ok-line.line ∷ [] =
    c.push_reserved.ensures.items ∙ ap (λ ls. ls ++ c.in_ok-line.line ∷ []) c.reserve.ensures.items in
    subst (λ ls. WereRun (g.S.Stepper.takes c.args.stepper.now) (g.S.Stepper.refuses c.args.stepper.now) g.S.Stepper.is_memory c.args.keep_going c.args.self.now (take (c.loop-command.command-index + 1) c.args.commands.now) ls c.line.new.self) (sym lines)
    (further _ _ _ _ c.args.self.now c.loop-command.self c.line.new.self c.args.commands.now c.loop-command.command-index c.command-item.result c.in_ok-line.line c.loop-command.lines.items
    c.loop-command-test.true c.command-item.is c.in_ok-line.ensures.carried c.in_ok-line.ensures.memory (goes_yet _ (sym c.ends_run-ends.ensures ∙ c.if-ends.false)) c.loop-command.invariant)

pub returns-then-ends-clause-ran : goal.returns-then-ends-clause-ran
returns-then-ends-clause-ran g c =
    let lines : c.push_reserved.new.self.items ≡ c.loop-command.lines.items ++ c.in_ok-line.line ∷ [] =
    c.push_reserved.ensures.items ∙ ap (λ ls. ls ++ c.in_ok-line.line ∷ []) c.reserve.ensures.items in
    subst (λ ls. Runs (g.S.Stepper.takes c.args.stepper.now) (g.S.Stepper.refuses c.args.stepper.now) g.S.Stepper.is_memory c.args.keep_going c.args.self.now c.args.commands.now c.line.new.self ls true) (sym lines)
    (stopped _ _ _ _ c.args.self.now c.loop-command.self c.line.new.self c.args.commands.now c.loop-command.command-index c.command-item.result c.in_ok-line.line c.loop-command.lines.items
    c.loop-command-test.true c.command-item.is c.in_ok-line.ensures.carried c.in_ok-line.ensures.memory (ends_it _ (sym c.ends_run-ends.ensures ∙ c.if-ends.true)) c.loop-command.invariant)

pub returns-clause-ran : goal.returns-clause-ran
returns-clause-ran g c =
    let whole : take c.loop-command.command-index c.args.commands.now ≡ c.args.commands.now = take_all c.loop-command.command-index c.args.commands.now (omega (arith, c.loop-command-test.false)) in
    subst (λ cs. Runs (g.S.Stepper.takes c.args.stepper.now) (g.S.Stepper.refuses c.args.stepper.now) g.S.Stepper.is_memory c.args.keep_going c.args.self.now cs c.loop-command.self c.loop-command.lines.items false) whole
    (finished _ _ _ _ c.args.self.now c.loop-command.self (take c.loop-command.command-index c.args.commands.now) c.loop-command.lines.items c.loop-command.invariant)

pub returns-in_err-reserve-clause-within : goal.returns-in_err-reserve-clause-within
returns-in_err-reserve-clause-within g c =
    told_err c.from_residual.result (broken_off _ _ _ _ c.args.self.now c.loop-command.self c.args.commands.now c.loop-command.command-index c.loop-command.lines.items c.loop-command.invariant)

pub returns-in_err-line-clause-within : goal.returns-in_err-line-clause-within
returns-in_err-line-clause-within g c =
    told_err c.from_residual-in_err-line.result
    (subst (λ s. StandsWithin (g.S.Stepper.takes c.args.stepper.now) (g.S.Stepper.refuses c.args.stepper.now) g.S.Stepper.is_memory c.args.keep_going c.args.self.now c.args.commands.now s) (sym c.in_err-line.ensures.stays)
    (broken_off _ _ _ _ c.args.self.now c.loop-command.self c.args.commands.now c.loop-command.command-index c.loop-command.lines.items c.loop-command.invariant))
