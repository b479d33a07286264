use Rattle.std.proofs.Common.{inr, sym, ◌∙◌}
use Rattle.hr_script.proofs.Commands.{line_is}
use Rattle.hr_script.proofs.Scripts.{line_not}
use Rattle.hr_script.proofs.reading.add_line.Goals as goal

pub returns-in_ok-push-in-Some : goal.returns-in_ok-push-in-Some
returns-in_ok-push-in-Some c =
    inr (c.in-Some.command, line_is c.args.line.now c.in-Some.command (sym c.in_ok-command.ensures ∙ c.in-Some.is), c.in_ok-push-in-Some.ensures.items)

pub returns-in-None : goal.returns-in-None
returns-in-None c =
    line_not c.args.line.now c.in_ok-command.field-0 (sym c.is_skipped.ensures ∙ c.if-is_skipped.false) c.in_ok-command.ensures c.in-None.is
