use Rattle.std.proofs.Common.{◌≡◌, ◌+◌, sym, subst}
use Rattle.hr_script.specs.Laws.{IsFirstBad}
use Rattle.hr_script.specs.Progress.{Progress, Adds}
use Rattle.hr_script.proofs.Scripts.{begun, goes_on, stops_at}
use Rattle.hr_script.proofs.reading.commands_of.Goals as goal

pub loop-line-init : goal.loop-line-init
loop-line-init c = subst (Progress c.args.bytes.now c.args.bytes.now 0) (sym c.new-commands.ensures.items) (begun c.args.bytes.now)

pub loop-line-preserved : goal.loop-line-preserved
loop-line-preserved c =
    let next : c.in-Some-checked_add.next ≡ c.loop-line.number + 1 = c.in-Some-checked_add.ensures.1 in
    subst (λ n. Progress c.args.bytes.now c.in-Some.behind.now n c.add_line.new.commands.items) (sym next)
    (goes_on c.args.bytes.now c.loop-line.rest.now c.in-Some.line.now c.in-Some.behind.now c.loop-line.number c.loop-line.commands.items
    c.add_line.new.commands.items c.loop-line.invariant c.in-Some.ensures.lines (subst (Adds c.in-Some.line.now c.loop-line.commands.items c.add_line.new.commands.items) c.in-Ok-true.field-0-test c.in-Ok-true.ensures))

pub returns-in-Ok-false-clause-refused : goal.returns-in-Ok-false-clause-refused
returns-in-Ok-false-clause-refused c =
    let next : c.in-Some-checked_add.next ≡ c.loop-line.number + 1 = c.in-Some-checked_add.ensures.1 in
    subst (IsFirstBad c.args.bytes.now) (sym next)
    (stops_at c.args.bytes.now c.loop-line.rest.now c.in-Some.line.now c.in-Some.behind.now c.loop-line.number c.loop-line.commands.items
    c.add_line.new.commands.items c.loop-line.invariant c.in-Some.ensures.lines (subst (Adds c.in-Some.line.now c.loop-line.commands.items c.add_line.new.commands.items) c.in-Ok-false.field-0-test c.in-Ok-false.ensures))
