use Rattle.hr_gen.proofs.Grown.{commands_more}
use Rattle.hr_gen.proofs.script.commands.Goals as goal

pub loop-k-preserved : goal.loop-k-preserved
loop-k-preserved c =
    commands_more c.loop-k.k c.loop-k.list.items c.push.new.self.items c.push-in-loop-k.new.self.items c.in_ok-renaming.field-0 c.in_ok-parameter.field-0
    c.in_ok-push.ensures.items c.in_ok-push-2.ensures.items c.loop-k.invariant c.in_ok-renaming.ensures c.in_ok-parameter.ensures
