use Rattle.hr_gen.proofs.Grown.{text_more}
use Rattle.hr_gen.proofs.modules.texts.Goals as goal

pub loop-k-preserved : goal.loop-k-preserved
loop-k-preserved c =
    text_more c.args.seed c.args.size c.loop-k.k c.loop-k.list.items c.push.new.self.items c.in_ok-module_text.field-0 c.in_ok-push.ensures.items c.loop-k.invariant c.in_ok-module_text.ensures
