use Rattle.std.proofs.Common.{arith, length, refl}
use Rattle.hr_graph.proofs.GroupSteps.{no_firsts, firsts_more, firsts_done}
use Rattle.hr_graph.proofs.groups.leasts.Goals as goal

pub loop-node-init : goal.loop-node-init
loop-node-init c = no_firsts c.args.labels.now (length c.args.labels.now) _ _ c.in_ok-first.ensures refl c.new-leasts.ensures.items

pub loop-node-preserved : goal.loop-node-preserved
loop-node-preserved c =
    firsts_more c.args.labels.now c.loop-node.node c.loop-node.first.items _ c.loop-node.leasts.items _ c.first_of-least.result c.loop-node.invariant c.loop-node-test.true
    (c.requires c.loop-node.node 0 c.loop-node-test.true) c.first_of-least.ensures.least c.first_of-least.ensures.after c.in_ok-push.ensures.items

pub returns : goal.returns
returns c = firsts_done c.args.labels.now c.loop-node.node _ _ c.loop-node.invariant (omega arith)
