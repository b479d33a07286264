use Rattle.std.proofs.Common.{◌∙◌, ap, length, arith}
use Rattle.std.proofs.lemmas.List.{length-set, length-replicate}
use Rattle.hr_graph.proofs.GroupSteps.{members_none, members_step}
use Rattle.hr_graph.proofs.groups.members.Goals as goal

pub loop-node-init : goal.loop-node-init
loop-node-init c = record { members = members_none (length c.args.leasts.now) _ c.in_ok-rows.ensures; long = ap length c.in_ok-rows.ensures ∙ length-replicate (length c.args.leasts.now) _ }

pub loop-node-preserved : goal.loop-node-preserved
loop-node-preserved c = record { members = members_step c.args.leasts.now c.loop-node.node c.loop-node.rows.items _ _ c.loop-node.invariant.members c.loop-node-test.true (omega (arith, c.loop-node.invariant.long, c.requires c.loop-node.node 0 c.loop-node-test.true)) c.index_mut.ensures.value c.in_ok-append.ensures; long = length-set c.loop-node.rows.items _ _ ∙ c.loop-node.invariant.long }
