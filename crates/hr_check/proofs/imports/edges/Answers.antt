use Rattle.std.proofs.Common.{length}
use Rattle.hr_check.proofs.imports.edges.Goals as goal

pub loop-from-preserved : goal.loop-from-preserved
loop-from-preserved c = c.in_ok-add_module.ensures (length c.args.names.now) c.loop-from-test.true c.loop-from.invariant
