use Rattle.hr_graph.proofs.RowLemmas.{rows_step}
use Rattle.hr_graph.proofs.rows.successors.Goals as goal

pub loop-from-preserved : goal.loop-from-preserved
loop-from-preserved c = rows_step _ _ _ _ _ _ c.requires c.loop-from-test.true c.loop-from.invariant c.index_mut.ensures.value c.in_ok-append.ensures
