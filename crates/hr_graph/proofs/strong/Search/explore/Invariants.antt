use Rattle.hr_graph.specs.Strong.{IsSound, KeepsSeen, work}
use Rattle.hr_graph.proofs.strong.Search.explore.Given as goal

abbrev pub invariant-loop-start : goal.invariant-loop-start
invariant-loop-start l = record {
  sound : IsSound l.rows l.self.marks.items l.self.path.items l.self.starts.items l.self.pending.items l.self.labelled;
  seen : KeepsSeen l.fn.self.marks.items l.self.marks.items;
}

abbrev pub decreases-loop-start : goal.decreases-loop-start
decreases-loop-start l = work l.rows l.self.marks.items l.self.starts.items l.self.pending.items
