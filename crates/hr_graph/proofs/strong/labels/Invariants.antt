use Rattle.std.proofs.Common.{◌≡◌, ◌<◌, ℕ, []}
use Rattle.hr_graph.specs.Strong.{IsSound, IsSeen, mark_of}
use Rattle.hr_graph.proofs.strong.labels.Given as goal

abbrev pub invariant-loop-root : goal.invariant-loop-root
invariant-loop-root l = record {
  sound : IsSound l.rows.items l.search.marks.items l.search.path.items l.search.starts.items l.search.pending.items l.search.labelled;
  empty : l.search.starts.items ≡ [];
  seen : (v : ℕ) → v < l.root → IsSeen (mark_of l.search.marks.items v);
}
