use Rattle.std.proofs.Common.{◌≡◌, ◌<◌, ℕ, length, take, vec_len}
use Rattle.hr_graph.specs.Strong.{mark_of, labelled_from}
use Rattle.hr_graph.proofs.strong.shut.Given as goal

abbrev pub invariant-loop-path : goal.invariant-loop-path
invariant-loop-path l = record {
  front : l.path.items ≡ take (length l.path.items) l.fn.path.items;
  kept : length l.path.items < l.start → l.path.items ≡ l.fn.path.items;
  marks : (v : ℕ) → mark_of l.marks.items v ≡ labelled_from l.label (length l.path.items) (mark_of l.fn.marks.items v);
  long : length l.marks.items ≡ length l.fn.marks.items;
}

abbrev pub decreases-loop-path : goal.decreases-loop-path
decreases-loop-path l = vec_len l.path
