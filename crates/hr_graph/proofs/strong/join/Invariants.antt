use Rattle.std.proofs.Common.{◌≡◌, ◌<◌, ◌≤◌, ℕ, length, take, get_or, vec_len}
use Rattle.hr_graph.proofs.strong.join.Given as goal

abbrev pub invariant-loop-start : goal.invariant-loop-start
invariant-loop-start l = record {
  front : l.starts.items ≡ take (length l.starts.items) l.fn.starts.items;
  dropped : (k : ℕ) → length l.starts.items ≤ k → k < length l.fn.starts.items → l.place < get_or l.fn.starts.items k 0;
}

abbrev pub decreases-loop-start : goal.decreases-loop-start
decreases-loop-start l = vec_len l.starts
