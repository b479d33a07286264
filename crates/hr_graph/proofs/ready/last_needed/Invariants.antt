use Rattle.std.proofs.Common.{◌⊎◌, ℕ, length}
use Rattle.std.specs.Prelude.{Contains}
use Rattle.hr_graph.specs.Ready.{IsDone}
use Rattle.hr_graph.proofs.ready.last_needed.Given as goal

abbrev pub invariant-loop-target : goal.invariant-loop-target
invariant-loop-target l = record {
  kept : (v : ℕ) → Contains l.row-inside.list.items v → Contains l.fn.row v;
  dropped : (v : ℕ) → Contains l.fn.row v → Contains l.row-inside.list.items v ⊎ IsDone l.done v;
}

abbrev pub decreases-loop-target : goal.decreases-loop-target
decreases-loop-target l = length l.row-inside.list.items
