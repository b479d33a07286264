-- Imports of modules by their numbers.
use Rattle.std.specs.Prelude.{ℕ, ◌<◌, List, All}
use Rattle.hr_graph.specs.declared.module_order.ImportEdge.{ImportEdge}

-- with imports of this module more, all are still imports of modules before any number that its own one is before
abbrev pub StaysWithin : ℕ → List ImportEdge → List ImportEdge → Type 0
StaysWithin from before after = (count : ℕ) → from < count → All (λ one. one.from < count) before → All (λ one. one.from < count) after
