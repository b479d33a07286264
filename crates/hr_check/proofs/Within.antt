-- One import more of a module before the number.
use Rattle.std.proofs.Common.{ℕ, suc, zero, ◌<◌, List, [], ◌∷◌, ◌++◌, All, arith}
use Rattle.std.proofs.lemmas.List.Elements.{All-append}
use Rattle.hr_graph.specs.declared.module_order.ImportEdge.{ImportEdge}

one_within : (count : ℕ) (edge : ImportEdge) → edge.from < count → All (λ one. one.from < count) (edge ∷ [])
one_within count edge less zero d within = less
one_within count edge less (suc k) d within = absurd (omega arith)

pub within_more : (count : ℕ) (edges : List ImportEdge) (edge : ImportEdge) → All (λ one. one.from < count) edges → edge.from < count → All (λ one. one.from < count) (edges ++ edge ∷ [])
within_more count edges edge all less = All-append (λ one. one.from < count) edges (edge ∷ []) all (one_within count edge less)
