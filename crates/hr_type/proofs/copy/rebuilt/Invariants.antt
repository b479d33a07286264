use Rattle.std.proofs.Common.{◌≡◌, [], map, reverse, vec_len}
use Rattle.hr_type.specs.Heads.{built, head_of}
use Rattle.hr_type.proofs.copy.rebuilt.Given as goal

abbrev pub invariant-loop-node : goal.invariant-loop-node
invariant-loop-node l = built (reverse (map (λ t. head_of t.now) l.nodes.items)) l.types.items ≡ built (reverse (map (λ t. head_of t.now) l.initial.nodes.items)) []

abbrev pub decreases-loop-node : goal.decreases-loop-node
decreases-loop-node l = vec_len l.nodes
