-- The number of steps from each node to a goal.
use Rattle.std.specs.Prelude.{◌≡◌, ◌⊎◌, ◌+◌, ◌≤◌, ◌++◌, ◌∷◌, ℕ, List, [], Option, Some, None, length, slice_index_or, slice_set, Contains}

-- the steps of a node, if the goal can be reached from it
abbrev pub steps_of : List (Option ℕ) → ℕ → Option ℕ
steps_of steps u = slice_index_or steps u None

-- The goal has no step to go. Where an edge leads to a node with steps, its own node has at most one
-- more; and each node with steps but the goal has an edge to one with one fewer. So these are the
-- least numbers of steps, and a node without them has no way to the goal.
pub record AreSteps (nodes : ℕ) (edges : List (ℕ × ℕ)) (goal : ℕ) (steps : List (Option ℕ)) : Type 0 where
  pub long : length steps ≡ nodes
  pub at_goal : steps_of steps goal ≡ Some 0
  pub falls : (u v k : ℕ) → Contains edges (u, v) → steps_of steps v ≡ Some k → (j : ℕ) × (steps_of steps u ≡ Some j) × (j ≤ k + 1)
  pub next : (u k : ℕ) → steps_of steps u ≡ Some k → (u ≡ goal) ⊎ ((v : ℕ) × (j : ℕ) × Contains edges (u, v) × (steps_of steps v ≡ Some j) × (k ≡ j + 1))

-- the node is reached in so many steps, unless it was reached before
abbrev pub Reached : Option ℕ → ℕ → ℕ → List (Option ℕ) → List (Option ℕ) → List (ℕ × ℕ) → List (ℕ × ℕ) → Type 0
Reached None node count steps after queue queue_after = (after ≡ slice_set steps node (Some count)) × (queue_after ≡ queue ++ (node, count) ∷ [])
Reached (Some known) node count steps after queue queue_after = (after ≡ steps) × (queue_after ≡ queue)
