-- What the search for the first cycle finds.
use Rattle.std.specs.Prelude.{◌≡◌, ◌⊎◌, ◌≤◌, ◌<◌, ◌∷◌, ℕ, List, [], Option, Some, None, min, slice_index, Contains, IfSome}
use Rattle.hr_graph.specs.Graph.{LeadsTo, IsFirstCycle}
use Rattle.hr_graph.specs.Levels.{steps_of}

-- the nodes can be numbered such that each edge leads to a lesser number
abbrev pub IsNumbered : List (ℕ × ℕ) → Type 0
IsNumbered edges = (numbers : List ℕ) × ((u v : ℕ) → Contains edges (u, v) → slice_index numbers v < slice_index numbers u)

-- the least node that lies on a cycle
pub record IsFirstOn (edges : List (ℕ × ℕ)) (first : ℕ) : Type 0 where
  pub target : ℕ
  pub edge : Contains edges (first, target)
  pub back : LeadsTo edges target first
  pub least : (u v : ℕ) → Contains edges (u, v) → LeadsTo edges v u → first ≤ u

-- of the edges, those between nodes of one number have this least beginning
abbrev pub IsFirstEqual : List ℕ → List (ℕ × ℕ) → Option ℕ → Type 0
IsFirstEqual numbers edges None = (u v : ℕ) → Contains edges (u, v) → slice_index numbers u ≡ slice_index numbers v → ⊥
IsFirstEqual numbers edges (Some first) =
    ((target : ℕ) × Contains edges (first, target) × (slice_index numbers first ≡ slice_index numbers target))
    × ((u v : ℕ) → Contains edges (u, v) → slice_index numbers u ≡ slice_index numbers v → first ≤ u)

-- the lesser of two, if there are two
abbrev pub lesser : Option ℕ → ℕ → ℕ
lesser None node = node
lesser (Some other) node = min other node

-- a node with fewer steps, or with as many and not greater
abbrev pub IsNotAfter : ℕ × ℕ → ℕ × ℕ → Type 0
IsNotAfter a b = (a.0 < b.0) ⊎ ((a.0 ≡ b.0) × (a.1 ≤ b.1))

-- of the nodes of a row, with their steps, none comes before this one
abbrev pub IsNearest : List ℕ → List (Option ℕ) → Option (ℕ × ℕ) → Type 0
IsNearest row steps None = (v k : ℕ) → Contains row v → steps_of steps v ≡ Some k → ⊥
IsNearest row steps (Some best) =
    Contains row best.1 × (steps_of steps best.1 ≡ Some best.0)
    × ((v k : ℕ) → Contains row v → steps_of steps v ≡ Some k → IsNotAfter best (k, v))

-- one of the two, and not after the other
pub record IsNearer (best : Option (ℕ × ℕ)) (other result : ℕ × ℕ) : Type 0 where
  pub one : (result ≡ other) ⊎ (best ≡ Some result)
  pub new : IsNotAfter result other
  pub old : IfSome best (IsNotAfter result)

-- the shortest cycle through its first node, and the first of these by the order of the nodes
abbrev pub IsLeastThrough : List (ℕ × ℕ) → ℕ → List ℕ → Type 0
IsLeastThrough edges first [] = ⊥
IsLeastThrough edges first (node ∷ rest) = (node ≡ first) × IsFirstCycle edges first rest
