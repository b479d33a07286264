-- Components by their least nodes.
use Rattle.std.specs.Prelude.{◌≡◌, ◌≢◌, ◌<◌, ◌≤◌, ℕ, List, [], ◌∷◌, length, slice_index, slice_index_or, Contains}
use Rattle.std.specs.List.Sorted.{IsStrictlyIncreasing}

-- the least node with the label of v
pub record IsLeastOf (labels : List ℕ) (v least : ℕ) : Type 0 where
  pub same : slice_index labels least ≡ slice_index labels v
  pub below : least ≤ v
  pub least_of : (w : ℕ) → w < length labels → slice_index labels w ≡ slice_index labels v → least ≤ w

-- for each node the least one with its label
pub record AreLeasts (labels leasts : List ℕ) : Type 0 where
  pub long : length leasts ≡ length labels
  pub each : (v : ℕ) → v < length labels → IsLeastOf labels v (slice_index leasts v)

-- the edges between the least nodes of different components
pub record AreLinks (edges : List (ℕ × ℕ)) (leasts : List ℕ) (links : List (ℕ × ℕ)) : Type 0 where
  pub sound : (a b : ℕ) → Contains links (a, b) → (a ≢ b) × ((u : ℕ) × (v : ℕ) × Contains edges (u, v) × (slice_index leasts u ≡ a) × (slice_index leasts v ≡ b))
  pub complete : (u v : ℕ) → Contains edges (u, v) → slice_index leasts u ≢ slice_index leasts v → Contains links (slice_index leasts u, slice_index leasts v)

-- for each node those of which it is the least, ascending
pub record AreGathered (leasts : List ℕ) (rows : List (List ℕ)) : Type 0 where
  pub sound : (a v : ℕ) → Contains (slice_index_or rows a []) v → (v < length leasts) × (slice_index leasts v ≡ a)
  pub complete : (v : ℕ) → v < length leasts → Contains (slice_index_or rows (slice_index leasts v) []) v
  pub ascending : (a : ℕ) → IsStrictlyIncreasing (slice_index_or rows a [])

-- a row is put before the others, unless it is empty
unfoldable pub add_row : List ℕ → List (List ℕ) → List (List ℕ)
add_row [] rest = rest
add_row (v ∷ row) rest = (v ∷ row) ∷ rest

-- the rows of the nodes in turn, but for empty ones
unfoldable pub groups_of : List (List ℕ) → List ℕ → List (List ℕ)
groups_of rows [] = []
groups_of rows (a ∷ nodes) = add_row (slice_index_or rows a []) (groups_of rows nodes)
