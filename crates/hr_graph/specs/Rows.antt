-- A graph by the rows of its nodes.
use Rattle.std.specs.Prelude.{◌≡◌, ℕ, List, [], length, slice_index_or, Contains}

-- the row of each node has the nodes that it points to, and no others
pub record AreRows (nodes : ℕ) (edges : List (ℕ × ℕ)) (rows : List (List ℕ)) : Type 0 where
  pub length_is : length rows ≡ nodes
  pub sound : (u v : ℕ) → Contains (slice_index_or rows u []) v → Contains edges (u, v)
  pub complete : (u v : ℕ) → Contains edges (u, v) → Contains (slice_index_or rows u []) v
