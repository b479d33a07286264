-- One node of the agenda is settled: it is ready, or waits for a target that isn't done.
use Rattle.std.specs.Prelude.{◌≡◌, ◌⊎◌, ◌++◌, ◌∷◌, ℕ, Bool, true, false, List, [], slice_index_or, slice_set, Contains}
use Rattle.std.specs.BTreeSet.{insert_key}
use Rattle.std.specs.Ordering.{nat_cmp}

-- the node is done
abbrev pub IsDone : List Bool → ℕ → Type 0
IsDone done v = slice_index_or done v false ≡ true

-- it has no target left, and is ready
pub record GetsReady (waiting waiting_after : List (List ℕ)) (ready ready_after row : List ℕ) (node : ℕ) : Type 0 where
  pub row_is : row ≡ []
  pub waiting_is : waiting_after ≡ waiting
  pub ready_is : ready_after ≡ insert_key nat_cmp ready node

-- it waits for one of its targets
pub record WaitsForTarget (waiting waiting_after : List (List ℕ)) (ready ready_after row : List ℕ) (done : List Bool) (node : ℕ) : Type 0 where
  pub target : ℕ
  pub among : Contains row target
  pub needed : slice_index_or done target false ≡ false
  pub waiting_is : waiting_after ≡ slice_set waiting target (slice_index_or waiting target [] ++ node ∷ [])
  pub ready_is : ready_after ≡ ready

-- what settling a node changes
pub record Settled (left left_after waiting waiting_after : List (List ℕ)) (done : List Bool) (ready ready_after : List ℕ) (node : ℕ) : Type 0 where
  pub row : List ℕ
  pub left_is : left_after ≡ slice_set left node row
  pub kept : (v : ℕ) → Contains row v → Contains (slice_index_or left node []) v
  pub dropped : (v : ℕ) → Contains (slice_index_or left node []) v → Contains row v ⊎ IsDone done v
  pub outcome : GetsReady waiting waiting_after ready ready_after row node ⊎ WaitsForTarget waiting waiting_after ready ready_after row done node
