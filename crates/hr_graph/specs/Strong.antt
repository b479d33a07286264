-- The search for strong components: the state that it keeps, by the rows of the graph.
use Rattle.std.specs.Prelude.{◌≡◌, ◌⊎◌, ◌+◌, ◌<◌, ◌≤◌, ℕ, List, [], ◌∷◌, length, take, map, replicate, cond, nat_lt, slice_index, slice_index_or, Contains, AllPairs}
use Rattle.hr_graph.specs.Graph.{LeadsTo}
use Rattle.hr_graph.specs.declared.strong.Mark.{Mark}
use Rattle.hr_graph.specs.declared.strong.Mark.TheVariants.{Unseen, Open, Labelled}

-- the row of u has v
abbrev pub IsSuccessor : List (List ℕ) → ℕ → ℕ → Type 0
IsSuccessor rows u v = Contains (slice_index_or rows u []) v

-- a way from u to w along the rows
pub data WayAlong (rows : List (List ℕ)) : ℕ → ℕ → Type 0 where
  stay : (u : ℕ) → WayAlong rows u u
  go : (u v w : ℕ) → IsSuccessor rows u v → WayAlong rows v w → WayAlong rows u w

-- the mark of a node
abbrev pub mark_of : List Mark → ℕ → Mark
mark_of marks v = slice_index_or marks v Unseen

-- no group of the path begins behind place q and not behind p: from p one can come back to q
abbrev pub ComesBack : List ℕ → ℕ → ℕ → Type 0
ComesBack starts p q = (s : ℕ) → Contains starts s → q < s → p < s

-- the path has the open nodes, each at its place
pub record IsPath (marks : List Mark) (path : List ℕ) : Type 0 where
  pub place : (v p : ℕ) → mark_of marks v ≡ Open p → (p < length path) × (slice_index path p ≡ v)
  pub mark : (p : ℕ) → p < length path → mark_of marks (slice_index path p) ≡ Open p

-- the places at which the groups begin
pub record AreStarts (path starts : List ℕ) : Type 0 where
  pub below : (s : ℕ) → Contains starts s → s < length path
  pub rise : AllPairs (λ s t. s < t) starts
  pub cover : (p : ℕ) → p < length path → (s : ℕ) × Contains starts s × (s ≤ p)

-- the edges of a row, by the place of the node
abbrev pub waiting : ℕ → List ℕ → List (ℕ × ℕ)
waiting place row = map (λ v. (place, v)) row

-- edges of open nodes that are still to be followed, by the place of the node
pub record ArePending (rows : List (List ℕ)) (path : List ℕ) (pending : List (ℕ × ℕ)) : Type 0 where
  pub edge : (p v : ℕ) → Contains pending (p, v) → (p < length path) × IsSuccessor rows (slice_index path p) v
  pub rise : AllPairs (λ e f. e.0 ≤ f.0) pending

-- the target of an edge of the node at place p is labelled, or open and not behind the group of p
abbrev pub IsSettled : List ℕ → ℕ → Mark → Type 0
IsSettled starts p Unseen = ⊥
IsSettled starts p (Open q) = ComesBack starts p q
IsSettled starts p (Labelled label) = Unit {0}

-- the component with the label has no edge to a later one
abbrev pub IsNotLater : ℕ → Mark → Type 0
IsNotLater label Unseen = ⊥
IsNotLater label (Open q) = ⊥
IsNotLater label (Labelled other) = other ≤ label

pub record AreLabelled (rows : List (List ℕ)) (marks : List Mark) (labelled : ℕ) : Type 0 where
  pub edge : (u v label : ℕ) → mark_of marks u ≡ Labelled label → IsSuccessor rows u v → IsNotLater label (mark_of marks v)
  pub way : (u v label : ℕ) → mark_of marks u ≡ Labelled label → mark_of marks v ≡ Labelled label → WayAlong rows u v
  pub below : (u label : ℕ) → mark_of marks u ≡ Labelled label → label < labelled

-- what the search keeps
pub record IsSearch (rows : List (List ℕ)) (marks : List Mark) (path starts : List ℕ) (pending : List (ℕ × ℕ)) (labelled : ℕ) : Type 0 where
  pub on_path : IsPath marks path
  pub begins : AreStarts path starts
  pub way : (p q : ℕ) → p < length path → q < length path → ComesBack starts p q → WayAlong rows (slice_index path p) (slice_index path q)
  pub waits : ArePending rows path pending
  pub edge : (p v : ℕ) → p < length path → IsSuccessor rows (slice_index path p) v → Contains pending (p, v) ⊎ IsSettled starts p (mark_of marks v)
  pub shut : AreLabelled rows marks labelled

-- the same, but for the edges to one node, of which one is being followed
pub record IsSearchBut (spare : ℕ) (rows : List (List ℕ)) (marks : List Mark) (path starts : List ℕ) (pending : List (ℕ × ℕ)) (labelled : ℕ) : Type 0 where
  pub on_path : IsPath marks path
  pub begins : AreStarts path starts
  pub way : (p q : ℕ) → p < length path → q < length path → ComesBack starts p q → WayAlong rows (slice_index path p) (slice_index path q)
  pub waits : ArePending rows path pending
  pub edge : (p v : ℕ) → p < length path → IsSuccessor rows (slice_index path p) v → (Contains pending (p, v) ⊎ IsSettled starts p (mark_of marks v)) ⊎ (v ≡ spare)
  pub shut : AreLabelled rows marks labelled

-- a mark after the nodes from the place on are labelled
abbrev pub labelled_from : ℕ → ℕ → Mark → Mark
labelled_from label start Unseen = Unseen
labelled_from label start (Open p) = cond (nat_lt p start) (Open p) (Labelled label)
labelled_from label start (Labelled other) = Labelled other

-- the groups that begin up to the place are left
pub record Joined (before after : List ℕ) (place : ℕ) : Type 0 where
  pub front : after ≡ take (length after) before
  pub dropped : (k : ℕ) → length after ≤ k → k < length before → place < slice_index before k
  pub last : (k : ℕ) → k + 1 ≡ length after → slice_index after k ≤ place

-- no edge of a node at the place or behind it is left
abbrev pub AreEarly : List (ℕ × ℕ) → ℕ → Type 0
AreEarly pending start = (k : ℕ) (d : ℕ × ℕ) → k + 1 ≡ length pending → (slice_index_or pending k d).0 < start

-- the sum of the weights of the nodes that were not seen
abbrev pub weigh : List ℕ → List Mark → ℕ
weigh [] marks = 0
weigh (w ∷ ws) [] = 0
weigh (w ∷ ws) (Unseen ∷ marks) = w + weigh ws marks
weigh (w ∷ ws) (Open p ∷ marks) = weigh ws marks
weigh (w ∷ ws) (Labelled label ∷ marks) = weigh ws marks

-- one for each node
abbrev pub ones : List (List ℕ) → List ℕ
ones rows = map (λ row. 1) rows

-- the edges of each node, and two for entering and closing it
abbrev pub loads : List (List ℕ) → List ℕ
loads rows = map (λ row. length row + 2) rows

-- there is a number for each component that is still to be labelled
abbrev pub HasRoom : List (List ℕ) → List Mark → List ℕ → ℕ → Type 0
HasRoom rows marks starts labelled = labelled + length starts + weigh (ones rows) marks ≤ length rows

-- what is left to do
abbrev pub work : List (List ℕ) → List Mark → List ℕ → List (ℕ × ℕ) → ℕ
work rows marks starts pending = weigh (loads rows) marks + length pending + length starts

-- the targets are nodes
abbrev pub HasTargets : List (List ℕ) → Type 0
HasTargets rows = (u v : ℕ) → IsSuccessor rows u v → v < length rows

-- a search that is sound, with room
pub record IsSound (rows : List (List ℕ)) (marks : List Mark) (path starts : List ℕ) (pending : List (ℕ × ℕ)) (labelled : ℕ) : Type 0 where
  pub search : IsSearch rows marks path starts pending labelled
  pub long : length marks ≡ length rows
  pub room : HasRoom rows marks starts labelled

-- the same while an edge of the last group to the target is followed
pub record IsFollowing (rows : List (List ℕ)) (marks : List Mark) (path starts : List ℕ) (pending : List (ℕ × ℕ)) (labelled target : ℕ) : Type 0 where
  pub search : IsSearchBut target rows marks path starts pending labelled
  pub long : length marks ≡ length rows
  pub room : HasRoom rows marks starts labelled
  pub place : ℕ
  pub within : place < length path
  pub edge : IsSuccessor rows (slice_index path place) target
  pub last : (s : ℕ) → Contains starts s → s ≤ place

-- the node was seen
abbrev pub IsSeen : Mark → Type 0
IsSeen Unseen = ⊥
IsSeen (Open p) = Unit {0}
IsSeen (Labelled label) = Unit {0}

-- what was seen stays so
abbrev pub KeepsSeen : List Mark → List Mark → Type 0
KeepsSeen before after = (v : ℕ) → IsSeen (mark_of before v) → IsSeen (mark_of after v)

-- the number in a mark
abbrev pub label_in : Mark → ℕ
label_in Unseen = 0
label_in (Open p) = 0
label_in (Labelled label) = label

-- Numbers for the strong components: no edge leads to a greater one, and nodes with one number reach
-- each other. So two nodes that reach each other have one number.
pub record AreLabels (nodes : ℕ) (edges : List (ℕ × ℕ)) (labels : List ℕ) : Type 0 where
  pub long : length labels ≡ nodes
  pub small : (u : ℕ) → u < nodes → slice_index labels u < nodes
  pub falls : (u v : ℕ) → Contains edges (u, v) → slice_index labels v ≤ slice_index labels u
  pub way : (u v : ℕ) → u < nodes → v < nodes → slice_index labels u ≡ slice_index labels v → LeadsTo edges u v

-- a search that has seen nothing
pub record IsFresh (nodes : ℕ) (marks : List Mark) (path starts : List ℕ) (pending : List (ℕ × ℕ)) (labelled : ℕ) : Type 0 where
  pub marks_are : marks ≡ replicate nodes Unseen
  pub path_is : path ≡ []
  pub starts_are : starts ≡ []
  pub pending_is : pending ≡ []
  pub labelled_is : labelled ≡ 0
