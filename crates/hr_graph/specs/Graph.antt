-- A graph by the list of its edges: the pair of u and v is an edge from u to v.
use Rattle.std.specs.Prelude.{◌≡◌, ◌≢◌, ◌↔◌, ◌⊎◌, ◌<◌, ◌≤◌, ℕ, List, [], ◌∷◌, length, take, map, slice_index, slice_index_or, All, Contains}
use Rattle.std.specs.List.Sorted.{IsStrictlyIncreasing}
use Rattle.std.specs.Cmp.Lexicographic.{slice_cmp}
use Rattle.std.specs.Ordering.{nat_cmp}
use Rattle.std.specs.declared.cmp.Ordering.TheVariants.{Greater}

-- both ends of each edge are nodes
abbrev pub IsWithin : ℕ → List (ℕ × ℕ) → Type 0
IsWithin nodes edges = All (λ e. (e.0 < nodes) × (e.1 < nodes)) edges

-- the graph with each edge turned round
abbrev pub turned : List (ℕ × ℕ) → List (ℕ × ℕ)
turned edges = map (λ e. (e.1, e.0)) edges

-- w can be reached from u along edges
pub data LeadsTo (edges : List (ℕ × ℕ)) : ℕ → ℕ → Type 0 where
  here : (u : ℕ) → LeadsTo edges u u
  along : (u v w : ℕ) → Contains edges (u, v) → LeadsTo edges v w → LeadsTo edges u w

-- the two nodes lie in one strong component
abbrev pub Mutual : List (ℕ × ℕ) → ℕ → ℕ → Type 0
Mutual edges u v = LeadsTo edges u v × LeadsTo edges v u

-- after those of the list the node may come: it points to no others
pub record MayCome (nodes : ℕ) (edges : List (ℕ × ℕ)) (before : List ℕ) (node : ℕ) : Type 0 where
  pub below : node < nodes
  pub fresh : Contains before node → ⊥
  pub after : (target : ℕ) → Contains edges (node, target) → Contains before target

-- the least node that may come
pub record IsNext (nodes : ℕ) (edges : List (ℕ × ℕ)) (before : List ℕ) (node : ℕ) : Type 0 where
  pub ready : MayCome nodes edges before node
  pub least : (other : ℕ) → MayCome nodes edges before other → node ≤ other

-- each node of the list is the least that may come after those before it
abbrev pub IsInOrder : ℕ → List (ℕ × ℕ) → List ℕ → Type 0
IsInOrder nodes edges order =
    (k : ℕ) → k < length order → IsNext nodes edges (take k order) (slice_index order k)

-- the nodes in order, all of them
pub record IsOrder (nodes : ℕ) (edges : List (ℕ × ℕ)) (order : List ℕ) : Type 0 where
  pub each : IsInOrder nodes edges order
  pub whole : (node : ℕ) → node < nodes → Contains order node

-- from u along edges through the nodes of the list, in turn, to the last one
abbrev pub LeadsThrough : List (ℕ × ℕ) → ℕ → List ℕ → ℕ → Type 0
LeadsThrough edges u [] last = Contains edges (u, last)
LeadsThrough edges u (v ∷ vs) last = Contains edges (u, v) × LeadsThrough edges v vs last

-- The cycle of the first node and the rest: it begins with the least node that lies on a cycle, it is
-- a shortest one through that node, and among these the first by the order of the nodes.
pub record IsFirstCycle (edges : List (ℕ × ℕ)) (first : ℕ) (rest : List ℕ) : Type 0 where
  pub cycle : LeadsThrough edges first rest first
  pub begins : (other : ℕ) (way : List ℕ) → LeadsThrough edges other way other → first ≤ other
  pub shortest : (way : List ℕ) → LeadsThrough edges first way first → length rest ≤ length way
  pub earliest : (way : List ℕ) → LeadsThrough edges first way first → length way ≡ length rest → slice_cmp nat_cmp rest way ≢ Greater

-- the node lies in one of the components
abbrev pub IsPlaced : List (List ℕ) → ℕ → Type 0
IsPlaced components node =
    (k : ℕ) × (k < length components) × Contains (slice_index_or components k []) node

-- after these components that of the node may come: it points to no others
pub record IsFree (nodes : ℕ) (edges : List (ℕ × ℕ)) (before : List (List ℕ)) (node : ℕ) : Type 0 where
  pub below : node < nodes
  pub fresh : IsPlaced before node → ⊥
  pub after : (other : ℕ) → LeadsTo edges node other → IsPlaced before other ⊎ LeadsTo edges other node

-- the component of the node, ascending, where the node is the least whose component may come
pub record IsNextComponent (nodes : ℕ) (edges : List (ℕ × ℕ)) (before : List (List ℕ)) (component : List ℕ) (node : ℕ) : Type 0 where
  pub free : IsFree nodes edges before node
  pub least : (other : ℕ) → IsFree nodes edges before other → node ≤ other
  pub members : (other : ℕ) → Contains component other ↔ Mutual edges node other
  pub ascending : IsStrictlyIncreasing component

-- each of the lists is the component that is next after those before it
abbrev pub AreInOrder : ℕ → List (ℕ × ℕ) → List (List ℕ) → Type 0
AreInOrder nodes edges components =
    (k : ℕ) → k < length components
    → (node : ℕ) × IsNextComponent nodes edges (take k components) (slice_index_or components k []) node

-- the strong components in order, all of them
pub record AreComponents (nodes : ℕ) (edges : List (ℕ × ℕ)) (components : List (List ℕ)) : Type 0 where
  pub each : AreInOrder nodes edges components
  pub whole : (node : ℕ) → node < nodes → IsPlaced components node
