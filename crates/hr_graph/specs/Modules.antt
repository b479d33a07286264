-- Modules by their names, and what an order of them, or a refusal, says of their imports.
use Rattle.std.specs.Prelude.{◌≡◌, ◌≢◌, ℕ, List, [], ◌∷◌, Some, length, take, map, slice_get, slice_index_or, Contains, AllPairs}
use Rattle.std.specs.List.{AllZip}
use Rattle.std.specs.Cmp.Lexicographic.{slice_cmp}
use Rattle.std.specs.Ordering.{nat_cmp}
use Rattle.std.specs.BTreeMap.{BTreeMap, get}
use Rattle.hr_base.specs.declared.place.Place.{Place}
use Rattle.hr_graph.specs.declared.module_order.ImportEdge.{ImportEdge}
use Rattle.hr_graph.specs.declared.module_order.GraphError.{GraphError}
use Rattle.hr_graph.specs.declared.module_order.GraphError.TheVariants.{DuplicateModule, NoModule, ImportCycle, Memory}
use Rattle.hr_graph.specs.Graph.{IsOrder, IsFirstCycle}

-- no name stands twice
abbrev pub HasNoRepeat : List (List ℕ) → Type 0
HasNoRepeat names = AllPairs (λ a b. a ≢ b) names

-- the first name in order that stood before
pub record IsFirstRepeat (names : List (List ℕ)) (name : List ℕ) : Type 0 where
  pub place : ℕ
  pub at : slice_get names place ≡ Some name
  pub before : Contains (take place names) name
  pub first : HasNoRepeat (take place names)

-- the first import that names no module
pub record IsFirstUnknown (names : List (List ℕ)) (imports : List ImportEdge) (name : List ℕ) (place : Place) : Type 0 where
  pub index : ℕ
  pub wrong : ImportEdge
  pub at : slice_get imports index ≡ Some wrong
  pub name_is : name ≡ wrong.to
  pub place_is : place ≡ wrong.place
  pub unknown : Contains names wrong.to → ⊥
  pub known : (other : ImportEdge) → Contains (take index imports) other → Contains names other.to

-- the pair of the module that has the import and of the place of the name that it imports
abbrev pub IsEdgeOf : List (List ℕ) → ImportEdge → ℕ × ℕ → Type 0
IsEdgeOf names one edge = (edge.0 ≡ one.from) × (slice_get names edge.1 ≡ Some one.to)

-- the edges of the import graph, one for each import
abbrev pub AreEdges : List (List ℕ) → List ImportEdge → List (ℕ × ℕ) → Type 0
AreEdges names imports edges = AllZip (IsEdgeOf names) imports edges

-- the modules in reading order: there is no refusal, and each comes when it is the first that may come
pub record IsReadingOrder (names : List (List ℕ)) (imports : List ImportEdge) (order : List ℕ) : Type 0 where
  pub distinct : HasNoRepeat names
  pub edges : List (ℕ × ℕ)
  pub edges_are : AreEdges names imports edges
  pub in_order : IsOrder (length names) edges order

-- the names of the first of the shortest cycles through the first node that lies on one
pub record ShowsCycle (names : List (List ℕ)) (edges : List (ℕ × ℕ)) (shown : List (List ℕ)) : Type 0 where
  pub first : ℕ
  pub rest : List ℕ
  pub cycle : IsFirstCycle edges first rest
  pub shown_is : shown ≡ map (λ place. slice_index_or names place []) (first ∷ rest)

-- the same by the imports
pub record IsShownCycle (names : List (List ℕ)) (imports : List ImportEdge) (shown : List (List ℕ)) : Type 0 where
  pub edges : List (ℕ × ℕ)
  pub edges_are : AreEdges names imports edges
  pub shows : ShowsCycle names edges shown

-- A repeated name is refused first, then an import of no module, and then a cycle. Want of memory may
-- come at any time.
abbrev pub IsOrderRefusal : List (List ℕ) → List ImportEdge → GraphError → Type 0
IsOrderRefusal names imports (DuplicateModule name) = IsFirstRepeat names name
IsOrderRefusal names imports (NoModule name place) = HasNoRepeat names × IsFirstUnknown names imports name place
IsOrderRefusal names imports (ImportCycle shown) = HasNoRepeat names × IsShownCycle names imports shown
IsOrderRefusal names imports (Memory reason) = Unit {0}

-- a repeated name is refused
abbrev pub IsRepeatRefused : List (List ℕ) → GraphError → Type 0
IsRepeatRefused names (DuplicateModule name) = IsFirstRepeat names name
IsRepeatRefused names (NoModule name place) = ⊥
IsRepeatRefused names (ImportCycle shown) = ⊥
IsRepeatRefused names (Memory reason) = Unit {0}

-- the refusal shows this name as repeated
abbrev pub ShowsRepeat : List ℕ → GraphError → Type 0
ShowsRepeat name (DuplicateModule shown) = shown ≡ name
ShowsRepeat name (NoModule shown place) = ⊥
ShowsRepeat name (ImportCycle shown) = ⊥
ShowsRepeat name (Memory reason) = Unit {0}

-- an import of no module is refused
abbrev pub IsUnknownRefused : List (List ℕ) → List ImportEdge → GraphError → Type 0
IsUnknownRefused names imports (DuplicateModule name) = ⊥
IsUnknownRefused names imports (NoModule name place) = IsFirstUnknown names imports name place
IsUnknownRefused names imports (ImportCycle shown) = ⊥
IsUnknownRefused names imports (Memory reason) = Unit {0}

-- the refusal shows what this import names, and where
abbrev pub ShowsUnknown : ImportEdge → GraphError → Type 0
ShowsUnknown one (DuplicateModule shown) = ⊥
ShowsUnknown one (NoModule name place) = (name ≡ one.to) × (place ≡ one.place)
ShowsUnknown one (ImportCycle shown) = ⊥
ShowsUnknown one (Memory reason) = Unit {0}

-- the place of each name that was seen, and of no other
pub record ArePlaces (seen : List (List ℕ)) (places : BTreeMap (List ℕ) ℕ) : Type 0 where
  pub at : (name : List ℕ) (place : ℕ) → get (slice_cmp nat_cmp) places name ≡ Some place → slice_get seen place ≡ Some name
  pub all : (name : List ℕ) → Contains seen name → (place : ℕ) × (get (slice_cmp nat_cmp) places name ≡ Some place)
