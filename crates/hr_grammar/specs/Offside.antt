-- The layout rule on a whole tree (Haskell 98 Report, sections 2.7 and 9.3): where its blocks without braces
-- may stand.
use Rattle.std.specs.Prelude.{ℕ, suc, ◌+◌, ◌≡◌, ◌⊎◌, ◌<◌, ◌≤◌, Bool, true, false, ◌&&◌, ◌||◌, ◌==◌, nat_lt, nat_le, List, [], ◌∷◌, drop}
use Rattle.std.specs.List.{AllByRecursion, list_any}
use Rattle.hr_rules.specs.declared.block.Placed.{Placed}
use Rattle.hr_rules.specs.Blocks.{placed_of, at_margin, ends_block}
use Rattle.hr_tree.specs.declared.lists.Layout.{Layout}
use Rattle.hr_tree.specs.declared.modules.Module.{Module}
use Rattle.hr_tree.specs.Yields.{module_items}
use Rattle.hr_grammar.specs.Spans.{BlockSpan, Stretch, stretch_length, spans_of}

-- an implicit block that is left empty, since the lexeme behind its opening is not right of the enclosing block
abbrev pub is_left_empty : BlockSpan → Bool
is_left_empty span = is_left_empty_by span.layout span.enclosing
  where
    is_left_empty_by : Layout → ℕ → Bool
    is_left_empty_by (Layout.Implicit col) m = nat_le col m
    is_left_empty_by (Layout.Explicit left right) m = false

-- the lexemes with their places; one behind a block that is left empty counts as first on its line. They are
-- numbered from n
abbrev pub placed_among : List BlockSpan → ℕ → List Placed → List Placed
placed_among spans n [] = []
placed_among spans n (next ∷ rest) =
    record { item = next.item; pos = next.pos; first = next.first || list_any (λ (span : BlockSpan). is_left_empty span && (span.start == n)) spans }
    ∷ placed_among spans (suc n) rest

-- the lexemes of a tree with their places
abbrev pub placed_lexemes : Module → List Placed
placed_lexemes tree = placed_among (spans_of tree) 0 (placed_of (module_items tree))

-- the column of the next lexeme, 0 where there is none
abbrev pub column_of : List Placed → ℕ
column_of [] = 0
column_of (next ∷ rest) = next.pos.col

-- the next lexeme is first on its line, at column n
abbrev pub IsAtMargin : ℕ → List Placed → Type 0
IsAtMargin n [] = ⊥
IsAtMargin n (next ∷ rest) = at_margin n next ≡ true

-- the numbers of the lexemes with which parts begin that stand directly behind another one, without a `;`, where the
-- pieces begin with the number s
abbrev pub undivided : ℕ → List Stretch → List ℕ
undivided s [] = []
undivided s (Stretch.Semicolon ∷ pieces) = undivided (s + 1) pieces
undivided s (Stretch.Part k ∷ []) = []
undivided s (Stretch.Part k ∷ (Stretch.Semicolon ∷ pieces)) = undivided (s + k) (Stretch.Semicolon ∷ pieces)
undivided s (Stretch.Part k ∷ (Stretch.Part j ∷ pieces)) = (s + k) ∷ undivided (s + k) (Stretch.Part j ∷ pieces)

-- point 2: each of these is first on its line at n
abbrev pub PartsBegin : ℕ → List Placed → ℕ → List Stretch → Type 0
PartsBegin n lexemes start pieces = AllByRecursion (λ i. IsAtMargin n (drop i lexemes)) (undivided start pieces)

-- the numbers of the lexemes with which the pieces begin, where the first of them has the number s
abbrev pub piece_starts : ℕ → List Stretch → List ℕ
piece_starts s [] = []
piece_starts s (piece ∷ pieces) = s ∷ piece_starts (s + stretch_length piece) pieces

-- the lexeme of that number stands in explicit braces, themselves counted, inside the block
abbrev pub is_braced : List BlockSpan → BlockSpan → ℕ → Bool
is_braced spans block i = list_any (λ (span : BlockSpan). (is_explicit span.layout && (nat_le block.start span.start && nat_le (span.start + span.extent) (block.start + block.extent)))
    && (nat_le span.start i && nat_lt i (span.start + span.extent))) spans
  where
    is_explicit : Layout → Bool
    is_explicit (Layout.Implicit col) = false
    is_explicit (Layout.Explicit left right) = true

-- the next lexeme, where there is one, is such
abbrev pub Next : (Placed → Type 0) → List Placed → Type 0
Next Is [] = Unit {0}
Next Is (next ∷ rest) = Is next

-- point 3, of the lexeme of that number: if it is first on its line, and in no braces inside the block, it stands right
-- of n, but for the block's first lexeme and those at n with which a piece begins
abbrev pub StandsRight : List BlockSpan → BlockSpan → ℕ → ℕ → Placed → Type 0
StandsRight spans block n i next =
    next.first ≡ true → is_braced spans block i ≡ false
    → (n < next.pos.col) ⊎ ((i ≡ block.start) ⊎ ((next.pos.col ≡ n) × (list_any (λ s. s == i) (piece_starts block.start block.pieces) ≡ true)))

-- an implicit block at column n with lexemes round it
pub record IsOffside (spans : List BlockSpan) (lexemes : List Placed) (block : BlockSpan) (n : ℕ) : Type 0 where
  -- its column is that of the lexeme behind its opening, and one that is left empty has no lexeme
  pub column : n ≡ column_of (drop block.start lexemes)
  pub empty : n ≤ block.enclosing → block.pieces ≡ []
  pub parts : block.enclosing < n → PartsBegin n lexemes block.start block.pieces
  -- point 3, of each lexeme of the block
  pub stands : block.enclosing < n → (i : ℕ) → block.start ≤ i → i < block.start + block.extent → Next (StandsRight spans block n i) (drop i lexemes)
  -- point 4: the lexeme behind the block is missing, or first on its line and left of n, or first at n and not
  -- able to begin a part, or neither and not able to follow the last part
  pub ends : block.enclosing < n → ends_block n block.kind block.ending (drop (block.start + block.extent) lexemes) ≡ true

abbrev pub StandsAs : List BlockSpan → List Placed → BlockSpan → Layout → Type 0
StandsAs spans lexemes block (Layout.Implicit col) = IsOffside spans lexemes block col
StandsAs spans lexemes block (Layout.Explicit left right) = Unit {0}

abbrev pub StandsWell : List BlockSpan → List Placed → BlockSpan → Type 0
StandsWell spans lexemes block = StandsAs spans lexemes block block.layout

-- each block of the tree stands as the layout rule says
abbrev pub Offside : Module → Type 0
Offside tree = AllByRecursion (StandsWell (spans_of tree) (placed_lexemes tree)) (spans_of tree)
