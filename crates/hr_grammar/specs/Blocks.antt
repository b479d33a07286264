-- Blocks: the Haskell 98 Report, sections 2.7 and 9.3. An implicit block has no braces in the tree; where
-- its parts may begin, the layout rule says.
use Rattle.std.specs.Prelude.{List, [], ◌∷◌}
use Rattle.hr_tree.specs.declared.lists.Layout.{Layout}
use Rattle.hr_tree.specs.declared.lists.Piece.{Piece}
use Rattle.hr_grammar.specs.Words.{IsLeftBrace, IsRightBrace, IsSemicolon}

-- each piece is a `;` or a part
abbrev pub IsPiece : {T : Type 0} → (T → Type 0) → Piece T → Type 0
IsPiece Is (Piece.Semicolon item) = IsSemicolon item
IsPiece Is (Piece.Part part) = Is part

-- a `;` stands between any two parts
abbrev pub PartsAreSeparated : {T : Type 0} → List (Piece T) → Type 0
PartsAreSeparated [] = Unit {0}
PartsAreSeparated (piece ∷ []) = Unit {0}
PartsAreSeparated (Piece.Part part ∷ (Piece.Part next ∷ rest)) = ⊥
PartsAreSeparated (Piece.Part part ∷ (Piece.Semicolon item ∷ rest)) = PartsAreSeparated (Piece.Semicolon item ∷ rest)
PartsAreSeparated (Piece.Semicolon item ∷ (next ∷ rest)) = PartsAreSeparated (next ∷ rest)

-- the braces of a block
abbrev pub AreBraced : {T : Type 0} → Layout → List (Piece T) → Type 0
AreBraced (Layout.Implicit col) pieces = Unit {0}
AreBraced (Layout.Explicit left right) pieces = IsLeftBrace left × (IsRightBrace right × PartsAreSeparated pieces)
