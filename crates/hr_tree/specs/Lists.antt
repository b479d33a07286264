-- The items of lists, infix sequences, blocks and right sides, from those of their parts.
use Rattle.std.specs.Prelude.{List, [], ◌∷◌, ◌++◌, Option, Some, None}
use Rattle.std.specs.List.{flat_map}
use Rattle.hr_base.specs.declared.lexeme.Item.{Item}
use Rattle.hr_tree.specs.declared.lists.Listed.{Listed}
use Rattle.hr_tree.specs.declared.lists.Operand.{Operand}
use Rattle.hr_tree.specs.declared.lists.Field.{Field}
use Rattle.hr_tree.specs.declared.lists.Piece.{Piece}
use Rattle.hr_tree.specs.declared.lists.Block.{Block}
use Rattle.hr_tree.specs.declared.lists.Layout.{Layout}
use Rattle.hr_tree.specs.declared.declarations.Body.{Body}
use Rattle.hr_tree.specs.declared.declarations.Guarded.{Guarded}
use Rattle.hr_tree.specs.declared.declarations.Where.{Where}
use Rattle.hr_tree.specs.Names.{maybe_item, maybe_operator, variable_items}

abbrev pub listed_items : {T : Type 0} → (T → List Item) → Listed T → List Item
listed_items of listed = of listed.part ++ maybe_item listed.separator

abbrev pub operand_items : {T : Type 0} → (T → List Item) → Operand T → List Item
operand_items of operand = maybe_item operand.minus ++ (of operand.part ++ maybe_operator operand.operator)

abbrev pub field_items : {T : Type 0} → (T → List Item) → Field T → List Item
field_items of field = variable_items field.name ++ (field.equals ∷ of field.part)

abbrev pub piece_items : {T : Type 0} → (T → List Item) → Piece T → List Item
piece_items of (Piece.Semicolon item) = item ∷ []
piece_items of (Piece.Part part) = of part

-- the brace that begins a block, and the one that ends it
abbrev pub opening_items : Layout → List Item
opening_items (Layout.Implicit col) = []
opening_items (Layout.Explicit left right) = left ∷ []

abbrev pub closing_items : Layout → List Item
closing_items (Layout.Implicit col) = []
closing_items (Layout.Explicit left right) = right ∷ []

abbrev pub block_items : {T : Type 0} → (T → List Item) → Block T → List Item
block_items of block = opening_items block.layout ++ (flat_map (piece_items of) block.pieces ++ closing_items block.layout)

abbrev pub guarded_items : {T : Type 0} → (T → List Item) → Guarded T → List Item
guarded_items of guarded = guarded.bar ∷ (of guarded.guard ++ guarded.mark ∷ of guarded.body)

abbrev pub body_items : {T : Type 0} → (T → List Item) → Body T → List Item
body_items of (Body.Plain mark body) = mark ∷ of body
body_items of (Body.Guarded list) = flat_map (guarded_items of) list

abbrev pub where_items : {T : Type 0} → (T → List Item) → Option (Where T) → List Item
where_items of None = []
where_items of (Some locals) = locals.word ∷ block_items of locals.block
