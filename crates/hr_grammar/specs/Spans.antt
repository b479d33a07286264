-- The layout blocks of a tree: where each one stands among the lexemes, which blocks are round it, and how
-- its last part ends.
use Rattle.std.specs.Prelude.{ℕ, ◌+◌, ◌==◌, Bool, true, false, if◌then◌else◌, List, [], ◌∷◌, ◌++◌, length, map, Option, Some, None}
use Rattle.std.specs.List.{flat_map}
use Rattle.hr_base.specs.declared.lexeme.Ending.{Ending}
use Rattle.hr_base.specs.declared.lexeme.Item.{Item}
use Rattle.hr_rules.specs.declared.block.BlockKind.{BlockKind}
use Rattle.hr_tree.specs.declared.lists.Block.{Block}
use Rattle.hr_tree.specs.declared.lists.Layout.{Layout}
use Rattle.hr_tree.specs.declared.lists.Piece.{Piece}
use Rattle.hr_tree.specs.declared.lists.Listed.{Listed}
use Rattle.hr_tree.specs.declared.lists.Operand.{Operand}
use Rattle.hr_tree.specs.declared.lists.Field.{Field}
use Rattle.hr_tree.specs.declared.declarations.Body.{Body}
use Rattle.hr_tree.specs.declared.declarations.Guarded.{Guarded}
use Rattle.hr_tree.specs.declared.declarations.Where.{Where}
use Rattle.hr_tree.specs.declared.expressions.Decl.{Decl}
use Rattle.hr_tree.specs.declared.expressions.Decl.TheOpen.{Decl-F, Exp-F, Qualifier-F, Alt-F}
use Rattle.hr_tree.specs.declared.expressions.Decl.TheFolds.{fold-Decl}
use Rattle.hr_tree.specs.declared.modules.Module.{Module}
use Rattle.hr_tree.specs.Names.{maybe_item, maybe_operator, variable_items, constructor_items, operator_items}
use Rattle.hr_tree.specs.Lists.{listed_items, opening_items, closing_items}
use Rattle.hr_tree.specs.Yields.{ty_items, pat_items, type_head_items, construction_items, left_side_items, import_items, header_items}

-- a piece of a block, by its number of lexemes
pub data Stretch : Type 0 where
  Semicolon : Stretch
  Part : ℕ → Stretch

abbrev pub stretch_length : Stretch → ℕ
stretch_length Stretch.Semicolon = 1
stretch_length (Stretch.Part n) = n

-- a block: its braces or its column, its kind, the column of the enclosing implicit block (0 if there is none,
-- or an explicit brace is nearer), the number of its first lexeme and of its lexemes, its pieces, and how the
-- last one ends
pub record BlockSpan : Type 0 where
  pub layout : Layout
  pub kind : BlockKind
  pub enclosing : ℕ
  pub start : ℕ
  pub extent : ℕ
  pub pieces : List Stretch
  pub ending : Ending

-- a stretch of the tree: its number of lexemes, how it ends, and its blocks, given the column of the enclosing
-- implicit block and the number of lexemes before it
pub record Laid : Type 0 where
  pub extent : ℕ
  pub ending : Ending
  pub blocks : ℕ → ℕ → List BlockSpan

-- lexemes without a block
abbrev pub blockless : List Item → Laid
blockless items = record { extent = length items; ending = Ending.Applied true false; blocks = λ m start. [] }

-- one stretch behind another: it ends as the second one does, if that has a lexeme
infixr 6 ◌▷◌
abbrev pub ◌▷◌ : Laid → Laid → Laid
first ▷ second = record {
  extent = first.extent + second.extent;
  ending = if second.extent == 0 then first.ending else second.ending;
  blocks = λ m start. first.blocks m start ++ second.blocks m (start + first.extent);
}

abbrev pub row : List Laid → Laid
row [] = blockless []
row (laid ∷ rest) = laid ▷ row rest

abbrev pub ending_as : Ending → Laid → Laid
ending_as ending laid = record { extent = laid.extent; ending = ending; blocks = laid.blocks }

abbrev pub one : Item → Laid
one item = blockless (item ∷ [])

abbrev pub listed_laid : Listed Laid → Laid
listed_laid listed = listed.part ▷ blockless (maybe_item listed.separator)

abbrev pub operand_laid : Operand Laid → Laid
operand_laid operand = blockless (maybe_item operand.minus) ▷ operand.part ▷ blockless (maybe_operator operand.operator)

abbrev pub field_laid : Field Laid → Laid
field_laid field = blockless (variable_items field.name) ▷ one field.equals ▷ field.part

abbrev pub piece_laid : Piece Laid → Laid
piece_laid (Piece.Semicolon item) = ending_as Ending.Nothing (one item)
piece_laid (Piece.Part part) = part

abbrev pub stretch_of : Piece Laid → Stretch
stretch_of (Piece.Semicolon item) = Stretch.Semicolon
stretch_of (Piece.Part part) = Stretch.Part part.extent

-- the column that a block's inner blocks have round them
abbrev pub column_inside : Layout → ℕ
column_inside (Layout.Implicit col) = col
column_inside (Layout.Explicit left right) = 0

-- how the last piece ends: with nothing where there is none, or where it is a `;`
abbrev pub last_ending : List (Piece Laid) → Ending
last_ending [] = Ending.Nothing
last_ending (piece ∷ []) = (piece_laid piece).ending
last_ending (piece ∷ (next ∷ rest)) = last_ending (next ∷ rest)

abbrev pub block_laid : BlockKind → Block Laid → Laid
block_laid kind block =
    let left = blockless (opening_items block.layout) in
    let inside = row (map piece_laid block.pieces) in
    let whole = left ▷ inside ▷ blockless (closing_items block.layout) in
    record {
      extent = whole.extent;
      ending = Ending.Closed true false;
      blocks = λ m start.
          record { layout = block.layout; kind = kind; enclosing = m; start = start; extent = whole.extent; pieces = map stretch_of block.pieces; ending = last_ending block.pieces }
          ∷ inside.blocks (column_inside block.layout) (start + left.extent);
    }

abbrev pub guarded_laid : Guarded Laid → Laid
guarded_laid guarded = one guarded.bar ▷ guarded.guard ▷ one guarded.mark ▷ guarded.body

-- how a part ends that has guards or none, and no `where`
abbrev pub part_ending : Bool → Ending → Ending
part_ending guarded (Ending.Applied where_free other) = Ending.Applied true guarded
part_ending guarded (Ending.Closed where_free other) = Ending.Closed true guarded
part_ending guarded (Ending.Annotated where_free other) = Ending.Annotated true guarded
part_ending guarded ending = ending

abbrev pub body_laid : Body Laid → Laid
body_laid (Body.Plain mark body) = ending_as (part_ending false body.ending) (one mark ▷ body)
body_laid (Body.Guarded list) = let whole = row (map guarded_laid list) in ending_as (part_ending true whole.ending) whole

-- a right side ends in its `where` block, if it has one
abbrev pub right_side_laid : Body Laid → Option (Where Laid) → Laid
right_side_laid body None = body_laid body
right_side_laid body (Some locals) = ending_as Ending.WhereBlock (body_laid body ▷ one locals.word ▷ block_laid BlockKind.Declarations locals.block)

abbrev pub exp_laid : Exp-F Laid Laid Laid Laid → Laid
exp_laid (Exp-F.Variable variable) = blockless (variable_items variable)
exp_laid (Exp-F.Constructor constructor) = blockless (constructor_items constructor)
exp_laid (Exp-F.Literal literal) = one literal
exp_laid (Exp-F.Group left part right) = one left ▷ part ▷ one right
exp_laid (Exp-F.Tuple left parts right) = one left ▷ row (map listed_laid parts) ▷ one right
exp_laid (Exp-F.List left parts right) = one left ▷ row (map listed_laid parts) ▷ one right
exp_laid (Exp-F.From left first dots right) = one left ▷ first ▷ one dots ▷ one right
exp_laid (Exp-F.FromThen left first comma second dots right) = one left ▷ first ▷ one comma ▷ second ▷ one dots ▷ one right
exp_laid (Exp-F.FromTo left first dots last right) = one left ▷ first ▷ one dots ▷ last ▷ one right
exp_laid (Exp-F.FromThenTo left first comma second dots last right) = one left ▷ first ▷ one comma ▷ second ▷ one dots ▷ last ▷ one right
exp_laid (Exp-F.Comprehension left part bar qualifiers right) = one left ▷ part ▷ one bar ▷ row (map listed_laid qualifiers) ▷ one right
exp_laid (Exp-F.LeftSection left part operator right) = one left ▷ part ▷ blockless (operator_items operator) ▷ one right
exp_laid (Exp-F.RightSection left operator part right) = one left ▷ blockless (operator_items operator) ▷ part ▷ one right
exp_laid (Exp-F.Apply atoms) = row atoms
exp_laid (Exp-F.Infix operands) = row (map operand_laid operands)
exp_laid (Exp-F.Annotated part colons ty) = ending_as (Ending.Annotated true false) (part ▷ one colons ▷ blockless (ty_items ty))
exp_laid (Exp-F.Lambda mark patterns arrow body) = one mark ▷ blockless (flat_map pat_items patterns) ▷ one arrow ▷ body
exp_laid (Exp-F.Let word block in_word body) = one word ▷ block_laid BlockKind.Declarations block ▷ one in_word ▷ body
exp_laid (Exp-F.If word test then_word first else_word second) = one word ▷ test ▷ one then_word ▷ first ▷ one else_word ▷ second
exp_laid (Exp-F.Case word part of_word block) = ending_as (Ending.Closed true false) (one word ▷ part ▷ one of_word ▷ block_laid BlockKind.Alternatives block)
exp_laid (Exp-F.Fields part left fields right) = part ▷ one left ▷ row (map (λ (l : Listed (Field Laid)). field_laid l.part ▷ blockless (maybe_item l.separator)) fields) ▷ one right

-- how a declaration ends that stands in a module's body alone: as what nothing can follow, since nothing stands behind
-- that body
abbrev pub top_ending : Ending
top_ending = Ending.WhereBlock

abbrev pub decl_laid : Decl-F Laid Laid Laid Laid → Laid
decl_laid (Decl-F.Import import) = ending_as top_ending (blockless (import_items import))
decl_laid (Decl-F.Synonym word head equals ty) = ending_as top_ending (one word ▷ blockless (type_head_items head) ▷ one equals ▷ blockless (ty_items ty))
decl_laid (Decl-F.Data word head equals constructions) =
    ending_as top_ending (one word ▷ blockless (type_head_items head) ▷ one equals ▷ blockless (flat_map (listed_items construction_items) constructions))
decl_laid (Decl-F.Newtype word head equals construction) =
    ending_as top_ending (one word ▷ blockless (type_head_items head) ▷ one equals ▷ blockless (construction_items construction))
decl_laid (Decl-F.Signature names colons ty) = ending_as Ending.Signature (blockless (flat_map (listed_items variable_items) names) ▷ one colons ▷ blockless (ty_items ty))
decl_laid (Decl-F.Fixity word level operators) = ending_as Ending.Fixity (one word ▷ blockless (maybe_item level) ▷ blockless (flat_map (listed_items operator_items) operators))
decl_laid (Decl-F.Equation left body locals) = blockless (left_side_items left) ▷ right_side_laid body locals
decl_laid (Decl-F.Binding pattern body locals) = blockless (pat_items pattern) ▷ right_side_laid body locals

abbrev pub qualifier_laid : Qualifier-F Laid Laid Laid Laid → Laid
qualifier_laid (Qualifier-F.Generator pattern arrow part) = blockless (pat_items pattern) ▷ one arrow ▷ part
qualifier_laid (Qualifier-F.Locals word block) = one word ▷ block_laid BlockKind.Declarations block
qualifier_laid (Qualifier-F.Test part) = part

abbrev pub alt_laid : Alt-F Laid Laid Laid Laid → Laid
alt_laid alt = blockless (pat_items alt.pattern) ▷ right_side_laid alt.body alt.locals

abbrev pub laid_of : Decl → Laid
laid_of = fold-Decl Laid Laid Laid Laid decl_laid exp_laid qualifier_laid alt_laid

abbrev pub piece_of : Piece Decl → Piece Laid
piece_of (Piece.Semicolon item) = Piece.Semicolon item
piece_of (Piece.Part decl) = Piece.Part (laid_of decl)

-- the blocks of a module, its body first
abbrev pub spans_of : Module → List BlockSpan
spans_of tree =
    (blockless (header_items tree.header) ▷ block_laid BlockKind.Body (record { layout = tree.body.layout; pieces = map piece_of tree.body.pieces })).blocks 0 0
