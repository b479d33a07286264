-- The lexemes of a tree are those of its parts, one part behind the other (Haskell 98 Report, chapter 9), and its
-- blocks stand where those of its parts do.
use Rattle.std.specs.Prelude.{ℕ, ◌+◌, ◌≡◌, ◌↔◌, List, [], ◌∷◌, ◌++◌, map}
use Rattle.std.specs.List.{AllByRecursion, flat_map}
use Rattle.hr_base.specs.declared.lexeme.Item.{Item}
use Rattle.hr_rules.specs.declared.block.Placed.{Placed}
use Rattle.hr_rules.specs.declared.block.BlockKind.{BlockKind}
use Rattle.hr_tree.specs.declared.lists.Block.{Block}
use Rattle.hr_tree.specs.declared.types.Ty.{Ty, out-Ty}
use Rattle.hr_tree.specs.declared.types.Ty.TheOpen.{Ty-F}
use Rattle.hr_tree.specs.declared.patterns.Pat.{Pat, out-Pat}
use Rattle.hr_tree.specs.declared.patterns.Pat.TheOpen.{Pat-F}
use Rattle.hr_tree.specs.declared.expressions.Exp.{Exp, out-Exp}
use Rattle.hr_tree.specs.declared.expressions.Decl.{Decl, out-Decl}
use Rattle.hr_tree.specs.declared.expressions.Qualifier.{Qualifier, out-Qualifier}
use Rattle.hr_tree.specs.declared.expressions.Alt.{Alt, out-Alt}
use Rattle.hr_tree.specs.declared.expressions.Decl.TheOpen.{Decl-F, Exp-F, Qualifier-F, Alt-F}
use Rattle.hr_tree.specs.Names.{maybe_item, variable_items, constructor_items, operator_items}
use Rattle.hr_tree.specs.Lists.{listed_items, operand_items, field_items, block_items, body_items, where_items, opening_items}
use Rattle.hr_tree.specs.Yields.{ty_items, pat_items, exp_items, decl_items, qualifier_items, alt_items, type_head_items, construction_items, left_side_items, import_items}
use Rattle.hr_grammar.specs.Spans.{Laid, ◌▷◌, BlockSpan, blockless, row, piece_laid, stretch_of, last_ending, block_laid, column_inside}
use Rattle.hr_grammar.specs.Offside.{StandsWell}

-- the lexemes of a type's parts, from left to right
abbrev pub ty_joined : Ty-F Ty → List Item
ty_joined (Ty-F.Variable name) = name ∷ []
ty_joined (Ty-F.Constructor constructor) = constructor_items constructor
ty_joined (Ty-F.Apply constructor arguments) = constructor_items constructor ++ flat_map ty_items arguments
ty_joined (Ty-F.Function from arrow to) = ty_items from ++ arrow ∷ ty_items to
ty_joined (Ty-F.Tuple left parts right) = left ∷ (flat_map (listed_items ty_items) parts ++ right ∷ [])
ty_joined (Ty-F.List left part right) = left ∷ (ty_items part ++ right ∷ [])
ty_joined (Ty-F.Group left part right) = left ∷ (ty_items part ++ right ∷ [])

abbrev pub pat_joined : Pat-F Pat → List Item
pat_joined (Pat-F.Variable variable) = variable_items variable
pat_joined (Pat-F.Wildcard word) = word ∷ []
pat_joined (Pat-F.Literal literal) = literal ∷ []
pat_joined (Pat-F.Negative minus literal) = minus ∷ literal ∷ []
pat_joined (Pat-F.Constructor constructor) = constructor_items constructor
pat_joined (Pat-F.As variable mark part) = variable_items variable ++ mark ∷ pat_items part
pat_joined (Pat-F.Lazy mark part) = mark ∷ pat_items part
pat_joined (Pat-F.Apply constructor arguments) = constructor_items constructor ++ flat_map pat_items arguments
pat_joined (Pat-F.Infix operands) = flat_map (operand_items pat_items) operands
pat_joined (Pat-F.Tuple left parts right) = left ∷ (flat_map (listed_items pat_items) parts ++ right ∷ [])
pat_joined (Pat-F.List left parts right) = left ∷ (flat_map (listed_items pat_items) parts ++ right ∷ [])
pat_joined (Pat-F.Group left part right) = left ∷ (pat_items part ++ right ∷ [])
pat_joined (Pat-F.Fields constructor left fields right) = constructor_items constructor ++ left ∷ (flat_map (listed_items (field_items pat_items)) fields ++ right ∷ [])

abbrev pub exp_joined : Exp-F Decl Exp Qualifier Alt → List Item
exp_joined (Exp-F.Variable variable) = variable_items variable
exp_joined (Exp-F.Constructor constructor) = constructor_items constructor
exp_joined (Exp-F.Literal literal) = literal ∷ []
exp_joined (Exp-F.Group left part right) = left ∷ (exp_items part ++ right ∷ [])
exp_joined (Exp-F.Tuple left parts right) = left ∷ (flat_map (listed_items exp_items) parts ++ right ∷ [])
exp_joined (Exp-F.List left parts right) = left ∷ (flat_map (listed_items exp_items) parts ++ right ∷ [])
exp_joined (Exp-F.From left first dots right) = left ∷ (exp_items first ++ dots ∷ right ∷ [])
exp_joined (Exp-F.FromThen left first comma second dots right) = left ∷ (exp_items first ++ comma ∷ (exp_items second ++ dots ∷ right ∷ []))
exp_joined (Exp-F.FromTo left first dots last right) = left ∷ (exp_items first ++ dots ∷ (exp_items last ++ right ∷ []))
exp_joined (Exp-F.FromThenTo left first comma second dots last right) = left ∷ (exp_items first ++ comma ∷ (exp_items second ++ dots ∷ (exp_items last ++ right ∷ [])))
exp_joined (Exp-F.Comprehension left part bar qualifiers right) = left ∷ (exp_items part ++ bar ∷ (flat_map (listed_items qualifier_items) qualifiers ++ right ∷ []))
exp_joined (Exp-F.LeftSection left part operator right) = left ∷ (exp_items part ++ (operator_items operator ++ right ∷ []))
exp_joined (Exp-F.RightSection left operator part right) = left ∷ (operator_items operator ++ (exp_items part ++ right ∷ []))
exp_joined (Exp-F.Apply atoms) = flat_map exp_items atoms
exp_joined (Exp-F.Infix operands) = flat_map (operand_items exp_items) operands
exp_joined (Exp-F.Annotated part colons ty) = exp_items part ++ colons ∷ ty_items ty
exp_joined (Exp-F.Lambda mark patterns arrow body) = mark ∷ (flat_map pat_items patterns ++ arrow ∷ exp_items body)
exp_joined (Exp-F.Let word block in_word body) = word ∷ (block_items decl_items block ++ in_word ∷ exp_items body)
exp_joined (Exp-F.If word test then_word first else_word second) = word ∷ (exp_items test ++ then_word ∷ (exp_items first ++ else_word ∷ exp_items second))
exp_joined (Exp-F.Case word part of_word block) = word ∷ (exp_items part ++ of_word ∷ block_items alt_items block)
exp_joined (Exp-F.Fields part left fields right) = exp_items part ++ left ∷ (flat_map (listed_items (field_items exp_items)) fields ++ right ∷ [])

abbrev pub decl_joined : Decl-F Decl Exp Qualifier Alt → List Item
decl_joined (Decl-F.Import import) = import_items import
decl_joined (Decl-F.Synonym word head equals ty) = word ∷ (type_head_items head ++ equals ∷ ty_items ty)
decl_joined (Decl-F.Data word head equals constructions) = word ∷ (type_head_items head ++ equals ∷ flat_map (listed_items construction_items) constructions)
decl_joined (Decl-F.Newtype word head equals construction) = word ∷ (type_head_items head ++ equals ∷ construction_items construction)
decl_joined (Decl-F.Signature names colons ty) = flat_map (listed_items variable_items) names ++ colons ∷ ty_items ty
decl_joined (Decl-F.Fixity word level operators) = word ∷ (maybe_item level ++ flat_map (listed_items operator_items) operators)
decl_joined (Decl-F.Equation left body locals) = left_side_items left ++ (body_items exp_items body ++ where_items decl_items locals)
decl_joined (Decl-F.Binding pattern body locals) = pat_items pattern ++ (body_items exp_items body ++ where_items decl_items locals)

abbrev pub qualifier_joined : Qualifier-F Decl Exp Qualifier Alt → List Item
qualifier_joined (Qualifier-F.Generator pattern arrow part) = pat_items pattern ++ arrow ∷ exp_items part
qualifier_joined (Qualifier-F.Locals word block) = word ∷ block_items decl_items block
qualifier_joined (Qualifier-F.Test part) = exp_items part

abbrev pub alt_joined : Alt-F Decl Exp Qualifier Alt → List Item
alt_joined alt = pat_items alt.pattern ++ (body_items exp_items alt.body ++ where_items decl_items alt.locals)

-- what a tree yields is what its parts yield, joined
pub record YieldsJoin : Type 0 where
  pub ty : (ty : Ty) → ty_items ty ≡ ty_joined (out-Ty ty)
  pub pat : (pat : Pat) → pat_items pat ≡ pat_joined (out-Pat pat)
  pub exp : (exp : Exp) → exp_items exp ≡ exp_joined (out-Exp exp)
  pub decl : (decl : Decl) → decl_items decl ≡ decl_joined (out-Decl decl)
  pub qualifier : (qualifier : Qualifier) → qualifier_items qualifier ≡ qualifier_joined (out-Qualifier qualifier)
  pub alt : (alt : Alt) → alt_items alt ≡ alt_joined (out-Alt alt)

-- blocks that all stand as the layout rule says among the lexemes of a tree with these blocks
abbrev pub AllStand : List BlockSpan → List Placed → List BlockSpan → Type 0
AllStand spans lexemes blocks = AllByRecursion (StandsWell spans lexemes) blocks

-- the block itself, without those inside it
abbrev pub own_span : BlockKind → Block Laid → ℕ → ℕ → BlockSpan
own_span kind block m start = record {
  layout = block.layout;
  kind = kind;
  enclosing = m;
  start = start;
  extent = (block_laid kind block).extent;
  pieces = map stretch_of block.pieces;
  ending = last_ending block.pieces;
}

-- the blocks of one stretch behind another stand where those of both do; those of a block, where it stands itself and
-- those of its pieces do
pub record PartsStand : Type 0 where
  pub behind : (spans : List BlockSpan) (lexemes : List Placed) (first second : Laid) (m start : ℕ)
      → (AllStand spans lexemes (first.blocks m start) × AllStand spans lexemes (second.blocks m (start + first.extent)))
      ↔ AllStand spans lexemes ((first ▷ second).blocks m start)
  pub block : (spans : List BlockSpan) (lexemes : List Placed) (kind : BlockKind) (block : Block Laid) (m start : ℕ)
      → (StandsWell spans lexemes (own_span kind block m start)
      × AllStand spans lexemes ((row (map piece_laid block.pieces)).blocks (column_inside block.layout) (start + (blockless (opening_items block.layout)).extent)))
      ↔ AllStand spans lexemes ((block_laid kind block).blocks m start)
