-- Trees that are equal up to trivia, empty parts of blocks and the `;` of implicit ones (Haskell 98 Report, section
-- 2.7: the layout rule puts in what an implicit block does not have). The columns of implicit blocks are places, and
-- are not compared either.
use Rattle.std.specs.Prelude.{◌≡◌, ◌≢◌, Bool, true, false, List, [], ◌∷◌, map, option_map}
use Rattle.hr_base.specs.declared.lexeme.Item.{Item}
use Rattle.hr_tree.specs.declared.names.Variable.{Variable}
use Rattle.hr_tree.specs.declared.names.Constructor.{Constructor}
use Rattle.hr_tree.specs.declared.names.Operator.{Operator}
use Rattle.hr_tree.specs.declared.lists.Listed.{Listed}
use Rattle.hr_tree.specs.declared.lists.Operand.{Operand}
use Rattle.hr_tree.specs.declared.lists.Field.{Field}
use Rattle.hr_tree.specs.declared.lists.Layout.{Layout}
use Rattle.hr_tree.specs.declared.lists.Piece.{Piece}
use Rattle.hr_tree.specs.declared.lists.Block.{Block}
use Rattle.hr_tree.specs.declared.types.Ty.{Ty, roll-Ty}
use Rattle.hr_tree.specs.declared.types.Ty.TheOpen.{Ty-F}
use Rattle.hr_tree.specs.declared.types.Ty.TheFolds.{fold-Ty}
use Rattle.hr_tree.specs.declared.patterns.Pat.{Pat, roll-Pat}
use Rattle.hr_tree.specs.declared.patterns.Pat.TheOpen.{Pat-F}
use Rattle.hr_tree.specs.declared.patterns.Pat.TheFolds.{fold-Pat}
use Rattle.hr_tree.specs.declared.declarations.TypeHead.{TypeHead}
use Rattle.hr_tree.specs.declared.declarations.Construction.{Construction}
use Rattle.hr_tree.specs.declared.declarations.FieldType.{FieldType}
use Rattle.hr_tree.specs.declared.declarations.LeftSide.{LeftSide}
use Rattle.hr_tree.specs.declared.declarations.LeftHead.{LeftHead}
use Rattle.hr_tree.specs.declared.declarations.Closed.{Closed}
use Rattle.hr_tree.specs.declared.declarations.Body.{Body}
use Rattle.hr_tree.specs.declared.declarations.Guarded.{Guarded}
use Rattle.hr_tree.specs.declared.declarations.Where.{Where}
use Rattle.hr_tree.specs.declared.expressions.Exp.{Exp, roll-Exp}
use Rattle.hr_tree.specs.declared.expressions.Decl.{Decl, roll-Decl}
use Rattle.hr_tree.specs.declared.expressions.Alt.{Alt, roll-Alt}
use Rattle.hr_tree.specs.declared.expressions.Qualifier.{Qualifier, roll-Qualifier}
use Rattle.hr_tree.specs.declared.expressions.Decl.TheOpen.{Decl-F, Exp-F, Qualifier-F, Alt-F}
use Rattle.hr_tree.specs.declared.expressions.Decl.TheFolds.{fold-Decl}
use Rattle.hr_tree.specs.declared.modules.NameList.{NameList}
use Rattle.hr_tree.specs.declared.modules.Export.{Export}
use Rattle.hr_tree.specs.declared.modules.Member.{Member}
use Rattle.hr_tree.specs.declared.modules.Members.{Members}
use Rattle.hr_tree.specs.declared.modules.Import.{Import}
use Rattle.hr_tree.specs.declared.modules.Alias.{Alias}
use Rattle.hr_tree.specs.declared.modules.ImportNames.{ImportNames}
use Rattle.hr_tree.specs.declared.modules.Imported.{Imported}
use Rattle.hr_tree.specs.declared.modules.Header.{Header}
use Rattle.hr_tree.specs.declared.modules.Module.{Module}

-- the lexeme without the blanks and comments before it
abbrev pub bare : Item → Item
bare item = record { trivia = []; lexeme = item.lexeme }

abbrev pub bare_variable : Variable → Variable
bare_variable (Variable.Name name) = Variable.Name (bare name)
bare_variable (Variable.Symbol left symbol right) = Variable.Symbol (bare left) (bare symbol) (bare right)

abbrev pub bare_constructor : Constructor → Constructor
bare_constructor (Constructor.Name name) = Constructor.Name (bare name)
bare_constructor (Constructor.Symbol left symbol right) = Constructor.Symbol (bare left) (bare symbol) (bare right)
bare_constructor (Constructor.Unit left right) = Constructor.Unit (bare left) (bare right)
bare_constructor (Constructor.EmptyList left right) = Constructor.EmptyList (bare left) (bare right)
bare_constructor (Constructor.Tuple left commas right) = Constructor.Tuple (bare left) (map bare commas) (bare right)

abbrev pub bare_operator : Operator → Operator
bare_operator (Operator.Symbol symbol) = Operator.Symbol (bare symbol)
bare_operator (Operator.Quoted left name right) = Operator.Quoted (bare left) (bare name) (bare right)

-- parts that are bare themselves
abbrev pub kept : {T : Type 0} → T → T
kept part = part

abbrev pub bare_listed : {T : Type 0} → (T → T) → List (Listed T) → List (Listed T)
bare_listed {T} of = map (λ (listed : Listed T). record { part = of listed.part; separator = option_map bare listed.separator })

abbrev pub bare_operands : {T : Type 0} → List (Operand T) → List (Operand T)
bare_operands {T} = map (λ (operand : Operand T). record { minus = option_map bare operand.minus; part = operand.part; operator = option_map bare_operator operand.operator })

abbrev pub bare_field : {T : Type 0} → Field T → Field T
bare_field field = record { name = bare_variable field.name; equals = bare field.equals; part = field.part }

-- of the pieces of an implicit block, the parts: the layout rule puts the `;` between them
abbrev pub parts_alone : {T : Type 0} → List (Piece T) → List (Piece T)
parts_alone [] = []
parts_alone (Piece.Semicolon item ∷ pieces) = parts_alone pieces
parts_alone (Piece.Part part ∷ pieces) = Piece.Part part ∷ parts_alone pieces

-- of those of a block in braces, the parts with one `;` between two of them: an empty part is none, and its `;` goes
-- with it. The mark says whether a part stands before the pieces
abbrev pub parts_divided : {T : Type 0} → Bool → List (Piece T) → List (Piece T)
parts_divided begun [] = []
parts_divided begun (Piece.Part part ∷ pieces) = Piece.Part part ∷ parts_divided true pieces
parts_divided true (Piece.Semicolon item ∷ (Piece.Part part ∷ pieces)) = Piece.Semicolon (bare item) ∷ (Piece.Part part ∷ parts_divided true pieces)
parts_divided begun (Piece.Semicolon item ∷ pieces) = parts_divided begun pieces

abbrev pub bare_pieces : {T : Type 0} → Layout → List (Piece T) → List (Piece T)
bare_pieces (Layout.Implicit col) pieces = parts_alone pieces
bare_pieces (Layout.Explicit left right) pieces = parts_divided false pieces

-- an implicit block stays one, and a block in braces stays one
abbrev pub bare_layout : Layout → Layout
bare_layout (Layout.Implicit col) = Layout.Implicit 0
bare_layout (Layout.Explicit left right) = Layout.Explicit (bare left) (bare right)

abbrev pub bare_block : {T : Type 0} → Block T → Block T
bare_block block = record { layout = bare_layout block.layout; pieces = bare_pieces block.layout block.pieces }

abbrev pub bare_body : {T : Type 0} → Body T → Body T
bare_body (Body.Plain mark body) = Body.Plain (bare mark) body
bare_body {T} (Body.Guarded list) =
    Body.Guarded (map (λ (guarded : Guarded T). record { bar = bare guarded.bar; guard = guarded.guard; mark = bare guarded.mark; body = guarded.body }) list)

abbrev pub bare_where : {T : Type 0} → Where T → Where T
bare_where locals = record { word = bare locals.word; block = bare_block locals.block }

abbrev pub bare_ty : Ty → Ty
bare_ty = fold-Ty Ty (λ layer. roll-Ty (bare_layer layer))
  where
    bare_layer : Ty-F Ty → Ty-F Ty
    bare_layer (Ty-F.Variable name) = Ty-F.Variable (bare name)
    bare_layer (Ty-F.Constructor constructor) = Ty-F.Constructor (bare_constructor constructor)
    bare_layer (Ty-F.Apply constructor arguments) = Ty-F.Apply (bare_constructor constructor) arguments
    bare_layer (Ty-F.Function from arrow to) = Ty-F.Function from (bare arrow) to
    bare_layer (Ty-F.Tuple left parts right) = Ty-F.Tuple (bare left) (bare_listed kept parts) (bare right)
    bare_layer (Ty-F.List left part right) = Ty-F.List (bare left) part (bare right)
    bare_layer (Ty-F.Group left part right) = Ty-F.Group (bare left) part (bare right)

abbrev pub bare_pat : Pat → Pat
bare_pat = fold-Pat Pat (λ layer. roll-Pat (bare_layer layer))
  where
    bare_layer : Pat-F Pat → Pat-F Pat
    bare_layer (Pat-F.Variable variable) = Pat-F.Variable (bare_variable variable)
    bare_layer (Pat-F.Wildcard word) = Pat-F.Wildcard (bare word)
    bare_layer (Pat-F.Literal literal) = Pat-F.Literal (bare literal)
    bare_layer (Pat-F.Negative minus literal) = Pat-F.Negative (bare minus) (bare literal)
    bare_layer (Pat-F.Constructor constructor) = Pat-F.Constructor (bare_constructor constructor)
    bare_layer (Pat-F.As variable mark part) = Pat-F.As (bare_variable variable) (bare mark) part
    bare_layer (Pat-F.Lazy mark part) = Pat-F.Lazy (bare mark) part
    bare_layer (Pat-F.Apply constructor arguments) = Pat-F.Apply (bare_constructor constructor) arguments
    bare_layer (Pat-F.Infix operands) = Pat-F.Infix (bare_operands operands)
    bare_layer (Pat-F.Tuple left parts right) = Pat-F.Tuple (bare left) (bare_listed kept parts) (bare right)
    bare_layer (Pat-F.List left parts right) = Pat-F.List (bare left) (bare_listed kept parts) (bare right)
    bare_layer (Pat-F.Group left part right) = Pat-F.Group (bare left) part (bare right)
    bare_layer (Pat-F.Fields constructor left fields right) = Pat-F.Fields (bare_constructor constructor) (bare left) (bare_listed bare_field fields) (bare right)

abbrev pub bare_head : TypeHead → TypeHead
bare_head head = record { name = bare head.name; variables = map bare head.variables }

abbrev pub bare_field_type : FieldType → FieldType
bare_field_type field = record { names = bare_listed bare_variable field.names; colons = bare field.colons; ty = bare_ty field.ty }

abbrev pub bare_construction : Construction → Construction
bare_construction (Construction.Prefix constructor types) = Construction.Prefix (bare_constructor constructor) (map bare_ty types)
bare_construction (Construction.Infix first operator second) = Construction.Infix (bare_ty first) (bare_operator operator) (bare_ty second)
bare_construction (Construction.Fields constructor left fields right) =
    Construction.Fields (bare_constructor constructor) (bare left) (bare_listed bare_field_type fields) (bare right)

abbrev pub bare_left_head : LeftHead → LeftHead
bare_left_head (LeftHead.Prefix variable patterns) = LeftHead.Prefix (bare_variable variable) (map bare_pat patterns)
bare_left_head (LeftHead.Infix first operator second) = LeftHead.Infix (bare_pat first) (bare_operator operator) (bare_pat second)

abbrev pub bare_closed : Closed → Closed
bare_closed closed = record { right = bare closed.right; patterns = map bare_pat closed.patterns }

abbrev pub bare_left_side : LeftSide → LeftSide
bare_left_side left = record { opens = map bare left.opens; head = bare_left_head left.head; closes = map bare_closed left.closes }

abbrev pub bare_member : Member → Member
bare_member (Member.Constructor constructor) = Member.Constructor (bare_constructor constructor)
bare_member (Member.Field variable) = Member.Field (bare_variable variable)

abbrev pub bare_members : Members → Members
bare_members (Members.All left dots right) = Members.All (bare left) (bare dots) (bare right)
bare_members (Members.Named left list right) = Members.Named (bare left) (bare_listed bare_member list) (bare right)

abbrev pub bare_names : {T : Type 0} → (T → T) → NameList T → NameList T
bare_names of names = record { left = bare names.left; list = bare_listed of names.list; last_comma = option_map bare names.last_comma; right = bare names.right }

abbrev pub bare_export : Export → Export
bare_export (Export.Variable variable) = Export.Variable (bare_variable variable)
bare_export (Export.Type name members) = Export.Type (bare name) (option_map bare_members members)
bare_export (Export.Module word name) = Export.Module (bare word) (bare name)

abbrev pub bare_imported : Imported → Imported
bare_imported (Imported.Variable variable) = Imported.Variable (bare_variable variable)
bare_imported (Imported.Type name members) = Imported.Type (bare name) (option_map bare_members members)

abbrev pub bare_alias : Alias → Alias
bare_alias alias = record { word = bare alias.word; name = bare alias.name }

abbrev pub bare_import_names : ImportNames → ImportNames
bare_import_names names = record { hiding = option_map bare names.hiding; list = bare_names bare_imported names.list }

abbrev pub bare_import : Import → Import
bare_import import = record {
  word = bare import.word;
  qualified = option_map bare import.qualified;
  «module» = bare import.«module»;
  alias = option_map bare_alias import.alias;
  names = option_map bare_import_names import.names;
}

abbrev pub bare_exp_layer : Exp-F Decl Exp Qualifier Alt → Exp-F Decl Exp Qualifier Alt
bare_exp_layer (Exp-F.Variable variable) = Exp-F.Variable (bare_variable variable)
bare_exp_layer (Exp-F.Constructor constructor) = Exp-F.Constructor (bare_constructor constructor)
bare_exp_layer (Exp-F.Literal literal) = Exp-F.Literal (bare literal)
bare_exp_layer (Exp-F.Group left part right) = Exp-F.Group (bare left) part (bare right)
bare_exp_layer (Exp-F.Tuple left parts right) = Exp-F.Tuple (bare left) (bare_listed kept parts) (bare right)
bare_exp_layer (Exp-F.List left parts right) = Exp-F.List (bare left) (bare_listed kept parts) (bare right)
bare_exp_layer (Exp-F.From left first dots right) = Exp-F.From (bare left) first (bare dots) (bare right)
bare_exp_layer (Exp-F.FromThen left first comma second dots right) = Exp-F.FromThen (bare left) first (bare comma) second (bare dots) (bare right)
bare_exp_layer (Exp-F.FromTo left first dots last right) = Exp-F.FromTo (bare left) first (bare dots) last (bare right)
bare_exp_layer (Exp-F.FromThenTo left first comma second dots last right) = Exp-F.FromThenTo (bare left) first (bare comma) second (bare dots) last (bare right)
bare_exp_layer (Exp-F.Comprehension left part bar qualifiers right) = Exp-F.Comprehension (bare left) part (bare bar) (bare_listed kept qualifiers) (bare right)
bare_exp_layer (Exp-F.LeftSection left part operator right) = Exp-F.LeftSection (bare left) part (bare_operator operator) (bare right)
bare_exp_layer (Exp-F.RightSection left operator part right) = Exp-F.RightSection (bare left) (bare_operator operator) part (bare right)
bare_exp_layer (Exp-F.Apply atoms) = Exp-F.Apply atoms
bare_exp_layer (Exp-F.Infix operands) = Exp-F.Infix (bare_operands operands)
bare_exp_layer (Exp-F.Annotated part colons ty) = Exp-F.Annotated part (bare colons) (bare_ty ty)
bare_exp_layer (Exp-F.Lambda mark patterns arrow body) = Exp-F.Lambda (bare mark) (map bare_pat patterns) (bare arrow) body
bare_exp_layer (Exp-F.Let word block in_word body) = Exp-F.Let (bare word) (bare_block block) (bare in_word) body
bare_exp_layer (Exp-F.If word test then_word first else_word second) = Exp-F.If (bare word) test (bare then_word) first (bare else_word) second
bare_exp_layer (Exp-F.Case word part of_word block) = Exp-F.Case (bare word) part (bare of_word) (bare_block block)
bare_exp_layer (Exp-F.Fields part left fields right) = Exp-F.Fields part (bare left) (bare_listed bare_field fields) (bare right)

abbrev pub bare_decl_layer : Decl-F Decl Exp Qualifier Alt → Decl-F Decl Exp Qualifier Alt
bare_decl_layer (Decl-F.Import import) = Decl-F.Import (bare_import import)
bare_decl_layer (Decl-F.Synonym word head equals ty) = Decl-F.Synonym (bare word) (bare_head head) (bare equals) (bare_ty ty)
bare_decl_layer (Decl-F.Data word head equals constructions) = Decl-F.Data (bare word) (bare_head head) (bare equals) (bare_listed bare_construction constructions)
bare_decl_layer (Decl-F.Newtype word head equals construction) = Decl-F.Newtype (bare word) (bare_head head) (bare equals) (bare_construction construction)
bare_decl_layer (Decl-F.Signature names colons ty) = Decl-F.Signature (bare_listed bare_variable names) (bare colons) (bare_ty ty)
bare_decl_layer (Decl-F.Fixity word level operators) = Decl-F.Fixity (bare word) (option_map bare level) (bare_listed bare_operator operators)
bare_decl_layer (Decl-F.Equation left body locals) = Decl-F.Equation (bare_left_side left) (bare_body body) (option_map bare_where locals)
bare_decl_layer (Decl-F.Binding pattern body locals) = Decl-F.Binding (bare_pat pattern) (bare_body body) (option_map bare_where locals)

abbrev pub bare_qualifier_layer : Qualifier-F Decl Exp Qualifier Alt → Qualifier-F Decl Exp Qualifier Alt
bare_qualifier_layer (Qualifier-F.Generator pattern arrow part) = Qualifier-F.Generator (bare_pat pattern) (bare arrow) part
bare_qualifier_layer (Qualifier-F.Locals word block) = Qualifier-F.Locals (bare word) (bare_block block)
bare_qualifier_layer (Qualifier-F.Test part) = Qualifier-F.Test part

abbrev pub bare_alt_layer : Alt-F Decl Exp Qualifier Alt → Alt-F Decl Exp Qualifier Alt
bare_alt_layer alt = record { pattern = bare_pat alt.pattern; body = bare_body alt.body; locals = option_map bare_where alt.locals }

abbrev pub bare_decl : Decl → Decl
bare_decl =
    fold-Decl Decl Exp Qualifier Alt (λ layer. roll-Decl (bare_decl_layer layer)) (λ layer. roll-Exp (bare_exp_layer layer))
    (λ layer. roll-Qualifier (bare_qualifier_layer layer)) (λ layer. roll-Alt (bare_alt_layer layer))

abbrev pub bare_header : Header → Header
bare_header header = record { word = bare header.word; name = bare header.name; exports = option_map (bare_names bare_export) header.exports; opening = bare header.opening }

-- a piece of a module's body, whose parts are not bare yet
abbrev pub bare_piece : Piece Decl → Piece Decl
bare_piece (Piece.Semicolon item) = Piece.Semicolon item
bare_piece (Piece.Part decl) = Piece.Part (bare_decl decl)

-- the tree without trivia, columns, empty parts, and the `;` of its implicit blocks
abbrev pub bare_module : Module → Module
bare_module tree = record {
  header = option_map bare_header tree.header;
  body = bare_block (record { layout = tree.body.layout; pieces = map bare_piece tree.body.pieces });
  tail = [];
}

-- the trees differ in trivia, columns, empty parts and the `;` of implicit blocks alone
abbrev pub SameTrees : Module → Module → Type 0
SameTrees tree other = bare_module tree ≡ bare_module other

-- it is an equality
abbrev pub SameIsEquality : Type 0
SameIsEquality =
    ((tree : Module) → SameTrees tree tree)
    × (((tree other : Module) → SameTrees tree other → SameTrees other tree)
    × ((tree other third : Module) → SameTrees tree other → SameTrees other third → SameTrees tree third))

-- in braces a `;` more is an empty part more, and no `;` is not one
pub record SemicolonsInBraces : Type 0 where
  pub more : (left right semicolon other : Item) (first second : Decl)
      → bare_block (record { layout = Layout.Explicit left right; pieces = Piece.Semicolon other ∷ (Piece.Part first ∷ (Piece.Semicolon other ∷ (Piece.Semicolon semicolon ∷ (Piece.Part second ∷ (Piece.Semicolon other ∷ []))))) })
      ≡ bare_block (record { layout = Layout.Explicit left right; pieces = Piece.Part first ∷ (Piece.Semicolon semicolon ∷ (Piece.Part second ∷ [])) })
  pub none : (left right semicolon : Item) (first second : Decl)
      → bare_block (record { layout = Layout.Explicit left right; pieces = Piece.Part first ∷ (Piece.Part second ∷ []) })
      ≢ bare_block (record { layout = Layout.Explicit left right; pieces = Piece.Part first ∷ (Piece.Semicolon semicolon ∷ (Piece.Part second ∷ [])) })
