-- The items that a tree yields, from left to right (Haskell 98 Report, chapter 9). A layer gives those
-- of one node from those of its parts.
use Rattle.std.specs.Prelude.{List, [], ◌∷◌, ◌++◌, Option, Some, None}
use Rattle.std.specs.List.{flat_map}
use Rattle.hr_base.specs.declared.lexeme.Item.{Item}
use Rattle.hr_base.specs.declared.lexeme.Items.{Items}
use Rattle.hr_tree.specs.declared.types.Ty.{Ty}
use Rattle.hr_tree.specs.declared.types.Ty.TheOpen.{Ty-F}
use Rattle.hr_tree.specs.declared.types.Ty.TheFolds.{fold-Ty}
use Rattle.hr_tree.specs.declared.patterns.Pat.{Pat}
use Rattle.hr_tree.specs.declared.patterns.Pat.TheOpen.{Pat-F}
use Rattle.hr_tree.specs.declared.patterns.Pat.TheFolds.{fold-Pat}
use Rattle.hr_tree.specs.declared.expressions.Exp.{Exp}
use Rattle.hr_tree.specs.declared.expressions.Decl.{Decl}
use Rattle.hr_tree.specs.declared.expressions.Qualifier.{Qualifier}
use Rattle.hr_tree.specs.declared.expressions.Alt.{Alt}
use Rattle.hr_tree.specs.declared.declarations.TypeHead.{TypeHead}
use Rattle.hr_tree.specs.declared.declarations.Construction.{Construction}
use Rattle.hr_tree.specs.declared.declarations.FieldType.{FieldType}
use Rattle.hr_tree.specs.declared.declarations.LeftSide.{LeftSide}
use Rattle.hr_tree.specs.declared.declarations.LeftHead.{LeftHead}
use Rattle.hr_tree.specs.declared.declarations.Closed.{Closed}
use Rattle.hr_tree.specs.declared.modules.NameList.{NameList}
use Rattle.hr_tree.specs.declared.modules.Export.{Export}
use Rattle.hr_tree.specs.declared.modules.Member.{Member}
use Rattle.hr_tree.specs.declared.modules.Members.{Members}
use Rattle.hr_tree.specs.declared.modules.Import.{Import}
use Rattle.hr_tree.specs.declared.modules.Alias.{Alias}
use Rattle.hr_tree.specs.declared.modules.ImportNames.{ImportNames}
use Rattle.hr_tree.specs.declared.modules.Imported.{Imported}
use Rattle.hr_tree.specs.declared.modules.Header.{Header}
use Rattle.hr_tree.specs.declared.modules.Module.{Module}
use Rattle.hr_tree.specs.declared.expressions.Decl.TheOpen.{Decl-F, Exp-F, Qualifier-F, Alt-F}
use Rattle.hr_tree.specs.declared.expressions.Decl.TheFolds.{fold-Decl, fold-Exp, fold-Qualifier, fold-Alt}
use Rattle.hr_tree.specs.Names.{maybe_item, variable_items, constructor_items, operator_items}
use Rattle.hr_tree.specs.Lists.{listed_items, operand_items, field_items, block_items, body_items, where_items}

-- what was computed of a part
abbrev pub done : List Item → List Item
done items = items

abbrev pub ty_layer : Ty-F (List Item) → List Item
ty_layer (Ty-F.Variable name) = name ∷ []
ty_layer (Ty-F.Constructor constructor) = constructor_items constructor
ty_layer (Ty-F.Apply constructor arguments) = constructor_items constructor ++ flat_map done arguments
ty_layer (Ty-F.Function from arrow to) = from ++ arrow ∷ to
ty_layer (Ty-F.Tuple left parts right) = left ∷ (flat_map (listed_items done) parts ++ right ∷ [])
ty_layer (Ty-F.List left part right) = left ∷ (part ++ right ∷ [])
ty_layer (Ty-F.Group left part right) = left ∷ (part ++ right ∷ [])

abbrev pub ty_items : Ty → List Item
ty_items = fold-Ty (List Item) ty_layer

abbrev pub pat_layer : Pat-F (List Item) → List Item
pat_layer (Pat-F.Variable variable) = variable_items variable
pat_layer (Pat-F.Wildcard word) = word ∷ []
pat_layer (Pat-F.Literal literal) = literal ∷ []
pat_layer (Pat-F.Negative minus literal) = minus ∷ literal ∷ []
pat_layer (Pat-F.Constructor constructor) = constructor_items constructor
pat_layer (Pat-F.As variable mark part) = variable_items variable ++ mark ∷ part
pat_layer (Pat-F.Lazy mark part) = mark ∷ part
pat_layer (Pat-F.Apply constructor arguments) = constructor_items constructor ++ flat_map done arguments
pat_layer (Pat-F.Infix operands) = flat_map (operand_items done) operands
pat_layer (Pat-F.Tuple left parts right) = left ∷ (flat_map (listed_items done) parts ++ right ∷ [])
pat_layer (Pat-F.List left parts right) = left ∷ (flat_map (listed_items done) parts ++ right ∷ [])
pat_layer (Pat-F.Group left part right) = left ∷ (part ++ right ∷ [])
pat_layer (Pat-F.Fields constructor left fields right) = constructor_items constructor ++ left ∷ (flat_map (listed_items (field_items done)) fields ++ right ∷ [])

abbrev pub pat_items : Pat → List Item
pat_items = fold-Pat (List Item) pat_layer

abbrev pub type_head_items : TypeHead → List Item
type_head_items head = head.name ∷ head.variables

abbrev pub field_type_items : FieldType → List Item
field_type_items field = flat_map (listed_items variable_items) field.names ++ (field.colons ∷ ty_items field.ty)

abbrev pub construction_items : Construction → List Item
construction_items (Construction.Prefix constructor types) = constructor_items constructor ++ flat_map ty_items types
construction_items (Construction.Infix first operator second) = ty_items first ++ (operator_items operator ++ ty_items second)
construction_items (Construction.Fields constructor left fields right) = constructor_items constructor ++ left ∷ (flat_map (listed_items field_type_items) fields ++ right ∷ [])

abbrev pub left_head_items : LeftHead → List Item
left_head_items (LeftHead.Prefix variable patterns) = variable_items variable ++ flat_map pat_items patterns
left_head_items (LeftHead.Infix first operator second) = pat_items first ++ (operator_items operator ++ pat_items second)

abbrev pub closed_items : Closed → List Item
closed_items closed = closed.right ∷ flat_map pat_items closed.patterns

abbrev pub left_side_items : LeftSide → List Item
left_side_items left = left.opens ++ (left_head_items left.head ++ flat_map closed_items left.closes)

abbrev pub member_items : Member → List Item
member_items (Member.Constructor constructor) = constructor_items constructor
member_items (Member.Field variable) = variable_items variable

abbrev pub members_items : Members → List Item
members_items (Members.All left dots right) = left ∷ dots ∷ right ∷ []
members_items (Members.Named left list right) = left ∷ (flat_map (listed_items member_items) list ++ right ∷ [])

abbrev pub maybe_members : Option Members → List Item
maybe_members None = []
maybe_members (Some members) = members_items members

abbrev pub export_items : Export → List Item
export_items (Export.Variable variable) = variable_items variable
export_items (Export.Type name members) = name ∷ maybe_members members
export_items (Export.Module word name) = word ∷ name ∷ []

abbrev pub imported_items : Imported → List Item
imported_items (Imported.Variable variable) = variable_items variable
imported_items (Imported.Type name members) = name ∷ maybe_members members

abbrev pub name_list_items : {T : Type 0} → (T → List Item) → NameList T → List Item
name_list_items of names = names.left ∷ (flat_map (listed_items of) names.list ++ (maybe_item names.last_comma ++ names.right ∷ []))

abbrev pub maybe_alias : Option Alias → List Item
maybe_alias None = []
maybe_alias (Some alias) = alias.word ∷ alias.name ∷ []

abbrev pub maybe_import_names : Option ImportNames → List Item
maybe_import_names None = []
maybe_import_names (Some names) = maybe_item names.hiding ++ name_list_items imported_items names.list

abbrev pub import_items : Import → List Item
import_items import = import.word ∷ (maybe_item import.qualified ++ import.module ∷ (maybe_alias import.alias ++ maybe_import_names import.names))

abbrev pub exp_layer : Exp-F (List Item) (List Item) (List Item) (List Item) → List Item
exp_layer (Exp-F.Variable variable) = variable_items variable
exp_layer (Exp-F.Constructor constructor) = constructor_items constructor
exp_layer (Exp-F.Literal literal) = literal ∷ []
exp_layer (Exp-F.Group left part right) = left ∷ (part ++ right ∷ [])
exp_layer (Exp-F.Tuple left parts right) = left ∷ (flat_map (listed_items done) parts ++ right ∷ [])
exp_layer (Exp-F.List left parts right) = left ∷ (flat_map (listed_items done) parts ++ right ∷ [])
exp_layer (Exp-F.From left first dots right) = left ∷ (first ++ dots ∷ right ∷ [])
exp_layer (Exp-F.FromThen left first comma second dots right) = left ∷ (first ++ comma ∷ (second ++ dots ∷ right ∷ []))
exp_layer (Exp-F.FromTo left first dots last right) = left ∷ (first ++ dots ∷ (last ++ right ∷ []))
exp_layer (Exp-F.FromThenTo left first comma second dots last right) = left ∷ (first ++ comma ∷ (second ++ dots ∷ (last ++ right ∷ [])))
exp_layer (Exp-F.Comprehension left part bar qualifiers right) = left ∷ (part ++ bar ∷ (flat_map (listed_items done) qualifiers ++ right ∷ []))
exp_layer (Exp-F.LeftSection left part operator right) = left ∷ (part ++ (operator_items operator ++ right ∷ []))
exp_layer (Exp-F.RightSection left operator part right) = left ∷ (operator_items operator ++ (part ++ right ∷ []))
exp_layer (Exp-F.Apply atoms) = flat_map done atoms
exp_layer (Exp-F.Infix operands) = flat_map (operand_items done) operands
exp_layer (Exp-F.Annotated part colons ty) = part ++ colons ∷ ty_items ty
exp_layer (Exp-F.Lambda mark patterns arrow body) = mark ∷ (flat_map pat_items patterns ++ arrow ∷ body)
exp_layer (Exp-F.Let word block in_word body) = word ∷ (block_items done block ++ in_word ∷ body)
exp_layer (Exp-F.If word test then_word first else_word second) = word ∷ (test ++ then_word ∷ (first ++ else_word ∷ second))
exp_layer (Exp-F.Case word part of_word block) = word ∷ (part ++ of_word ∷ block_items done block)
exp_layer (Exp-F.Fields part left fields right) = part ++ left ∷ (flat_map (listed_items (field_items done)) fields ++ right ∷ [])

abbrev pub decl_layer : Decl-F (List Item) (List Item) (List Item) (List Item) → List Item
decl_layer (Decl-F.Import import) = import_items import
decl_layer (Decl-F.Synonym word head equals ty) = word ∷ (type_head_items head ++ equals ∷ ty_items ty)
decl_layer (Decl-F.Data word head equals constructions) = word ∷ (type_head_items head ++ equals ∷ flat_map (listed_items construction_items) constructions)
decl_layer (Decl-F.Newtype word head equals construction) = word ∷ (type_head_items head ++ equals ∷ construction_items construction)
decl_layer (Decl-F.Signature names colons ty) = flat_map (listed_items variable_items) names ++ colons ∷ ty_items ty
decl_layer (Decl-F.Fixity word level operators) = word ∷ (maybe_item level ++ flat_map (listed_items operator_items) operators)
decl_layer (Decl-F.Equation left body locals) = left_side_items left ++ (body_items done body ++ where_items done locals)
decl_layer (Decl-F.Binding pattern body locals) = pat_items pattern ++ (body_items done body ++ where_items done locals)

abbrev pub qualifier_layer : Qualifier-F (List Item) (List Item) (List Item) (List Item) → List Item
qualifier_layer (Qualifier-F.Generator pattern arrow part) = pat_items pattern ++ arrow ∷ part
qualifier_layer (Qualifier-F.Locals word block) = word ∷ block_items done block
qualifier_layer (Qualifier-F.Test part) = part

abbrev pub alt_layer : Alt-F (List Item) (List Item) (List Item) (List Item) → List Item
alt_layer alt = pat_items alt.pattern ++ (body_items done alt.body ++ where_items done alt.locals)

abbrev pub exp_items : Exp → List Item
exp_items = fold-Exp (List Item) (List Item) (List Item) (List Item) decl_layer exp_layer qualifier_layer alt_layer

abbrev pub decl_items : Decl → List Item
decl_items = fold-Decl (List Item) (List Item) (List Item) (List Item) decl_layer exp_layer qualifier_layer alt_layer

abbrev pub qualifier_items : Qualifier → List Item
qualifier_items = fold-Qualifier (List Item) (List Item) (List Item) (List Item) decl_layer exp_layer qualifier_layer alt_layer

abbrev pub alt_items : Alt → List Item
alt_items = fold-Alt (List Item) (List Item) (List Item) (List Item) decl_layer exp_layer qualifier_layer alt_layer

abbrev pub maybe_exports : Option (NameList Export) → List Item
maybe_exports None = []
maybe_exports (Some names) = name_list_items export_items names

abbrev pub header_items : Option Header → List Item
header_items None = []
header_items (Some header) = header.word ∷ header.name ∷ (maybe_exports header.exports ++ header.opening ∷ [])

abbrev pub module_items : Module → List Item
module_items tree = header_items tree.header ++ block_items decl_items tree.body

-- the items of a module, and what is behind the last one
abbrev pub items_of : Module → Items
items_of tree = record { list = module_items tree; tail = tree.tail }
