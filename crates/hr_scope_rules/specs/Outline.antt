-- A module read from left to right: the Haskell 98 Report, chapters 3 and 4. A region is a `let` or `where` block, or
-- the patterns of an equation, a lambda, an alternative or a qualifier.
use Rattle.std.specs.Prelude.{ℕ, ◌+◌, Bool, true, false, if◌then◌else◌, List, [], ◌∷◌, ◌++◌, map, Option, Some, None}
use Rattle.std.specs.List.{flat_map}
use Rattle.std.specs.Str.{bytes_eq}
use Rattle.hr_tree.specs.declared.lists.Listed.{Listed}
use Rattle.hr_tree.specs.declared.lists.Piece.{Piece}
use Rattle.hr_tree.specs.declared.lists.Block.{Block}
use Rattle.hr_tree.specs.declared.declarations.TypeHead.{TypeHead}
use Rattle.hr_tree.specs.declared.declarations.FieldType.{FieldType}
use Rattle.hr_tree.specs.declared.declarations.Construction.{Construction}
use Rattle.hr_tree.specs.declared.declarations.LeftSide.{LeftSide}
use Rattle.hr_tree.specs.declared.declarations.LeftHead.{LeftHead}
use Rattle.hr_tree.specs.declared.declarations.Closed.{Closed}
use Rattle.hr_tree.specs.declared.declarations.Body.{Body}
use Rattle.hr_tree.specs.declared.declarations.Guarded.{Guarded}
use Rattle.hr_tree.specs.declared.declarations.Where.{Where}
use Rattle.hr_tree.specs.declared.expressions.Exp.{Exp}
use Rattle.hr_tree.specs.declared.expressions.Decl.{Decl}
use Rattle.hr_tree.specs.declared.expressions.Qualifier.{Qualifier}
use Rattle.hr_tree.specs.declared.expressions.Alt.{Alt}
use Rattle.hr_tree.specs.declared.expressions.Decl.TheOpen.{Decl-F, Exp-F, Qualifier-F, Alt-F}
use Rattle.hr_tree.specs.declared.expressions.Decl.TheFolds.{fold-Decl, fold-Exp, fold-Qualifier, fold-Alt}
use Rattle.hr_tree.specs.declared.modules.Module.{Module}
use Rattle.hr_tree.specs.Lists.{opening_items, closing_items}
use Rattle.hr_scope_rules.specs.declared.naming.Naming.{Naming}
use Rattle.hr_scope_rules.specs.declared.joint.Joint.{Joint}
use Rattle.hr_scope_rules.specs.Events.{Event, Outlined, read_all, plain, plain_events}
use Rattle.hr_scope_rules.specs.Phrases.{variable_events, constructor_events, operator_events, variable_text, operator_text, listed_events, maybe_events, done, sequence_events, field_events, ty_events, pat_events}
use Rattle.hr_scope_rules.specs.Lists.{import_events, header_events}

-- a declaration: the name where it is an equation with patterns, and what is read of it, given whether it goes on the
-- declaration before it
pub record Declared : Type 0 where
  pub equation : Option (List ℕ)
  pub events : Bool → List Event

-- what was computed of a part
abbrev pub as_declared : Declared → Declared
as_declared declared = declared

abbrev pub alone : List Event → Declared
alone events = record { equation = None; events = λ goes_on. events }

-- a qualifier: whether it opens a region, and what is read of it, given that region's number
pub record Qualified : Type 0 where
  pub opens : Bool
  pub events : ℕ → List Event

abbrev pub as_qualified : Qualified → Qualified
as_qualified qualified = qualified

-- equations of one name with nothing but empty parts between them are one declaration (section 4.4.3.1)
abbrev pub goes_on : Option (List ℕ) → Option (List ℕ) → Bool
goes_on (Some before) (Some now) = bytes_eq before now
goes_on _ _ = false

-- of a piece of a block, given the equation that it may go on: an empty part changes nothing
abbrev pub piece_events : {T : Type 0} → (T → Declared) → Option (List ℕ) → Piece T → List Event
piece_events of before (Piece.Semicolon item) = plain item ∷ []
piece_events of before (Piece.Part part) = (of part).events (goes_on before (of part).equation)

abbrev pub passed : {T : Type 0} → (T → Declared) → Option (List ℕ) → Piece T → Option (List ℕ)
passed of before (Piece.Semicolon item) = before
passed of before (Piece.Part part) = (of part).equation

abbrev pub pieces_events : {T : Type 0} → (T → Declared) → Option (List ℕ) → List (Piece T) → List Event
pieces_events of before [] = []
pieces_events of before (piece ∷ rest) = piece_events of before piece ++ pieces_events of (passed of before piece) rest

abbrev pub block_events : {T : Type 0} → (T → Declared) → Block T → List Event
block_events of block = plain_events (opening_items block.layout) ++ (pieces_events of None block.pieces ++ plain_events (closing_items block.layout))

abbrev pub alternative_events : {T : Type 0} → (T → List Event) → Piece T → List Event
alternative_events of (Piece.Semicolon item) = plain item ∷ []
alternative_events of (Piece.Part part) = of part

abbrev pub alternatives_events : {T : Type 0} → (T → List Event) → Block T → List Event
alternatives_events of block = plain_events (opening_items block.layout) ++ (flat_map (alternative_events of) block.pieces ++ plain_events (closing_items block.layout))

abbrev pub guarded_events : {T : Type 0} → (T → List Event) → Guarded T → List Event
guarded_events of guarded = plain guarded.bar ∷ (of guarded.guard ++ plain guarded.mark ∷ of guarded.body)

abbrev pub body_events : {T : Type 0} → (T → List Event) → Body T → List Event
body_events of (Body.Plain mark body) = plain mark ∷ of body
body_events of (Body.Guarded list) = flat_map (guarded_events of) list

-- the region of a `where` is round all guards and bodies before it (section 4.4.3)
abbrev pub where_entered : {T : Type 0} → Option (Where T) → List Event
where_entered None = []
where_entered (Some locals) = Event.Enter 1 ∷ []

abbrev pub where_events : {T : Type 0} → (T → Declared) → Option (Where T) → List Event
where_events of None = []
where_events of (Some locals) = plain locals.word ∷ (block_events of locals.block ++ Event.Leave ∷ [])

-- a body with its `where`
abbrev pub rest_events : {E D : Type 0} → (E → List Event) → (D → Declared) → Body E → Option (Where D) → List Event
rest_events of declared body locals = where_entered locals ++ (body_events of body ++ where_events declared locals)

-- the head of a type's declaration: its variables are in a region of their own
abbrev pub head_events : TypeHead → List Event
head_events head = Event.Begin ∷ Event.Lexeme Naming.Headed head.name ∷ Event.Enter 0 ∷ (map (Event.Lexeme Naming.Parameter) head.variables ++ Event.Leave ∷ Event.End ∷ [])

abbrev pub field_type_events : FieldType → List Event
field_type_events field = flat_map (listed_events (variable_events Naming.Plain)) field.names ++ (plain field.colons ∷ ty_events field.ty)

abbrev pub construction_events : Construction → List Event
construction_events (Construction.Prefix constructor types) = constructor_events Naming.Constructed constructor ++ flat_map ty_events types
construction_events (Construction.Infix first operator second) = ty_events first ++ (operator_events Naming.Constructed operator ++ ty_events second)
construction_events (Construction.Fields constructor left fields right) =
    constructor_events Naming.Constructed constructor ++ plain left ∷ (flat_map (listed_events field_type_events) fields ++ plain right ∷ [])

-- the left side of an equation, behind which its region is open: its variable is declared outside of that region
abbrev pub left_head_events : Naming → LeftHead → List Event
left_head_events naming (LeftHead.Prefix variable patterns) = variable_events naming variable ++ Event.Enter 0 ∷ flat_map pat_events patterns
left_head_events naming (LeftHead.Infix first operator second) =
    Event.Join Joint.Pattern ∷ Event.Enter 0 ∷ (pat_events first ++ Event.Leave ∷ Event.Join Joint.Root
    ∷ (operator_events naming operator ++ Event.Enter 0 ∷ (pat_events second ++ Event.Join Joint.End ∷ [])))

abbrev pub closed_events : Closed → List Event
closed_events closed = plain closed.right ∷ flat_map pat_events closed.patterns

abbrev pub left_side_events : Naming → LeftSide → List Event
left_side_events naming left = plain_events left.opens ++ (left_head_events naming left.head ++ flat_map closed_events left.closes)

abbrev pub head_text : LeftHead → List ℕ
head_text (LeftHead.Prefix variable patterns) = variable_text variable
head_text (LeftHead.Infix first operator second) = operator_text operator

abbrev pub decl_layer : Decl-F Declared (List Event) Qualified (List Event) → Declared
decl_layer (Decl-F.Import import) = alone (import_events import)
decl_layer (Decl-F.Synonym word head equals ty) = alone (plain word ∷ (head_events head ++ plain equals ∷ ty_events ty))
decl_layer (Decl-F.Data word head equals constructions) =
    alone (plain word ∷ (head_events head ++ plain equals ∷ flat_map (listed_events construction_events) constructions))
decl_layer (Decl-F.Newtype word head equals construction) = alone (plain word ∷ (head_events head ++ plain equals ∷ construction_events construction))
decl_layer (Decl-F.Signature names colons ty) = alone (flat_map (listed_events (variable_events Naming.Signed)) names ++ plain colons ∷ ty_events ty)
decl_layer (Decl-F.Fixity word level operators) = alone (plain word ∷ (maybe_events level ++ flat_map (listed_events (operator_events Naming.Fixed)) operators))
decl_layer (Decl-F.Equation left body locals) = record {
  equation = Some (head_text left.head);
  events = λ goes_on. Event.Begin ∷ (left_side_events (Naming.Defined goes_on) left ++ (rest_events done as_declared body locals ++ Event.Leave ∷ Event.End ∷ []));
}
decl_layer (Decl-F.Binding pattern body locals) = alone (Event.Begin ∷ (pat_events pattern ++ (rest_events done as_declared body locals ++ Event.End ∷ [])))

-- a generator's variables are in scope in the qualifiers behind it and in the head, but not in its own
-- expression; so are the names of a `let` (section 3.11)
abbrev pub qualifier_layer : Qualifier-F Declared (List Event) Qualified (List Event) → Qualified
qualifier_layer (Qualifier-F.Generator pattern arrow part) =
    record { opens = true; events = λ index. Event.Enter index ∷ (pat_events pattern ++ Event.Leave ∷ plain arrow ∷ part) }
qualifier_layer (Qualifier-F.Locals word block) =
    record { opens = true; events = λ index. plain word ∷ Event.Enter index ∷ (block_events as_declared block ++ Event.Leave ∷ []) }
qualifier_layer (Qualifier-F.Test part) = record { opens = false; events = λ index. part }

abbrev pub entering : ℕ → Bool → List Event
entering index opens = if opens then Event.Enter index ∷ [] else []

abbrev pub leaving : Bool → List Event
leaving opens = if opens then Event.Leave ∷ [] else []

-- all regions of the qualifiers are entered, each inside the one before it
abbrev pub all_entered : {T : Type 0} → (T → Qualified) → ℕ → List (Listed T) → List Event
all_entered of index [] = []
all_entered of index (listed ∷ rest) = entering index (of listed.part).opens ++ all_entered of (index + 1) rest

abbrev pub left_behind : {T : Type 0} → (T → Qualified) → Listed T → List Event
left_behind of listed = leaving (of listed.part).opens

abbrev pub all_left : {T : Type 0} → (T → Qualified) → List (Listed T) → List Event
all_left of list = flat_map (left_behind of) list

-- the region of a qualifier is round those behind it
abbrev pub qualifiers_events : {T : Type 0} → (T → Qualified) → ℕ → List (Listed T) → List Event
qualifiers_events of index [] = []
qualifiers_events of index (listed ∷ rest) =
    (of listed.part).events index ++ (maybe_events listed.separator ++ (entering index (of listed.part).opens ++ qualifiers_events of (index + 1) rest))

abbrev pub exp_layer : Exp-F Declared (List Event) Qualified (List Event) → List Event
exp_layer (Exp-F.Variable variable) = variable_events Naming.Used variable
exp_layer (Exp-F.Constructor constructor) = constructor_events Naming.Used constructor
exp_layer (Exp-F.Literal literal) = plain literal ∷ []
exp_layer (Exp-F.Group left part right) = plain left ∷ (part ++ plain right ∷ [])
exp_layer (Exp-F.Tuple left parts right) = plain left ∷ (flat_map (listed_events done) parts ++ plain right ∷ [])
exp_layer (Exp-F.List left parts right) = plain left ∷ (flat_map (listed_events done) parts ++ plain right ∷ [])
exp_layer (Exp-F.From left first dots right) = plain left ∷ (first ++ plain dots ∷ plain right ∷ [])
exp_layer (Exp-F.FromThen left first comma second dots right) = plain left ∷ (first ++ plain comma ∷ (second ++ plain dots ∷ plain right ∷ []))
exp_layer (Exp-F.FromTo left first dots last right) = plain left ∷ (first ++ plain dots ∷ (last ++ plain right ∷ []))
exp_layer (Exp-F.FromThenTo left first comma second dots last right) =
    plain left ∷ (first ++ plain comma ∷ (second ++ plain dots ∷ (last ++ plain right ∷ [])))
exp_layer (Exp-F.Comprehension left part bar qualifiers right) =
    Event.Begin ∷ plain left ∷ (all_entered as_qualified 0 qualifiers ++ (part ++ (all_left as_qualified qualifiers ++ plain bar
    ∷ (qualifiers_events as_qualified 0 qualifiers ++ (all_left as_qualified qualifiers ++ plain right ∷ Event.End ∷ [])))))
exp_layer (Exp-F.LeftSection left part operator right) = plain left ∷ (part ++ (operator_events Naming.Used operator ++ plain right ∷ []))
exp_layer (Exp-F.RightSection left operator part right) = plain left ∷ (operator_events Naming.Used operator ++ (part ++ plain right ∷ []))
exp_layer (Exp-F.Apply atoms) = flat_map done atoms
exp_layer (Exp-F.Infix operands) = sequence_events Joint.Expression done operands
exp_layer (Exp-F.Annotated part colons ty) = part ++ plain colons ∷ ty_events ty
exp_layer (Exp-F.Lambda mark patterns arrow body) =
    Event.Begin ∷ plain mark ∷ Event.Enter 0 ∷ (flat_map pat_events patterns ++ plain arrow ∷ (body ++ Event.Leave ∷ Event.End ∷ []))
exp_layer (Exp-F.Let word block in_word body) =
    Event.Begin ∷ plain word ∷ Event.Enter 0 ∷ (block_events as_declared block ++ plain in_word ∷ (body ++ Event.Leave ∷ Event.End ∷ []))
exp_layer (Exp-F.If word test then_word first else_word second) = plain word ∷ (test ++ plain then_word ∷ (first ++ plain else_word ∷ second))
exp_layer (Exp-F.Case word part of_word block) = plain word ∷ (part ++ plain of_word ∷ alternatives_events done block)
exp_layer (Exp-F.Fields part left fields right) = part ++ plain left ∷ (flat_map (listed_events (field_events done)) fields ++ plain right ∷ [])

abbrev pub alt_layer : Alt-F Declared (List Event) Qualified (List Event) → List Event
alt_layer alt = Event.Begin ∷ Event.Enter 0 ∷ (pat_events alt.pattern ++ (rest_events done as_declared alt.body alt.locals ++ Event.Leave ∷ Event.End ∷ []))

abbrev pub declared_of : Decl → Declared
declared_of = fold-Decl Declared (List Event) Qualified (List Event) decl_layer exp_layer qualifier_layer alt_layer

abbrev pub exp_events : Exp → List Event
exp_events = fold-Exp Declared (List Event) Qualified (List Event) decl_layer exp_layer qualifier_layer alt_layer

abbrev pub qualified_of : Qualifier → Qualified
qualified_of = fold-Qualifier Declared (List Event) Qualified (List Event) decl_layer exp_layer qualifier_layer alt_layer

abbrev pub alt_events : Alt → List Event
alt_events = fold-Alt Declared (List Event) Qualified (List Event) decl_layer exp_layer qualifier_layer alt_layer

-- the body of a module is no region
abbrev pub module_events : Module → List Event
module_events tree =
    header_events tree.header ++ block_events declared_of tree.body

-- the lexemes of a module with their roles, in order, and the regions that are entered
abbrev pub outline : Module → Outlined
outline tree = read_all (module_events tree)
