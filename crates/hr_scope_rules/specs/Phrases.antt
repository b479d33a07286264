-- Names, types, patterns and the lists of a tree, read from left to right.
use Rattle.std.specs.Prelude.{ℕ, List, [], ◌∷◌, ◌++◌, Option, Some, None}
use Rattle.std.specs.List.{flat_map}
use Rattle.hr_base.specs.declared.lexeme.Item.{Item}
use Rattle.hr_tree.specs.declared.names.Variable.{Variable}
use Rattle.hr_tree.specs.declared.names.Constructor.{Constructor}
use Rattle.hr_tree.specs.declared.names.Operator.{Operator}
use Rattle.hr_tree.specs.declared.lists.Listed.{Listed}
use Rattle.hr_tree.specs.declared.lists.Operand.{Operand}
use Rattle.hr_tree.specs.declared.lists.Field.{Field}
use Rattle.hr_tree.specs.declared.types.Ty.{Ty}
use Rattle.hr_tree.specs.declared.types.Ty.TheOpen.{Ty-F}
use Rattle.hr_tree.specs.declared.types.Ty.TheFolds.{fold-Ty}
use Rattle.hr_tree.specs.declared.patterns.Pat.{Pat}
use Rattle.hr_tree.specs.declared.patterns.Pat.TheOpen.{Pat-F}
use Rattle.hr_tree.specs.declared.patterns.Pat.TheFolds.{fold-Pat}
use Rattle.hr_tree.specs.Names.{maybe_item}
use Rattle.hr_scope_rules.specs.declared.naming.Naming.{Naming}
use Rattle.hr_scope_rules.specs.declared.joint.Joint.{Joint}
use Rattle.hr_scope_rules.specs.Events.{Event, plain, plain_events}

-- a name or an operator, given how the lexeme stands that is its name
abbrev pub variable_events : Naming → Variable → List Event
variable_events naming (Variable.Name name) = Event.Lexeme naming name ∷ []
variable_events naming (Variable.Symbol left symbol right) = plain left ∷ Event.Lexeme naming symbol ∷ plain right ∷ []

abbrev pub constructor_events : Naming → Constructor → List Event
constructor_events naming (Constructor.Name name) = Event.Lexeme naming name ∷ []
constructor_events naming (Constructor.Symbol left symbol right) = plain left ∷ Event.Lexeme naming symbol ∷ plain right ∷ []
constructor_events naming (Constructor.Unit left right) = plain left ∷ plain right ∷ []
constructor_events naming (Constructor.EmptyList left right) = plain left ∷ plain right ∷ []
constructor_events naming (Constructor.Tuple left commas right) = plain left ∷ (plain_events commas ++ plain right ∷ [])

abbrev pub operator_events : Naming → Operator → List Event
operator_events naming (Operator.Symbol symbol) = Event.Lexeme naming symbol ∷ []
operator_events naming (Operator.Quoted left name right) = plain left ∷ Event.Lexeme naming name ∷ plain right ∷ []

abbrev pub maybe_events : Option Item → List Event
maybe_events item = plain_events (maybe_item item)

-- what joins an operand of an infix sequence to the next one
abbrev pub joining_events : Option Operator → List Event
joining_events None = []
joining_events (Some operator) = Event.Join Joint.Operator ∷ operator_events Naming.Used operator

-- a minus before an operand is no name
abbrev pub minus_events : Option Item → List Event
minus_events None = []
minus_events (Some minus) = Event.Join Joint.Minus ∷ plain minus ∷ []

-- the name itself, of a variable
abbrev pub variable_text : Variable → List ℕ
variable_text (Variable.Name name) = name.lexeme.text
variable_text (Variable.Symbol left symbol right) = symbol.lexeme.text

abbrev pub operator_text : Operator → List ℕ
operator_text (Operator.Symbol symbol) = symbol.lexeme.text
operator_text (Operator.Quoted left name right) = name.lexeme.text

abbrev pub listed_events : {T : Type 0} → (T → List Event) → Listed T → List Event
listed_events of listed = of listed.part ++ maybe_events listed.separator

-- what was read of a part
abbrev pub done : List Event → List Event
done events = events

abbrev pub operand_events : {T : Type 0} → (T → List Event) → Operand T → List Event
operand_events of operand = minus_events operand.minus ++ (of operand.part ++ joining_events operand.operator)

abbrev pub sequence_events : {T : Type 0} → Joint → (T → List Event) → List (Operand T) → List Event
sequence_events begins of operands = Event.Join begins ∷ (flat_map (operand_events of) operands ++ Event.Join Joint.End ∷ [])

abbrev pub field_events : {T : Type 0} → (T → List Event) → Field T → List Event
field_events of field = variable_events Naming.Plain field.name ++ (plain field.equals ∷ of field.part)

-- a type variable is bound to nothing: a signature's are its own (section 4.1.2)
abbrev pub ty_layer : Ty-F (List Event) → List Event
ty_layer (Ty-F.Variable name) = plain name ∷ []
ty_layer (Ty-F.Constructor constructor) = constructor_events Naming.Type constructor
ty_layer (Ty-F.Apply constructor arguments) = constructor_events Naming.Type constructor ++ flat_map done arguments
ty_layer (Ty-F.Function from arrow to) = from ++ plain arrow ∷ to
ty_layer (Ty-F.Tuple left parts right) = plain left ∷ (flat_map (listed_events done) parts ++ plain right ∷ [])
ty_layer (Ty-F.List left part right) = plain left ∷ (part ++ plain right ∷ [])
ty_layer (Ty-F.Group left part right) = plain left ∷ (part ++ plain right ∷ [])

abbrev pub ty_events : Ty → List Event
ty_events = fold-Ty (List Event) ty_layer

-- the variables of a pattern are declared by it (section 3.17)
abbrev pub pat_layer : Pat-F (List Event) → List Event
pat_layer (Pat-F.Variable variable) = variable_events Naming.Bound variable
pat_layer (Pat-F.Wildcard word) = plain word ∷ []
pat_layer (Pat-F.Literal literal) = plain literal ∷ []
pat_layer (Pat-F.Negative minus literal) = Event.Join Joint.Minus ∷ plain minus ∷ plain literal ∷ []
pat_layer (Pat-F.Constructor constructor) = constructor_events Naming.Used constructor
pat_layer (Pat-F.As variable mark part) = variable_events Naming.Bound variable ++ plain mark ∷ part
pat_layer (Pat-F.Lazy mark part) = plain mark ∷ part
pat_layer (Pat-F.Apply constructor arguments) = constructor_events Naming.Used constructor ++ flat_map done arguments
pat_layer (Pat-F.Infix operands) = sequence_events Joint.Pattern done operands
pat_layer (Pat-F.Tuple left parts right) = plain left ∷ (flat_map (listed_events done) parts ++ plain right ∷ [])
pat_layer (Pat-F.List left parts right) = plain left ∷ (flat_map (listed_events done) parts ++ plain right ∷ [])
pat_layer (Pat-F.Group left part right) = plain left ∷ (part ++ plain right ∷ [])
pat_layer (Pat-F.Fields constructor left fields right) =
    constructor_events Naming.Used constructor ++ plain left ∷ (flat_map (listed_events (field_events done)) fields ++ plain right ∷ [])

abbrev pub pat_events : Pat → List Event
pat_events = fold-Pat (List Event) pat_layer
