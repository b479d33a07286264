-- The header of a module and imports, read from left to right: the Haskell 98 Report, sections 5.2 and 5.3. A type with
-- its constructors begins a construct, and so does the name of the module in an import: what the list names is found
-- by their lexemes.
use Rattle.std.specs.Prelude.{List, [], ◌∷◌, ◌++◌, Option, Some, None}
use Rattle.std.specs.List.{flat_map}
use Rattle.hr_base.specs.declared.bind.Space.{Space}
use Rattle.hr_base.specs.declared.lexeme.Item.{Item}
use Rattle.hr_tree.specs.declared.modules.NameList.{NameList}
use Rattle.hr_tree.specs.declared.modules.Export.{Export}
use Rattle.hr_tree.specs.declared.modules.Member.{Member}
use Rattle.hr_tree.specs.declared.modules.Members.{Members}
use Rattle.hr_tree.specs.declared.modules.Import.{Import}
use Rattle.hr_tree.specs.declared.modules.ImportNames.{ImportNames}
use Rattle.hr_tree.specs.declared.modules.Imported.{Imported}
use Rattle.hr_tree.specs.declared.modules.Header.{Header}
use Rattle.hr_tree.specs.Yields.{maybe_alias}
use Rattle.hr_scope_rules.specs.declared.naming.Naming.{Naming}
use Rattle.hr_scope_rules.specs.Events.{Event, plain, plain_events}
use Rattle.hr_scope_rules.specs.Phrases.{variable_events, constructor_events, listed_events, maybe_events}

-- a field stands as a constructor does that is named with the type
abbrev pub member_events : Naming → Member → List Event
member_events naming (Member.Constructor constructor) = constructor_events naming constructor
member_events naming (Member.Field variable) = variable_events naming variable

abbrev pub members_events : Naming → Option Members → List Event
members_events naming None = []
members_events naming (Some (Members.All left dots right)) = plain left ∷ plain dots ∷ plain right ∷ []
members_events naming (Some (Members.Named left list right)) = plain left ∷ (flat_map (listed_events (member_events naming)) list ++ plain right ∷ [])

abbrev pub export_events : Export → List Event
export_events (Export.Variable variable) = variable_events (Naming.Exported Space.Value) variable
export_events (Export.Type name members) = Event.Begin ∷ Event.Lexeme (Naming.Exported Space.TypeName) name ∷ (members_events Naming.ExportedPart members ++ Event.End ∷ [])
export_events (Export.«Module» word name) = plain word ∷ plain name ∷ []

abbrev pub names_events : {T : Type 0} → (T → List Event) → NameList T → List Event
names_events of names = plain names.left ∷ (flat_map (listed_events of) names.list ++ (maybe_events names.last_comma ++ plain names.right ∷ []))

abbrev pub imported_events : Imported → List Event
imported_events (Imported.Variable variable) = variable_events Naming.Imported variable
imported_events (Imported.Type name members) = Event.Begin ∷ Event.Lexeme Naming.ImportedType name ∷ (members_events Naming.ImportedPart members ++ Event.End ∷ [])

abbrev pub hidden_events : Imported → List Event
hidden_events (Imported.Variable variable) = variable_events Naming.Hidden variable
hidden_events (Imported.Type name members) = Event.Lexeme Naming.Hidden name ∷ members_events Naming.Hidden members

abbrev pub listing_events : Option Item → NameList Imported → List Event
listing_events None list = names_events imported_events list
listing_events (Some hiding) list = plain hiding ∷ names_events hidden_events list

abbrev pub import_names_events : Option ImportNames → List Event
import_names_events None = []
import_names_events (Some names) = listing_events names.hiding names.list

abbrev pub import_events : Import → List Event
import_events import =
    plain import.word ∷ (maybe_events import.qualified ++ Event.Begin ∷ plain import.«module»
    ∷ (plain_events (maybe_alias import.alias) ++ (import_names_events import.names ++ Event.End ∷ [])))

abbrev pub exports_events : Option (NameList Export) → List Event
exports_events None = []
exports_events (Some names) = names_events export_events names

abbrev pub header_events : Option Header → List Event
header_events None = []
header_events (Some header) = plain header.word ∷ plain header.name ∷ (exports_events header.exports ++ plain header.opening ∷ [])
