-- Export lists, imports and headers that are read take their own items.
use Rattle.std.proofs.Common.{ℕ, List, Option, Some, None}
use lib.Chars.{codes}
use Rattle.hr_base.specs.declared.lexeme.Class.{Class}
use Rattle.hr_base.specs.declared.lexeme.Item.{Item}
use Rattle.hr_tree.specs.declared.modules.NameList.{NameList}
use Rattle.hr_tree.specs.declared.modules.Export.{Export}
use Rattle.hr_tree.specs.declared.modules.Member.{Member}
use Rattle.hr_tree.specs.declared.modules.Members.{Members}
use Rattle.hr_tree.specs.declared.modules.Import.{Import}
use Rattle.hr_tree.specs.declared.modules.Alias.{Alias}
use Rattle.hr_tree.specs.declared.modules.ImportNames.{ImportNames}
use Rattle.hr_tree.specs.declared.modules.Imported.{Imported}
use Rattle.hr_tree.specs.declared.modules.Header.{Header}
use Rattle.hr_tree.specs.Names.{variable_items, constructor_items}
use Rattle.hr_tree.specs.Yields.{member_items, maybe_members, export_items, imported_items, name_list_items, maybe_alias, maybe_import_names, import_items, maybe_exports, header_items}
use Rattle.hr_grammar.specs.Words.{IsOf, IsWord, IsImportWord, IsLeftParen, IsRightParen, IsComma, IsDots}
use Rattle.hr_grammar.specs.Spelled.{IsVariable, IsNamedVariable, IsOwnConstructor}
use Rattle.hr_grammar.specs.Imports.{IsTypeName}
use Rattle.hr_grammar_cases.specs.Readings.{Reading, maybe}
use Rattle.hr_grammar_cases.specs.Imports.{member_reading, members_reading, name_list_reading, export_reading, imported_reading, alias_reading, import_names_reading, import_reading, header_reading}
use Rattle.hr_grammar_cases.specs.Laws.{ImportsGive}
use Rattle.hr_grammar_cases.proofs.Taken.{Takes, taken_gives, nothing_takes, never_takes, then_takes, one_takes, spelled_takes, maybe_one_takes, separated_takes}

member_takes : (n : ℕ) (member : Member) → Takes n (member_items member) (member_reading n member)
member_takes n (Member.Constructor constructor) = spelled_takes n IsOwnConstructor constructor_items constructor
member_takes n (Member.Field variable) = never_takes

members_take : (n : ℕ) (members : Option Members) → Takes n (maybe_members members) (maybe (members_reading n) members)
members_take n None = nothing_takes
members_take n (Some (Members.All left dots right)) = then_takes (one_takes n IsLeftParen left) (then_takes (one_takes n IsDots dots) (one_takes n IsRightParen right))
members_take n (Some (Members.Named left list right)) =
    then_takes (one_takes n IsLeftParen left) (then_takes (separated_takes n IsComma member_items _ (member_takes n) list) (one_takes n IsRightParen right))

name_list_takes : {T : Type 0} (n : ℕ) (items_of : T → List Item) (of : T → Reading) → ((x : T) → Takes n (items_of x) (of x))
    → (names : NameList T) → Takes n (name_list_items items_of names) (name_list_reading n of names)
name_list_takes n items_of of each names =
    then_takes (one_takes n IsLeftParen names.left)
    (then_takes (separated_takes n IsComma items_of of each names.list) (then_takes (maybe_one_takes n IsComma names.last_comma) (one_takes n IsRightParen names.right)))

export_takes : (n : ℕ) (export : Export) → Takes n (export_items export) (export_reading n export)
export_takes n (Export.Variable variable) = spelled_takes n IsNamedVariable variable_items variable
export_takes n (Export.Type name members) = then_takes (one_takes n IsTypeName name) (members_take n members)
export_takes n (Export.Module word name) = then_takes (one_takes n (IsWord (codes "module")) word) (one_takes n (IsOf Class.ConId) name)

imported_takes : (n : ℕ) (imported : Imported) → Takes n (imported_items imported) (imported_reading n imported)
imported_takes n (Imported.Variable variable) = spelled_takes n IsVariable variable_items variable
imported_takes n (Imported.Type name members) = then_takes (one_takes n (IsOf Class.ConId) name) (members_take n members)

alias_takes : (n : ℕ) (alias : Option Alias) → Takes n (maybe_alias alias) (maybe (alias_reading n) alias)
alias_takes n None = nothing_takes
alias_takes n (Some alias) = then_takes (one_takes n (IsImportWord (codes "as")) alias.word) (one_takes n (IsOf Class.ConId) alias.name)

import_names_take : (n : ℕ) (names : Option ImportNames) → Takes n (maybe_import_names names) (maybe (import_names_reading n) names)
import_names_take n None = nothing_takes
import_names_take n (Some names) =
    then_takes (maybe_one_takes n (IsImportWord (codes "hiding")) names.hiding) (name_list_takes n imported_items (imported_reading n) (imported_takes n) names.list)

pub import_takes : (n : ℕ) (import : Import) → Takes n (import_items import) (import_reading n import)
import_takes n import =
    then_takes (one_takes n (IsWord (codes "import")) import.word)
    (then_takes (maybe_one_takes n (IsImportWord (codes "qualified")) import.qualified)
    (then_takes (one_takes n (IsOf Class.ConId) import.«module») (then_takes (alias_takes n import.alias) (import_names_take n import.names))))

exports_take : (exports : Option (NameList Export)) → Takes 0 (maybe_exports exports) (maybe (name_list_reading 0 (export_reading 0)) exports)
exports_take None = nothing_takes
exports_take (Some names) = name_list_takes 0 export_items (export_reading 0) (export_takes 0) names

pub header_takes : (header : Option Header) → Takes 0 (header_items header) (maybe header_reading header)
header_takes None = nothing_takes
header_takes (Some header) =
    then_takes (one_takes 0 (IsWord (codes "module")) header.word)
    (then_takes (one_takes 0 (IsOf Class.ConId) header.name) (then_takes (exports_take header.exports) (one_takes 0 (IsWord (codes "where")) header.opening)))

pub imports_give_lem : ImportsGive
imports_give_lem = record { imports = λ n import. taken_gives (import_takes n import); headers = λ header. taken_gives (header_takes header) }
