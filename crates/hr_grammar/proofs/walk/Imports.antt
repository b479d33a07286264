-- What goes over from the parts of trees to the whole is true of imports and lists of exports.
use Rattle.std.proofs.Common.{List, [], ◌∷◌, ◌++◌, Option, Some, None, refl, subst}
use Rattle.std.specs.List.{flat_map}
use Rattle.std.proofs.lemmas.List.{append_assoc}
use lib.Chars.{codes}
use Rattle.hr_base.specs.declared.lexeme.Class.{Class}
use Rattle.hr_base.specs.declared.lexeme.Item.{Item}
use Rattle.hr_tree.specs.declared.modules.NameList.{NameList}
use Rattle.hr_tree.specs.declared.modules.Export.{Export}
use Rattle.hr_tree.specs.declared.modules.Member.{Member}
use Rattle.hr_tree.specs.declared.modules.Members.{Members}
use Rattle.hr_tree.specs.declared.modules.Import.{Import}
use Rattle.hr_tree.specs.declared.modules.Alias.{Alias}
use Rattle.hr_tree.specs.declared.modules.ImportNames.{ImportNames}
use Rattle.hr_tree.specs.declared.modules.Imported.{Imported}
use Rattle.hr_tree.specs.declared.modules.Header.{Header}
use Rattle.hr_tree.specs.Names.{maybe_item}
use Rattle.hr_tree.specs.Lists.{listed_items}
use Rattle.hr_tree.specs.Yields.{member_items, maybe_members, export_items, imported_items, name_list_items, maybe_alias, maybe_import_names, import_items, maybe_exports, header_items}
use Rattle.hr_grammar.specs.Words.{IsComma, IsImportWord}
use Rattle.hr_grammar.specs.Imports.{IsMember, AreTypeMembers, IsNameList, IsExport, AreExports, IsImported, IsAlias, AreImportNames, IsImport}
use Rattle.hr_grammar.specs.Yields.{IsHeader}
use Rattle.hr_grammar.proofs.walk.Rules.{InPatterns, InTrees}
use Rattle.hr_grammar.proofs.walk.Lists.{put, maybe, separated}
use Rattle.hr_grammar.proofs.walk.Names.{patterns_of, of_class, of_text, of_word, comma, large_name, own_constructor, variable, named_variable}

member_keeps : {P : List Item → Type 0} → InPatterns P → (member : Member) → IsMember member → P (member_items member)
member_keeps h (Member.Constructor named) is = own_constructor h named is
member_keeps h (Member.Field named) is = elim is [ ]

members_keep : {P : List Item → Type 0} → InPatterns P → (members : Option Members) → AreTypeMembers members → P (maybe_members members)
members_keep h None is = h.joins.nothing
members_keep h (Some (Members.All left dots right)) is = h.parens left right (dots ∷ []) is.0 is.1.1 (of_text h Class.ReservedOp (codes "..") dots is.1.0 refl)
members_keep h (Some (Members.Named left list right)) is =
    h.parens left right (flat_map (listed_items member_items) list) is.0 is.1.1 (separated h.joins member_items IsComma IsMember (comma h) (member_keeps h) list is.1.0)

name_list_keeps : {P : List Item → Type 0} → InPatterns P → {T : Type 0} (of : T → List Item) (Is : T → Type 0) → ((part : T) → Is part → P (of part)) → (names : NameList T) → IsNameList Is names → P (name_list_items of names)
name_list_keeps {P} h of Is each names is =
    subst (λ l. P (names.left ∷ l)) (append_assoc (flat_map (listed_items of) names.list) (maybe_item names.last_comma) (names.right ∷ []))
    (h.parens names.left names.right (flat_map (listed_items of) names.list ++ maybe_item names.last_comma) is.0 is.1.1.1
    (h.joins.join (flat_map (listed_items of) names.list) (maybe_item names.last_comma) (separated h.joins of IsComma Is (comma h) each names.list is.1.0) (maybe h.joins IsComma (comma h) names.last_comma is.1.1.0)))

export_keeps : {P : List Item → Type 0} → InPatterns P → (export : Export) → IsExport export → P (export_items export)
export_keeps h (Export.Variable named) is = named_variable h named is
export_keeps h (Export.Type item members) is = put h.joins item (maybe_members members) (large_name h item is.0) (members_keep h members is.1)
export_keeps h (Export.Module word item) is = put h.joins word (item ∷ []) (of_text h Class.ReservedId (codes "module") word is.0 refl) (of_class h Class.ConId item is.1 refl)

imported_keeps : {P : List Item → Type 0} → InPatterns P → (imported : Imported) → IsImported imported → P (imported_items imported)
imported_keeps h (Imported.Variable named) is = variable h named is
imported_keeps h (Imported.Type item members) is = put h.joins item (maybe_members members) (of_class h Class.ConId item is.0 refl) (members_keep h members is.1)

alias_keeps : {P : List Item → Type 0} → InPatterns P → (alias : Option Alias) → IsAlias alias → P (maybe_alias alias)
alias_keeps h None is = h.joins.nothing
alias_keeps h (Some alias) is = put h.joins alias.word (alias.name ∷ []) (of_text h Class.VarId (codes "as") alias.word is.0 refl) (of_class h Class.ConId alias.name is.1 refl)

import_names_keep : {P : List Item → Type 0} → InPatterns P → (names : Option ImportNames) → AreImportNames names → P (maybe_import_names names)
import_names_keep h None is = h.joins.nothing
import_names_keep h (Some names) is =
    h.joins.join (maybe_item names.hiding) (name_list_items imported_items names.list)
    (maybe h.joins (IsImportWord (codes "hiding")) (λ item w. of_text h Class.VarId (codes "hiding") item w refl) names.hiding is.0)
    (name_list_keeps h imported_items IsImported (imported_keeps h) names.list is.1)

pub import_keeps : {P : List Item → Type 0} → InPatterns P → (import : Import) → IsImport import → P (import_items import)
import_keeps h import is =
    put h.joins import.word (maybe_item import.qualified ++ import.«module» ∷ (maybe_alias import.alias ++ maybe_import_names import.names)) (of_text h Class.ReservedId (codes "import") import.word is.0 refl)
    (h.joins.join (maybe_item import.qualified) (import.«module» ∷ (maybe_alias import.alias ++ maybe_import_names import.names))
    (maybe h.joins (IsImportWord (codes "qualified")) (λ item w. of_text h Class.VarId (codes "qualified") item w refl) import.qualified is.1.0)
    (put h.joins import.«module» (maybe_alias import.alias ++ maybe_import_names import.names) (of_class h Class.ConId import.«module» is.1.1.0 refl)
    (h.joins.join (maybe_alias import.alias) (maybe_import_names import.names) (alias_keeps h import.alias is.1.1.1.0) (import_names_keep h import.names is.1.1.1.1))))

exports_keep : {P : List Item → Type 0} → InPatterns P → (exports : Option (NameList Export)) → AreExports exports → P (maybe_exports exports)
exports_keep h None is = h.joins.nothing
exports_keep h (Some names) is = name_list_keeps h export_items IsExport (export_keeps h) names is

-- a header before its `where`
pub header_front_keeps : {P : List Item → Type 0} → InPatterns P → (header : Header) → IsHeader (Some header) → P (header.word ∷ header.name ∷ maybe_exports header.exports)
header_front_keeps h header is =
    put h.joins header.word (header.name ∷ maybe_exports header.exports) (of_text h Class.ReservedId (codes "module") header.word is.0 refl)
    (put h.joins header.name (maybe_exports header.exports) (of_class h Class.ConId header.name is.1.0 refl) (exports_keep h header.exports is.1.1.0))

pub header_keeps : {P Q : List Item → Type 0} → InTrees P Q → (header : Option Header) → IsHeader header → P (header_items header)
header_keeps h None is = h.joins.nothing
header_keeps h (Some header) is =
    h.joins.join (header.word ∷ header.name ∷ maybe_exports header.exports) (header.opening ∷ []) (header_front_keeps (patterns_of h) header is)
    (of_word h Class.ReservedId (codes "where") header.opening is.1.1.1 refl)
