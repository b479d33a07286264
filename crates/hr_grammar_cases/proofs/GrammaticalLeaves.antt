-- Types, patterns and imports that are read are those of the grammar.
use Rattle.std.proofs.Common.{ℕ, List, [], ◌∷◌, Option, Some, None}
use lib.Chars.{codes}
use Rattle.hr_rules.specs.declared.block.Placed.{Placed}
use Rattle.hr_tree.specs.declared.lists.Operand.{Operand}
use Rattle.hr_tree.specs.declared.types.Ty.{Ty}
use Rattle.hr_tree.specs.declared.types.Ty.TheOpen.{Ty-F}
use Rattle.hr_tree.specs.declared.patterns.Pat.{Pat}
use Rattle.hr_tree.specs.declared.patterns.Pat.TheOpen.{Pat-F}
use Rattle.hr_tree.specs.declared.modules.NameList.{NameList}
use Rattle.hr_tree.specs.declared.modules.Export.{Export}
use Rattle.hr_tree.specs.declared.modules.Member.{Member}
use Rattle.hr_tree.specs.declared.modules.Members.{Members}
use Rattle.hr_tree.specs.declared.modules.Alias.{Alias}
use Rattle.hr_tree.specs.declared.modules.ImportNames.{ImportNames}
use Rattle.hr_tree.specs.declared.modules.Imported.{Imported}
use Rattle.hr_tree.specs.declared.modules.Header.{Header}
use Rattle.hr_grammar.specs.Words.{IsImportWord, IsComma}
use Rattle.hr_grammar.specs.Spelled.{IsConstructorOperator}
use Rattle.hr_grammar.specs.Nodes.{Nodes, TyPlace, PatPlace}
use Rattle.hr_grammar.specs.Types.{TyProduction}
use Rattle.hr_grammar.specs.Patterns.{ArePatOperands, PatProduction}
use Rattle.hr_grammar.specs.Imports.{IsMember, AreTypeMembers, IsNameList, IsExport, AreExports, IsImported, IsAlias, AreImportNames, IsImport}
use Rattle.hr_grammar.specs.Yields.{IsHeader}
use Rattle.hr_grammar_cases.specs.Readings.{Reading, maybe}
use Rattle.hr_grammar_cases.specs.Derivations.{Derivations}
use Rattle.hr_grammar_cases.specs.Types.{ty_reading}
use Rattle.hr_grammar_cases.specs.Patterns.{pat_operands, pat_reading}
use Rattle.hr_grammar_cases.specs.Imports.{member_reading, members_reading, name_list_reading, export_reading, imported_reading, alias_reading, import_names_reading, import_reading, header_reading}
use Rattle.hr_grammar_cases.specs.Laws.{AllAre}
use Rattle.hr_grammar_cases.proofs.Grammatical.{Are, maybe_is, operator_is, in_turn_are, separated_are}

pub ty_is : (read : Derivations) (allowed : Nodes) → AllAre read allowed → (n : ℕ) (place : TyPlace) (layer : Ty-F Ty) (ts us : List Placed)
    → ty_reading read n place layer ts us → TyProduction allowed place layer
ty_is read allowed each n place (Ty-F.Variable name) ts us r = r.0
ty_is read allowed each n place (Ty-F.Constructor named) ts us r = r.0
ty_is read allowed each n place (Ty-F.Tuple left parts right) ts us r =
    (r.1.1.0, separated_are n IsComma _ (allowed.ty TyPlace.Whole) (each.ty n TyPlace.Whole) parts r.1.0 r.1.2.0 r.1.2.1, r.0, r.1.2.2.0)
ty_is read allowed each n place (Ty-F.List left part right) ts us r = (r.1.0, each.ty n TyPlace.Whole part r.0 r.2.0 r.2.1, r.2.2.0)
ty_is read allowed each n place (Ty-F.Group left part right) ts us r = (r.1.0, each.ty n TyPlace.Whole part r.0 r.2.0 r.2.1, r.2.2.0)
ty_is read allowed each n place (Ty-F.Apply named arguments) ts us r =
    (r.0.0, r.1.1.0, r.0.1, in_turn_are _ (allowed.ty TyPlace.Atomic) (each.ty n TyPlace.Atomic) arguments r.1.0 us r.1.2)
ty_is read allowed each n place (Ty-F.Function from arrow to) ts us r =
    (r.0, each.ty n TyPlace.Applied from ts r.1.0 r.1.1, r.1.2.1.0, each.ty n TyPlace.Whole to r.1.2.0 us r.1.2.2)

pat_operands_are : (read : Derivations) (allowed : Nodes) → AllAre read allowed → (n : ℕ) (operands : List (Operand Pat)) (ts us : List Placed)
    → pat_operands read n operands ts us → ArePatOperands allowed operands
pat_operands_are read allowed each n [] ts us r = r
pat_operands_are read allowed each n (operand ∷ []) ts us r = (r.0.0, each.pat n PatPlace.Operand operand.part ts us r.1, r.0.1)
pat_operands_are read allowed each n (operand ∷ (next ∷ rest)) ts us r = (
  r.0,
  each.pat n PatPlace.Operand operand.part ts r.1.0 r.1.1,
  operator_is n IsConstructorOperator operand.operator r.1.0 r.1.2.0 r.1.2.1,
  pat_operands_are read allowed each n (next ∷ rest) r.1.2.0 us r.1.2.2,
)

pub pat_is : (read : Derivations) (allowed : Nodes) → AllAre read allowed → (n : ℕ) (place : PatPlace) (layer : Pat-F Pat) (ts us : List Placed)
    → pat_reading read n place layer ts us → PatProduction allowed place layer
pat_is read allowed each n place (Pat-F.Variable bound) ts us r = r.0
pat_is read allowed each n place (Pat-F.Wildcard word) ts us r = r.0
pat_is read allowed each n place (Pat-F.Literal literal) ts us r = r.0
pat_is read allowed each n place (Pat-F.Constructor named) ts us r = r.0
pat_is read allowed each n place (Pat-F.As bound mark part) ts us r = (r.1.0, r.2.1.0, each.pat n PatPlace.Atomic part r.2.0 us r.2.2)
pat_is read allowed each n place (Pat-F.Lazy mark part) ts us r = (r.1.0, each.pat n PatPlace.Atomic part r.0 us r.2)
pat_is read allowed each n place (Pat-F.Tuple left parts right) ts us r =
    (r.1.1.0, separated_are n IsComma _ (allowed.pat PatPlace.Whole) (each.pat n PatPlace.Whole) parts r.1.0 r.1.2.0 r.1.2.1, r.0, r.1.2.2.0)
pat_is read allowed each n place (Pat-F.List left parts right) ts us r =
    (r.1.1.0, separated_are n IsComma _ (allowed.pat PatPlace.Whole) (each.pat n PatPlace.Whole) parts r.1.0 r.1.2.0 r.1.2.1, r.0, r.1.2.2.0)
pat_is read allowed each n place (Pat-F.Group left part right) ts us r = (r.1.0, each.pat n PatPlace.Whole part r.0 r.2.0 r.2.1, r.2.2.0)
pat_is read allowed each n place (Pat-F.Negative minus number) ts us r = (r.0, r.1.1.0, r.1.2.0)
pat_is read allowed each n place (Pat-F.Apply named arguments) ts us r =
    (r.0.0, r.1.1.0, r.0.1, in_turn_are _ (allowed.pat PatPlace.Atomic) (each.pat n PatPlace.Atomic) arguments r.1.0 us r.1.2)
pat_is read allowed each n place (Pat-F.Infix operands) ts us r = (r.0.0, r.0.1, pat_operands_are read allowed each n operands ts us r.1)
pat_is read allowed each n place (Pat-F.Fields named left fields right) ts us r = r

member_is : (n : ℕ) → Are (member_reading n) IsMember
member_is n (Member.Constructor constructor) ts us r = r.0
member_is n (Member.Field variable) ts us r = r

members_are : (n : ℕ) (members : Option Members) (ts us : List Placed) → maybe (members_reading n) members ts us → AreTypeMembers members
members_are n None ts us r = tt
members_are n (Some (Members.All left dots right)) ts us r = (r.1.0, (r.2.1.0, r.2.2.0))
members_are n (Some (Members.Named left list right)) ts us r =
    (r.1.0, (separated_are n IsComma _ IsMember (member_is n) list r.0 r.2.0 r.2.1, r.2.2.0))

name_list_is : {T : Type 0} (n : ℕ) (of : T → Reading) (Is : T → Type 0) → Are of Is → (names : NameList T) (ts us : List Placed) → name_list_reading n of names ts us → IsNameList Is names
name_list_is n of Is each names ts us r =
    (r.1.0, (separated_are n IsComma of Is each names.list r.0 r.2.0 r.2.1, (maybe_is n IsComma names.last_comma r.2.0 r.2.2.0 r.2.2.1, r.2.2.2.0)))

export_is : (n : ℕ) → Are (export_reading n) IsExport
export_is n (Export.Variable variable) ts us r = r.0
export_is n (Export.Type name members) ts us r = (r.1.0, members_are n members r.0 us r.2)
export_is n (Export.Module word name) ts us r = (r.1.0, r.2.0)

imported_is : (n : ℕ) → Are (imported_reading n) IsImported
imported_is n (Imported.Variable variable) ts us r = r.0
imported_is n (Imported.Type name members) ts us r = (r.1.0, members_are n members r.0 us r.2)

alias_is : (n : ℕ) (alias : Option Alias) (ts us : List Placed) → maybe (alias_reading n) alias ts us → IsAlias alias
alias_is n None ts us r = tt
alias_is n (Some alias) ts us r = (r.1.0, r.2.0)

import_names_are : (n : ℕ) (names : Option ImportNames) (ts us : List Placed) → maybe (import_names_reading n) names ts us → AreImportNames names
import_names_are n None ts us r = tt
import_names_are n (Some names) ts us r =
    (maybe_is n (IsImportWord (codes "hiding")) names.hiding ts r.0 r.1, name_list_is n (imported_reading n) IsImported (imported_is n) names.list r.0 us r.2)

pub import_is : (n : ℕ) → Are (import_reading n) IsImport
import_is n import ts us r = (
  r.1.0,
  (
    maybe_is n (IsImportWord (codes "qualified")) import.qualified r.0 r.2.0 r.2.1,
    (
      r.2.2.1.0,
      (alias_is n import.alias r.2.2.0 r.2.2.2.0 r.2.2.2.1, import_names_are n import.names r.2.2.2.0 us r.2.2.2.2),
    ),
  ),
)

exports_are : (exports : Option (NameList Export)) (ts us : List Placed) → maybe (name_list_reading 0 (export_reading 0)) exports ts us → AreExports exports
exports_are None ts us r = tt
exports_are (Some names) ts us r = name_list_is 0 (export_reading 0) IsExport (export_is 0) names ts us r

pub header_is : (header : Option Header) (ts us : List Placed) → maybe header_reading header ts us → IsHeader header
header_is None ts us r = tt
header_is (Some header) ts us r = (r.1.0, (r.2.1.0, (exports_are header.exports r.2.0 r.2.2.0 r.2.2.1, r.2.2.2.0)))
