-- Types, patterns, heads, imports and headers of the grammar: where their items go on, they are read.
use Rattle.std.proofs.Common.{ℕ, zero, suc, List, [], ◌∷◌, ◌++◌, Option, Some, None, sym, ap, ◌∙◌}
use Rattle.std.specs.List.{flat_map}
use lib.Chars.{codes}
use Rattle.hr_base.specs.declared.lexeme.Class.{Class}
use Rattle.hr_base.specs.declared.lexeme.Item.{Item}
use Rattle.hr_tree.specs.declared.lists.Operand.{Operand}
use Rattle.hr_tree.specs.declared.types.Ty.{Ty, out-Ty, roll-Ty}
use Rattle.hr_tree.specs.declared.types.Ty.TheOpen.{Ty-F}
use Rattle.hr_tree.specs.declared.types.Ty.TheFolds.{fold-roll-Ty}
use Rattle.hr_tree.specs.declared.types.Ty.TheViews.{roll-out-Ty, rolls-Apply as rolls-ty-Apply, rolls-Tuple as rolls-ty-Tuple}
use Rattle.hr_tree.specs.declared.patterns.Pat.{Pat, out-Pat, roll-Pat}
use Rattle.hr_tree.specs.declared.patterns.Pat.TheOpen.{Pat-F}
use Rattle.hr_tree.specs.declared.patterns.Pat.TheFolds.{fold-roll-Pat}
use Rattle.hr_tree.specs.declared.patterns.Pat.TheViews.{roll-out-Pat, rolls-Apply, rolls-Infix, rolls-Tuple, rolls-List}
use Rattle.hr_tree.specs.declared.declarations.TypeHead.{TypeHead}
use Rattle.hr_tree.specs.declared.declarations.Construction.{Construction}
use Rattle.hr_tree.specs.declared.declarations.LeftSide.{LeftSide}
use Rattle.hr_tree.specs.declared.declarations.LeftHead.{LeftHead}
use Rattle.hr_tree.specs.declared.declarations.Closed.{Closed}
use Rattle.hr_tree.specs.declared.modules.NameList.{NameList}
use Rattle.hr_tree.specs.declared.modules.Export.{Export}
use Rattle.hr_tree.specs.declared.modules.Member.{Member}
use Rattle.hr_tree.specs.declared.modules.Members.{Members}
use Rattle.hr_tree.specs.declared.modules.Import.{Import}
use Rattle.hr_tree.specs.declared.modules.Alias.{Alias}
use Rattle.hr_tree.specs.declared.modules.ImportNames.{ImportNames}
use Rattle.hr_tree.specs.declared.modules.Imported.{Imported}
use Rattle.hr_tree.specs.declared.modules.Header.{Header}
use Rattle.hr_tree.specs.Names.{maybe_operator, variable_items, constructor_items, operator_items}
use Rattle.hr_tree.specs.Lists.{operand_items}
use Rattle.hr_tree.specs.Yields.{ty_layer, ty_items, pat_layer, pat_items, type_head_items, construction_items, left_head_items, closed_items, left_side_items, member_items, maybe_members, export_items, imported_items, name_list_items, maybe_alias, maybe_import_names, import_items, maybe_exports, header_items}
use Rattle.hr_tree.proofs.TypeYields.{ty_apply, ty_tuple}
use Rattle.hr_tree.proofs.PatternYields.{pat_apply, pat_infix, pat_tuple, pat_list}
use Rattle.hr_grammar.specs.Words.{IsOf, IsWord, IsReserved, IsLiteral, IsMinus, IsInteger, IsImportWord, IsLeftParen, IsRightParen, IsLeftSquare, IsRightSquare, IsComma, IsArrow, IsDots}
use Rattle.hr_grammar.specs.Spelled.{IsTypeConstructor, IsVariable, IsNamedVariable, IsConstructor, IsOwnConstructor, IsConstructorOperator, IsOwnConstructorOperator, IsOwnVariableOperator}
use Rattle.hr_grammar.specs.Nodes.{Nodes, TyPlace, PatPlace}
use Rattle.hr_grammar.specs.Types.{TyProduction}
use Rattle.hr_grammar.specs.Patterns.{ArePatOperands, PatProduction}
use Rattle.hr_grammar.specs.Declarations.{IsTypeHead, IsConstructionOver, IsNewConstructionOver, AreArgumentsOver, IsLeftHeadOver, IsClosedOver, IsLeftSideOver}
use Rattle.hr_grammar.specs.Imports.{IsMember, AreTypeMembers, IsNameList, IsTypeName, IsExport, AreExports, IsImported, IsAlias, AreImportNames, IsImport}
use Rattle.hr_grammar.specs.Yields.{nodes, IsHeader}
use Rattle.hr_grammar_cases.specs.Readings.{Reading, maybe}
use Rattle.hr_grammar_cases.specs.Derivations.{Derivations}
use Rattle.hr_grammar_cases.specs.Types.{ty_reading}
use Rattle.hr_grammar_cases.specs.Patterns.{pat_operands, pat_reading}
use Rattle.hr_grammar_cases.specs.Declarations.{type_head_reading, construction_reading, new_construction_reading, arguments_reading, left_head_reading, closed_reading, left_side_reading}
use Rattle.hr_grammar_cases.specs.Imports.{member_reading, members_reading, name_list_reading, export_reading, imported_reading, alias_reading, import_names_reading, import_reading, header_reading}
use Rattle.hr_grammar_cases.specs.Modules.{derivations}
use Rattle.hr_grammar_cases.proofs.Readings.{append_assoc}
use Rattle.hr_grammar_cases.proofs.Taken.{last_operand}
use Rattle.hr_grammar_cases.proofs.Patterns.{no_minus}
use Rattle.hr_grammar_cases_laws.proofs.Retaken.{Retakes, same_retakes, nothing_retakes, then_retakes, given_retakes, one_retakes, spelled_retakes, in_turn_retakes, each_one_retakes, maybe_one_retakes, operator_there_retakes, separated_retakes}

-- the types and patterns of the grammar on the level below are read
pub record AllRetake (below : Derivations) (allowed : Nodes) : Type 0 where
  pub ty : (n : ℕ) (place : TyPlace) (ty : Ty) → allowed.ty place ty → Retakes n (ty_items ty) (below.ty n place ty)
  pub pat : (n : ℕ) (place : PatPlace) (pat : Pat) → allowed.pat place pat → Retakes n (pat_items pat) (below.pat n place pat)

-- ---- types
ty_retakes : (below : Derivations) (allowed : Nodes) → AllRetake below allowed → (n : ℕ) (place : TyPlace) (layer : Ty-F Ty) → TyProduction allowed place layer
    → Retakes n (ty_items (roll-Ty layer)) (ty_reading below n place layer)
ty_retakes below allowed each n place (Ty-F.Variable name) is =
    same_retakes (sym (fold-roll-Ty (List Item) ty_layer (Ty-F.Variable name))) (one_retakes n (IsOf Class.VarId) name is)
ty_retakes below allowed each n place (Ty-F.Constructor named) is =
    same_retakes (sym (fold-roll-Ty (List Item) ty_layer (Ty-F.Constructor named))) (spelled_retakes n IsTypeConstructor constructor_items named is)
ty_retakes below allowed each n place (Ty-F.Apply named arguments) is =
    same_retakes (sym (ap ty_items (rolls-ty-Apply named arguments) ∙ ty_apply named arguments))
    (given_retakes (is.0, is.2)
    (then_retakes (spelled_retakes n IsTypeConstructor constructor_items named is.1) (in_turn_retakes ty_items _ (allowed.ty TyPlace.Atomic) (each.ty n TyPlace.Atomic) arguments is.3)))
ty_retakes below allowed each n place (Ty-F.Function from arrow to) is =
    same_retakes (sym (fold-roll-Ty (List Item) ty_layer (Ty-F.Function from arrow to)))
    (given_retakes is.0 (then_retakes (each.ty n TyPlace.Applied from is.1) (then_retakes (one_retakes n IsArrow arrow is.2) (each.ty n TyPlace.Whole to is.3))))
ty_retakes below allowed each n place (Ty-F.Tuple left parts right) is =
    same_retakes (sym (ap ty_items (rolls-ty-Tuple left parts right) ∙ ty_tuple left parts right))
    (given_retakes is.2
    (then_retakes (one_retakes n IsLeftParen left is.0)
    (then_retakes (separated_retakes n IsComma ty_items _ (allowed.ty TyPlace.Whole) (each.ty n TyPlace.Whole) parts is.1) (one_retakes n IsRightParen right is.3))))
ty_retakes below allowed each n place (Ty-F.List left part right) is =
    same_retakes (sym (fold-roll-Ty (List Item) ty_layer (Ty-F.List left part right)))
    (then_retakes (one_retakes n IsLeftSquare left is.0) (then_retakes (each.ty n TyPlace.Whole part is.1) (one_retakes n IsRightSquare right is.2)))
ty_retakes below allowed each n place (Ty-F.Group left part right) is =
    same_retakes (sym (fold-roll-Ty (List Item) ty_layer (Ty-F.Group left part right)))
    (then_retakes (one_retakes n IsLeftParen left is.0) (then_retakes (each.ty n TyPlace.Whole part is.1) (one_retakes n IsRightParen right is.2)))

-- ---- patterns
operands_retake : (below : Derivations) (allowed : Nodes) → AllRetake below allowed → (n : ℕ) (operands : List (Operand Pat)) → ArePatOperands allowed operands
    → Retakes n (flat_map (operand_items pat_items) operands) (pat_operands below n operands)
operands_retake below allowed each n [] are = elim are [ ]
operands_retake below allowed each n (operand ∷ []) are =
    same_retakes (last_operand pat_items operand are.2 ∙ ap (λ l. l ++ []) (no_minus (pat_items operand.part ++ maybe_operator operand.operator) operand are.0))
    (given_retakes (are.0, are.2) (each.pat n PatPlace.Operand operand.part are.1))
operands_retake below allowed each n (operand ∷ (next ∷ rest)) are =
    same_retakes (sym (append_assoc (pat_items operand.part) (maybe_operator operand.operator) (flat_map (operand_items pat_items) (next ∷ rest)))
    ∙ ap (λ l. l ++ flat_map (operand_items pat_items) (next ∷ rest)) (no_minus (pat_items operand.part ++ maybe_operator operand.operator) operand are.0))
    (given_retakes are.0
    (then_retakes (each.pat n PatPlace.Operand operand.part are.1)
    (then_retakes (operator_there_retakes n IsConstructorOperator operand.operator are.2) (operands_retake below allowed each n (next ∷ rest) are.3))))

pat_retakes : (below : Derivations) (allowed : Nodes) → AllRetake below allowed → (n : ℕ) (place : PatPlace) (layer : Pat-F Pat) → PatProduction allowed place layer
    → Retakes n (pat_items (roll-Pat layer)) (pat_reading below n place layer)
pat_retakes below allowed each n place (Pat-F.Variable bound) is =
    same_retakes (sym (fold-roll-Pat (List Item) pat_layer (Pat-F.Variable bound))) (spelled_retakes n IsVariable variable_items bound is)
pat_retakes below allowed each n place (Pat-F.Wildcard word) is =
    same_retakes (sym (fold-roll-Pat (List Item) pat_layer (Pat-F.Wildcard word))) (one_retakes n (IsWord (codes "_")) word is)
pat_retakes below allowed each n place (Pat-F.Literal literal) is =
    same_retakes (sym (fold-roll-Pat (List Item) pat_layer (Pat-F.Literal literal))) (one_retakes n IsLiteral literal is)
pat_retakes below allowed each n place (Pat-F.Negative minus number) is =
    same_retakes (sym (fold-roll-Pat (List Item) pat_layer (Pat-F.Negative minus number)))
    (given_retakes is.0 (then_retakes (one_retakes n IsMinus minus is.1) (one_retakes n IsInteger number is.2)))
pat_retakes below allowed each n place (Pat-F.Constructor named) is =
    same_retakes (sym (fold-roll-Pat (List Item) pat_layer (Pat-F.Constructor named))) (spelled_retakes n IsConstructor constructor_items named is)
pat_retakes below allowed each n place (Pat-F.As bound mark part) is =
    same_retakes (sym (fold-roll-Pat (List Item) pat_layer (Pat-F.As bound mark part)))
    (then_retakes (spelled_retakes n IsVariable variable_items bound is.0) (then_retakes (one_retakes n (IsReserved (codes "@")) mark is.1) (each.pat n PatPlace.Atomic part is.2)))
pat_retakes below allowed each n place (Pat-F.Lazy mark part) is =
    same_retakes (sym (fold-roll-Pat (List Item) pat_layer (Pat-F.Lazy mark part)))
    (then_retakes (one_retakes n (IsReserved (codes "~")) mark is.0) (each.pat n PatPlace.Atomic part is.1))
pat_retakes below allowed each n place (Pat-F.Apply named arguments) is =
    same_retakes (sym (ap pat_items (rolls-Apply named arguments) ∙ pat_apply named arguments))
    (given_retakes (is.0, is.2)
    (then_retakes (spelled_retakes n IsConstructor constructor_items named is.1) (in_turn_retakes pat_items _ (allowed.pat PatPlace.Atomic) (each.pat n PatPlace.Atomic) arguments is.3)))
pat_retakes below allowed each n place (Pat-F.Infix operands) is =
    same_retakes (sym (ap pat_items (rolls-Infix operands) ∙ pat_infix operands)) (given_retakes (is.0, is.1) (operands_retake below allowed each n operands is.2))
pat_retakes below allowed each n place (Pat-F.Tuple left parts right) is =
    same_retakes (sym (ap pat_items (rolls-Tuple left parts right) ∙ pat_tuple left parts right))
    (given_retakes is.2
    (then_retakes (one_retakes n IsLeftParen left is.0)
    (then_retakes (separated_retakes n IsComma pat_items _ (allowed.pat PatPlace.Whole) (each.pat n PatPlace.Whole) parts is.1) (one_retakes n IsRightParen right is.3))))
pat_retakes below allowed each n place (Pat-F.List left parts right) is =
    same_retakes (sym (ap pat_items (rolls-List left parts right) ∙ pat_list left parts right))
    (given_retakes is.2
    (then_retakes (one_retakes n IsLeftSquare left is.0)
    (then_retakes (separated_retakes n IsComma pat_items _ (allowed.pat PatPlace.Whole) (each.pat n PatPlace.Whole) parts is.1) (one_retakes n IsRightSquare right is.3))))
pat_retakes below allowed each n place (Pat-F.Group left part right) is =
    same_retakes (sym (fold-roll-Pat (List Item) pat_layer (Pat-F.Group left part right)))
    (then_retakes (one_retakes n IsLeftParen left is.0) (then_retakes (each.pat n PatPlace.Whole part is.1) (one_retakes n IsRightParen right is.2)))
pat_retakes below allowed each n place (Pat-F.Fields named left fields right) is = elim is [ ]

pub levels_retake : (levels : ℕ) → AllRetake (derivations levels) (nodes levels)
levels_retake zero = record { ty = λ n place ty is. elim is [ ]; pat = λ n place pat is. elim is [ ] }
levels_retake (suc levels) = record {
  ty = λ n place ty is. same_retakes (ap ty_items (roll-out-Ty ty)) (ty_retakes (derivations levels) (nodes levels) (levels_retake levels) n place (out-Ty ty) is);
  pat = λ n place pat is. same_retakes (ap pat_items (roll-out-Pat pat)) (pat_retakes (derivations levels) (nodes levels) (levels_retake levels) n place (out-Pat pat) is);
}

-- ---- heads
pub type_head_retakes : (n : ℕ) (head : TypeHead) → IsTypeHead head → Retakes n (type_head_items head) (type_head_reading n head)
type_head_retakes n head is = then_retakes (one_retakes n (IsOf Class.ConId) head.name is.0) (each_one_retakes n (IsOf Class.VarId) head.variables is.1)

pub construction_retakes : (below : Derivations) (allowed : Nodes) → AllRetake below allowed → (n : ℕ) (construction : Construction) → IsConstructionOver allowed construction
    → Retakes n (construction_items construction) (construction_reading below n construction)
construction_retakes below allowed each n (Construction.Prefix constructor types) is =
    then_retakes (spelled_retakes n IsOwnConstructor constructor_items constructor is.0) (in_turn_retakes ty_items _ (allowed.ty TyPlace.Atomic) (each.ty n TyPlace.Atomic) types is.1)
construction_retakes below allowed each n (Construction.Infix first operator second) is =
    then_retakes (each.ty n TyPlace.Applied first is.0)
    (then_retakes (spelled_retakes n IsOwnConstructorOperator operator_items operator is.1.0) (each.ty n TyPlace.Applied second is.1.1))
construction_retakes below allowed each n (Construction.Fields constructor left fields right) is = elim is [ ]

pub new_construction_retakes : (below : Derivations) (allowed : Nodes) → AllRetake below allowed → (n : ℕ) (construction : Construction) → IsNewConstructionOver allowed construction
    → Retakes n (construction_items construction) (new_construction_reading below n construction)
new_construction_retakes below allowed each n (Construction.Prefix constructor []) is = elim is [ ]
new_construction_retakes below allowed each n (Construction.Prefix constructor (ty ∷ [])) is =
    construction_retakes below allowed each n (Construction.Prefix constructor (ty ∷ [])) (is.0, (is.1, tt))
new_construction_retakes below allowed each n (Construction.Prefix constructor (ty ∷ (next ∷ rest))) is = elim is [ ]
new_construction_retakes below allowed each n (Construction.Infix first operator second) is = elim is [ ]
new_construction_retakes below allowed each n (Construction.Fields constructor left fields right) is = elim is [ ]

arguments_retake : (below : Derivations) (allowed : Nodes) → AllRetake below allowed → (n : ℕ) (patterns : List Pat) → AreArgumentsOver allowed patterns
    → Retakes n (flat_map pat_items patterns) (arguments_reading below n patterns)
arguments_retake below allowed each n patterns are = given_retakes are.0 (in_turn_retakes pat_items _ (allowed.pat PatPlace.Atomic) (each.pat n PatPlace.Atomic) patterns are.1)

left_head_retakes : (below : Derivations) (allowed : Nodes) → AllRetake below allowed → (n : ℕ) (head : LeftHead) → IsLeftHeadOver allowed head
    → Retakes n (left_head_items head) (left_head_reading below n head)
left_head_retakes below allowed each n (LeftHead.Prefix variable patterns) is =
    then_retakes (spelled_retakes n IsVariable variable_items variable is.0) (arguments_retake below allowed each n patterns is.1)
left_head_retakes below allowed each n (LeftHead.Infix first operator second) is =
    then_retakes (each.pat n PatPlace.Whole first is.0)
    (then_retakes (spelled_retakes n IsOwnVariableOperator operator_items operator is.1.0) (each.pat n PatPlace.Whole second is.1.1))

closed_retakes : (below : Derivations) (allowed : Nodes) → AllRetake below allowed → (n : ℕ) (closed : Closed) → IsClosedOver allowed closed → Retakes n (closed_items closed) (closed_reading below n closed)
closed_retakes below allowed each n closed is = then_retakes (one_retakes n IsRightParen closed.right is.0) (arguments_retake below allowed each n closed.patterns is.1)

pub left_side_retakes : (below : Derivations) (allowed : Nodes) → AllRetake below allowed → (n : ℕ) (left : LeftSide) → IsLeftSideOver allowed left
    → Retakes n (left_side_items left) (left_side_reading below n left)
left_side_retakes below allowed each n left is =
    given_retakes is.1.1.1
    (then_retakes (each_one_retakes n IsLeftParen left.opens is.0)
    (then_retakes (left_head_retakes below allowed each n left.head is.1.0)
    (in_turn_retakes closed_items (closed_reading below n) (IsClosedOver allowed) (closed_retakes below allowed each n) left.closes is.1.1.0)))

-- ---- imports and headers
member_retakes : (n : ℕ) (member : Member) → IsMember member → Retakes n (member_items member) (member_reading n member)
member_retakes n (Member.Constructor constructor) is = spelled_retakes n IsOwnConstructor constructor_items constructor is
member_retakes n (Member.Field variable) is = elim is [ ]

members_retake : (n : ℕ) (members : Option Members) → AreTypeMembers members → Retakes n (maybe_members members) (maybe (members_reading n) members)
members_retake n None are = nothing_retakes
members_retake n (Some (Members.All left dots right)) are =
    then_retakes (one_retakes n IsLeftParen left are.0) (then_retakes (one_retakes n IsDots dots are.1.0) (one_retakes n IsRightParen right are.1.1))
members_retake n (Some (Members.Named left list right)) are =
    then_retakes (one_retakes n IsLeftParen left are.0)
    (then_retakes (separated_retakes n IsComma member_items _ IsMember (member_retakes n) list are.1.0) (one_retakes n IsRightParen right are.1.1))

name_list_retakes : {T : Type 0} (n : ℕ) (items_of : T → List Item) (of : T → Reading) (Is : T → Type 0) → ((x : T) → Is x → Retakes n (items_of x) (of x))
    → (names : NameList T) → IsNameList Is names → Retakes n (name_list_items items_of names) (name_list_reading n of names)
name_list_retakes n items_of of Is each names is =
    then_retakes (one_retakes n IsLeftParen names.left is.0)
    (then_retakes (separated_retakes n IsComma items_of of Is each names.list is.1.0)
    (then_retakes (maybe_one_retakes n IsComma names.last_comma is.1.1.0) (one_retakes n IsRightParen names.right is.1.1.1)))

export_retakes : (n : ℕ) (export : Export) → IsExport export → Retakes n (export_items export) (export_reading n export)
export_retakes n (Export.Variable variable) is = spelled_retakes n IsNamedVariable variable_items variable is
export_retakes n (Export.Type name members) is = then_retakes (one_retakes n IsTypeName name is.0) (members_retake n members is.1)
export_retakes n (Export.Module word name) is = then_retakes (one_retakes n (IsWord (codes "module")) word is.0) (one_retakes n (IsOf Class.ConId) name is.1)

imported_retakes : (n : ℕ) (imported : Imported) → IsImported imported → Retakes n (imported_items imported) (imported_reading n imported)
imported_retakes n (Imported.Variable variable) is = spelled_retakes n IsVariable variable_items variable is
imported_retakes n (Imported.Type name members) is = then_retakes (one_retakes n (IsOf Class.ConId) name is.0) (members_retake n members is.1)

alias_retakes : (n : ℕ) (alias : Option Alias) → IsAlias alias → Retakes n (maybe_alias alias) (maybe (alias_reading n) alias)
alias_retakes n None is = nothing_retakes
alias_retakes n (Some alias) is = then_retakes (one_retakes n (IsImportWord (codes "as")) alias.word is.0) (one_retakes n (IsOf Class.ConId) alias.name is.1)

import_names_retake : (n : ℕ) (names : Option ImportNames) → AreImportNames names → Retakes n (maybe_import_names names) (maybe (import_names_reading n) names)
import_names_retake n None are = nothing_retakes
import_names_retake n (Some names) are =
    then_retakes (maybe_one_retakes n (IsImportWord (codes "hiding")) names.hiding are.0)
    (name_list_retakes n imported_items (imported_reading n) IsImported (imported_retakes n) names.list are.1)

pub import_retakes : (n : ℕ) (import : Import) → IsImport import → Retakes n (import_items import) (import_reading n import)
import_retakes n import is =
    then_retakes (one_retakes n (IsWord (codes "import")) import.word is.0)
    (then_retakes (maybe_one_retakes n (IsImportWord (codes "qualified")) import.qualified is.1.0)
    (then_retakes (one_retakes n (IsOf Class.ConId) import.«module» is.1.1.0) (then_retakes (alias_retakes n import.alias is.1.1.1.0) (import_names_retake n import.names is.1.1.1.1))))

exports_retake : (exports : Option (NameList Export)) → AreExports exports → Retakes 0 (maybe_exports exports) (maybe (name_list_reading 0 (export_reading 0)) exports)
exports_retake None are = nothing_retakes
exports_retake (Some names) are = name_list_retakes 0 export_items (export_reading 0) IsExport (export_retakes 0) names are

pub header_retakes : (header : Option Header) → IsHeader header → Retakes 0 (header_items header) (maybe header_reading header)
header_retakes None is = nothing_retakes
header_retakes (Some header) is =
    then_retakes (one_retakes 0 (IsWord (codes "module")) header.word is.0)
    (then_retakes (one_retakes 0 (IsOf Class.ConId) header.name is.1.0) (then_retakes (exports_retake header.exports is.1.1.0) (one_retakes 0 (IsWord (codes "where")) header.opening is.1.1.1)))
