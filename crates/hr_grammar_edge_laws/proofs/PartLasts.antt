-- Which lexemes expressions, declarations and alternatives end with.
use Rattle.std.proofs.Common.{◌≡◌, ℕ, zero, suc, ◌||◌, Bool, true, false, List, [], ◌∷◌, ◌++◌, Option, Some, None, refl, sym, subst, inl, inr}
use Rattle.std.specs.List.{flat_map}
use lib.Chars.{codes}
use Rattle.hr_base.specs.declared.lexeme.Class.{Class}
use Rattle.hr_base.specs.declared.lexeme.Item.{Item}
use Rattle.hr_rules.specs.Names.{is_spelled}
use Rattle.hr_tree.specs.declared.names.Variable.{Variable as Named}
use Rattle.hr_tree.specs.declared.names.Constructor.{Constructor as Built}
use Rattle.hr_tree.specs.declared.names.Operator.{Operator}
use Rattle.hr_tree.specs.declared.types.Ty.{Ty}
use Rattle.hr_tree.specs.declared.lists.Operand.{Operand}
use Rattle.hr_tree.specs.declared.lists.Block.{Block}
use Rattle.hr_tree.specs.declared.declarations.Construction.{Construction}
use Rattle.hr_tree.specs.declared.declarations.Body.{Body}
use Rattle.hr_tree.specs.declared.declarations.Guarded.{Guarded}
use Rattle.hr_tree.specs.declared.declarations.Where.{Where}
use Rattle.hr_tree.specs.declared.expressions.Exp.{Exp, out-Exp}
use Rattle.hr_tree.specs.declared.expressions.Decl.{Decl, out-Decl}
use Rattle.hr_tree.specs.declared.expressions.Alt.{Alt, out-Alt}
use Rattle.hr_tree.specs.declared.expressions.Qualifier.{Qualifier}
use Rattle.hr_tree.specs.declared.expressions.Decl.TheOpen.{Exp-F, Decl-F}
use Rattle.hr_tree.specs.declared.modules.NameList.{NameList}
use Rattle.hr_tree.specs.declared.modules.Import.{Import}
use Rattle.hr_tree.specs.declared.modules.Alias.{Alias}
use Rattle.hr_tree.specs.declared.modules.ImportNames.{ImportNames}
use Rattle.hr_tree.specs.Names.{constructor_items, variable_items, operator_items, maybe_item}
use Rattle.hr_tree.specs.Lists.{listed_items, operand_items, block_items, guarded_items, body_items, where_items}
use Rattle.hr_tree.specs.Yields.{ty_items, pat_items, type_head_items, construction_items, left_side_items, imported_items, name_list_items, maybe_alias, maybe_import_names, import_items, exp_items, decl_items, qualifier_items, alt_items}
use Rattle.hr_grammar.specs.Words.{IsOf, IsBar, IsComma, IsEquals, IsArrow}
use Rattle.hr_grammar.specs.Spelled.{IsNamedVariable, IsOwnConstructor, IsOwnOperator}
use Rattle.hr_grammar.specs.Nodes.{Colons, TyPlace, ExpPlace, DeclPlace}
use Rattle.hr_grammar.specs.Expressions.{ExpProduction, AreExpOperands, last_operand, takes_operand, takes_open, takes_infix, takes_annotation}
use Rattle.hr_grammar.specs.Declarations.{DeclProduction, IsAltOver, IsConstructionOver, IsNewConstructionOver, IsGuardedOver, IsBodyOver, IsWhereOver, takes_import, takes_top, takes_local}
use Rattle.hr_grammar.specs.Imports.{IsNameList, IsImported, IsAlias, AreImportNames, IsImport}
use Rattle.hr_grammar.specs.Yields.{nodes}
use Rattle.hr_grammar.specs.Joins.{exp_joined, decl_joined}
use Rattle.hr_grammar.proofs.Joins.{yields_join_lem}
use Rattle.hr_grammar_edge_laws.specs.Lasts.{LastPasses, ends_type, ends_atom, ends_part, ends_expression, ends_import, ends_declaration, ExpressionsEnd, DeclarationsEnd, AlternativesEnd}
use Rattle.hr_grammar_edge_laws.proofs.Lasts.{Closes, class_ends, text_ends, ends_behind, ends_after, ends_before_nothing, ends_with, weaker, all_end, separated_end, last_operand_ends, block_ends, right_paren, right_square, constructor_ends, literal_ends, types_end_lem}

atoms_close : Closes ends_atom
atoms_close = record { paren = refl; square = refl; variables = λ text. refl; constructors = λ text. refl; qualified = λ text. refl }

-- what ends a type or an atom ends a part
more_words : (a b c : Bool) → (a || (b || false)) ≡ true → (a || (b || c)) ≡ true
more_words true b c e = refl
more_words false true c e = refl
more_words false false c e = let no : ⊥ = cc in elim no [ ]

brackets_last : (text : List ℕ) → (is_spelled (codes ")") text || (is_spelled (codes "]") text || false)) ≡ true → ends_part Class.Special text ≡ true
brackets_last text e = more_words (is_spelled (codes ")") text) (is_spelled (codes "]") text) _ e

atom_part : (class : Class) (text : List ℕ) → ends_atom class text ≡ true → ends_part class text ≡ true
atom_part Class.VarSym text e = refl
atom_part Class.ConSym text e = refl
atom_part Class.ReservedId text e = let no : ⊥ = cc in elim no [ ]
atom_part Class.Special text e = brackets_last text e
atom_part _ text e = e

type_part : (class : Class) (text : List ℕ) → ends_type class text ≡ true → ends_part class text ≡ true
type_part Class.VarId text e = refl
type_part Class.ConId text e = refl
type_part Class.QConId text e = refl
type_part Class.Special text e = brackets_last text e
type_part _ text e = let no : ⊥ = cc in elim no [ ]

types_last : (levels : ℕ) (place : TyPlace) (ty : Ty) → (nodes levels).ty place ty → LastPasses ends_part (ty_items ty)
types_last levels place ty is = weaker ends_type ends_part type_part (ty_items ty) (types_end_lem levels place ty is)

-- at a place of expressions: an atom may stand everywhere, and what is no atom not at the place of an atom
atom_at : (place : ExpPlace) (items : List Item) → LastPasses ends_atom items → LastPasses (ends_expression place) items
atom_at ExpPlace.Atom items e = e
atom_at _ items e = weaker ends_atom ends_part atom_part items e

part_at : (takes : ExpPlace → Bool) → takes ExpPlace.Atom ≡ false → (place : ExpPlace) (items : List Item) → takes place ≡ true → LastPasses ends_part items → LastPasses (ends_expression place) items
part_at takes none ExpPlace.Atom items t e = let no : ⊥ = cc in elim no [ ]
part_at takes none _ items t e = e

any_part : (place : ExpPlace) (items : List Item) → LastPasses (ends_expression place) items → LastPasses ends_part items
any_part ExpPlace.Atom items e = weaker ends_atom ends_part atom_part items e
any_part _ items e = e

named_variable_ends : (named : Named) → IsNamedVariable named → LastPasses ends_atom (variable_items named)
named_variable_ends (Named.Name name) (inl is) = class_ends ends_atom Class.VarId name is refl
named_variable_ends (Named.Name name) (inr is) = class_ends ends_atom Class.QVarId name is refl
named_variable_ends (Named.Symbol left symbol right) is = right_paren ends_atom atoms_close (left ∷ symbol ∷ []) right is.1.1

-- all that stands on a level. A block ends with the word before it, if it has no lexeme
record Below (levels : ℕ) : Type 0 where
  exp : (free : Colons) (place : ExpPlace) (part : Exp) → (nodes levels).exp free place part → LastPasses (ends_expression place) (exp_items part)
  decl : (place : DeclPlace) (part : Decl) → (nodes levels).decl place part → LastPasses (ends_declaration place) (decl_items part)
  alt : (part : Alt) → (nodes levels).alt part → LastPasses ends_part (alt_items part)
  locals : (word : Item) → ends_part word.lexeme.class word.lexeme.text ≡ true → (block : Block Decl) → (nodes levels).declarations DeclPlace.Local block → LastPasses ends_part (word ∷ block_items decl_items block)
  alternatives : (word : Item) → ends_part word.lexeme.class word.lexeme.text ≡ true → (block : Block Alt) → (nodes levels).alternatives block → LastPasses ends_part (word ∷ block_items alt_items block)

exp_part : (levels : ℕ) → Below levels → (free : Colons) (place : ExpPlace) (part : Exp) → (nodes levels).exp free place part → LastPasses ends_part (exp_items part)
exp_part levels below free place part is = any_part place (exp_items part) (below.exp free place part is)

operands : (levels : ℕ) → Below levels → (free : Colons) (last : ExpPlace) (list : List (Operand Exp)) → AreExpOperands (nodes levels) free last list → LastPasses ends_part (flat_map (operand_items exp_items) list)
operands levels below free last [] is = elim is [ ]
operands levels below free last (operand ∷ []) is =
    ends_before_nothing ends_part (operand_items exp_items operand) (last_operand_ends ends_part exp_items operand is.2 (exp_part levels below free last operand.part is.1))
operands levels below free last (operand ∷ (next ∷ rest)) is =
    ends_after ends_part (operand_items exp_items operand) (flat_map (operand_items exp_items) (next ∷ rest)) (operands levels below free last (next ∷ rest) is.3)

exp_level : (levels : ℕ) → Below levels → (free : Colons) (place : ExpPlace) (layer : Exp-F Decl Exp Qualifier Alt) → ExpProduction (nodes levels) free place layer → LastPasses (ends_expression place) (exp_joined layer)
exp_level levels below free place (Exp-F.Variable named) is = atom_at place (variable_items named) (named_variable_ends named is)
exp_level levels below free place (Exp-F.Constructor named) is = atom_at place (constructor_items named) (constructor_ends ends_atom atoms_close named is)
exp_level levels below free place (Exp-F.Literal item) is = atom_at place (item ∷ []) (literal_ends ends_atom (λ text. (refl, refl, refl)) item is)
exp_level levels below free place (Exp-F.Group left part right) is =
    atom_at place ((left ∷ exp_items part) ++ right ∷ []) (right_paren ends_atom atoms_close (left ∷ exp_items part) right is.2)
exp_level levels below free place (Exp-F.Tuple left parts right) is =
    atom_at place ((left ∷ flat_map (listed_items exp_items) parts) ++ right ∷ []) (right_paren ends_atom atoms_close (left ∷ flat_map (listed_items exp_items) parts) right is.3)
exp_level levels below free place (Exp-F.List left parts right) is =
    atom_at place ((left ∷ flat_map (listed_items exp_items) parts) ++ right ∷ []) (right_square ends_atom atoms_close (left ∷ flat_map (listed_items exp_items) parts) right is.3)
exp_level levels below free place (Exp-F.From left first dots right) is =
    atom_at place (left ∷ (exp_items first ++ (dots ∷ (right ∷ [])))) (ends_behind ends_atom left (exp_items first ++ (dots ∷ (right ∷ []))) (ends_after ends_atom (exp_items first) (dots ∷ (right ∷ [])) (ends_behind ends_atom dots (right ∷ []) (text_ends ends_atom Class.Special (codes "]") right is.3 refl))))
exp_level levels below free place (Exp-F.FromThen left first comma second dots right) is =
    atom_at place (left ∷ (exp_items first ++ (comma ∷ (exp_items second ++ (dots ∷ (right ∷ [])))))) (ends_behind ends_atom left (exp_items first ++ (comma ∷ (exp_items second ++ (dots ∷ (right ∷ []))))) (ends_after ends_atom (exp_items first) (comma ∷ (exp_items second ++ (dots ∷ (right ∷ [])))) (ends_behind ends_atom comma (exp_items second ++ (dots ∷ (right ∷ []))) (ends_after ends_atom (exp_items second) (dots ∷ (right ∷ [])) (ends_behind ends_atom dots (right ∷ []) (text_ends ends_atom Class.Special (codes "]") right is.5 refl))))))
exp_level levels below free place (Exp-F.FromTo left first dots last right) is =
    atom_at place (left ∷ (exp_items first ++ (dots ∷ (exp_items last ++ (right ∷ []))))) (ends_behind ends_atom left (exp_items first ++ (dots ∷ (exp_items last ++ (right ∷ [])))) (ends_after ends_atom (exp_items first) (dots ∷ (exp_items last ++ (right ∷ []))) (ends_behind ends_atom dots (exp_items last ++ (right ∷ [])) (ends_after ends_atom (exp_items last) (right ∷ []) (text_ends ends_atom Class.Special (codes "]") right is.4 refl)))))
exp_level levels below free place (Exp-F.FromThenTo left first comma second dots last right) is =
    atom_at place (left ∷ (exp_items first ++ (comma ∷ (exp_items second ++ (dots ∷ (exp_items last ++ (right ∷ []))))))) (ends_behind ends_atom left (exp_items first ++ (comma ∷ (exp_items second ++ (dots ∷ (exp_items last ++ (right ∷ [])))))) (ends_after ends_atom (exp_items first) (comma ∷ (exp_items second ++ (dots ∷ (exp_items last ++ (right ∷ []))))) (ends_behind ends_atom comma (exp_items second ++ (dots ∷ (exp_items last ++ (right ∷ [])))) (ends_after ends_atom (exp_items second) (dots ∷ (exp_items last ++ (right ∷ []))) (ends_behind ends_atom dots (exp_items last ++ (right ∷ [])) (ends_after ends_atom (exp_items last) (right ∷ []) (text_ends ends_atom Class.Special (codes "]") right is.6 refl)))))))
exp_level levels below free place (Exp-F.Comprehension left part bar qualifiers right) is =
    atom_at place (left ∷ (exp_items part ++ (bar ∷ (flat_map (listed_items qualifier_items) qualifiers ++ (right ∷ []))))) (ends_behind ends_atom left (exp_items part ++ (bar ∷ (flat_map (listed_items qualifier_items) qualifiers ++ (right ∷ [])))) (ends_after ends_atom (exp_items part) (bar ∷ (flat_map (listed_items qualifier_items) qualifiers ++ (right ∷ []))) (ends_behind ends_atom bar (flat_map (listed_items qualifier_items) qualifiers ++ (right ∷ [])) (ends_after ends_atom (flat_map (listed_items qualifier_items) qualifiers) (right ∷ []) (text_ends ends_atom Class.Special (codes "]") right is.5 refl)))))
exp_level levels below free place (Exp-F.LeftSection left part sign right) is =
    atom_at place (left ∷ (exp_items part ++ (operator_items sign ++ (right ∷ [])))) (ends_behind ends_atom left (exp_items part ++ (operator_items sign ++ (right ∷ []))) (ends_after ends_atom (exp_items part) (operator_items sign ++ (right ∷ [])) (ends_after ends_atom (operator_items sign) (right ∷ []) (text_ends ends_atom Class.Special (codes ")") right is.3 refl))))
exp_level levels below free place (Exp-F.RightSection left sign part right) is =
    atom_at place (left ∷ (operator_items sign ++ (exp_items part ++ (right ∷ [])))) (ends_behind ends_atom left (operator_items sign ++ (exp_items part ++ (right ∷ []))) (ends_after ends_atom (operator_items sign) (exp_items part ++ (right ∷ [])) (ends_after ends_atom (exp_items part) (right ∷ []) (text_ends ends_atom Class.Special (codes ")") right is.4 refl))))
exp_level levels below free place (Exp-F.Apply []) is = elim is.1 [ ]
exp_level levels below free place (Exp-F.Apply (atom ∷ atoms)) is =
    part_at takes_operand refl place (flat_map exp_items (atom ∷ atoms)) is.0
    (weaker ends_atom ends_part atom_part (flat_map exp_items (atom ∷ atoms)) (all_end ends_atom exp_items ((nodes levels).exp free ExpPlace.Atom) (below.exp free ExpPlace.Atom) (atom ∷ atoms) (λ e. let no : ⊥ = cc in no) is.2))
exp_level levels below free place (Exp-F.Case word part of_word block) is =
    part_at takes_operand refl place (word ∷ (exp_items part ++ (of_word ∷ block_items alt_items block))) is.0 (ends_behind ends_part word (exp_items part ++ (of_word ∷ block_items alt_items block)) (ends_after ends_part (exp_items part) (of_word ∷ block_items alt_items block) (below.alternatives of_word (text_ends ends_part Class.ReservedId (codes "of") of_word is.3 refl) block is.4)))
exp_level levels below free place (Exp-F.Lambda mark patterns arrow body) is =
    part_at takes_open refl place (mark ∷ (flat_map pat_items patterns ++ (arrow ∷ (exp_items body)))) is.0 (ends_behind ends_part mark (flat_map pat_items patterns ++ (arrow ∷ (exp_items body))) (ends_after ends_part (flat_map pat_items patterns) (arrow ∷ (exp_items body)) (ends_behind ends_part arrow (exp_items body) (exp_part levels below free ExpPlace.Whole body is.5))))
exp_level levels below free place (Exp-F.Let word block in_word body) is =
    part_at takes_open refl place (word ∷ (block_items decl_items block ++ (in_word ∷ (exp_items body)))) is.0 (ends_behind ends_part word (block_items decl_items block ++ (in_word ∷ (exp_items body))) (ends_after ends_part (block_items decl_items block) (in_word ∷ (exp_items body)) (ends_behind ends_part in_word (exp_items body) (exp_part levels below free ExpPlace.Whole body is.4))))
exp_level levels below free place (Exp-F.If word test then_word first else_word second) is =
    part_at takes_open refl place (word ∷ (exp_items test ++ (then_word ∷ (exp_items first ++ (else_word ∷ (exp_items second)))))) is.0 (ends_behind ends_part word (exp_items test ++ (then_word ∷ (exp_items first ++ (else_word ∷ (exp_items second))))) (ends_after ends_part (exp_items test) (then_word ∷ (exp_items first ++ (else_word ∷ (exp_items second)))) (ends_behind ends_part then_word (exp_items first ++ (else_word ∷ (exp_items second))) (ends_after ends_part (exp_items first) (else_word ∷ (exp_items second)) (ends_behind ends_part else_word (exp_items second) (exp_part levels below free ExpPlace.Whole second is.6))))))
exp_level levels below free place (Exp-F.Infix list) is =
    part_at takes_infix refl place (flat_map (operand_items exp_items) list) is.0 (operands levels below free (last_operand place) list is.2)
exp_level levels below free place (Exp-F.Annotated part colons ty) is =
    part_at takes_annotation refl place (exp_items part ++ (colons ∷ (ty_items ty))) is.0 (ends_after ends_part (exp_items part) (colons ∷ (ty_items ty)) (ends_behind ends_part colons (ty_items ty) (types_last levels TyPlace.Whole ty is.4)))
exp_level levels below free place (Exp-F.Fields part left fields right) is = elim is [ ]

-- right sides
guarded_ends : (levels : ℕ) → Below levels → (IsMark : Item → Type 0) → (guarded : Guarded Exp) → IsGuardedOver (nodes levels) IsMark guarded → LastPasses ends_part (guarded_items exp_items guarded)
guarded_ends levels below IsMark guarded is =
    ends_behind ends_part guarded.bar (exp_items guarded.guard ++ guarded.mark ∷ exp_items guarded.body) (ends_after ends_part (exp_items guarded.guard) (guarded.mark ∷ exp_items guarded.body)
    (ends_behind ends_part guarded.mark (exp_items guarded.body) (exp_part levels below Colons.Allowed ExpPlace.Whole guarded.body is.1.1.1)))

body_ends : (levels : ℕ) → Below levels → (IsMark : Item → Type 0) → (body : Body Exp) → IsBodyOver (nodes levels) IsMark body → LastPasses ends_part (body_items exp_items body)
body_ends levels below IsMark (Body.Plain mark body) is = ends_behind ends_part mark (exp_items body) (exp_part levels below Colons.Allowed ExpPlace.Whole body is.1)
body_ends levels below IsMark (Body.Guarded list) is = all_end ends_part (guarded_items exp_items) (IsGuardedOver (nodes levels) IsMark) (guarded_ends levels below IsMark) list is.0 is.1

right_side_ends : (levels : ℕ) → Below levels → (IsMark : Item → Type 0) → (body : Body Exp) → IsBodyOver (nodes levels) IsMark body → (locals : Option (Where Decl)) → IsWhereOver (nodes levels) locals
    → LastPasses ends_part (body_items exp_items body ++ where_items decl_items locals)
right_side_ends levels below IsMark body is None w = ends_before_nothing ends_part (body_items exp_items body) (body_ends levels below IsMark body is)
right_side_ends levels below IsMark body is (Some locals) w =
    ends_after ends_part (body_items exp_items body) (locals.word ∷ block_items decl_items locals.block)
    (below.locals locals.word (text_ends ends_part Class.ReservedId (codes "where") locals.word w.0 refl) locals.block w.1)

-- declarations
own_constructor_ends : (named : Built) → IsOwnConstructor named → LastPasses ends_part (constructor_items named)
own_constructor_ends (Built.Name name) is = class_ends ends_part Class.ConId name is refl
own_constructor_ends (Built.Symbol left symbol right) is = ends_with ends_part (left ∷ symbol ∷ []) right (text_ends ends_part Class.Special (codes ")") right is.1.1 refl)
own_constructor_ends (Built.Unit left right) is = elim is [ ]
own_constructor_ends (Built.EmptyList left right) is = elim is [ ]
own_constructor_ends (Built.Tuple left commas right) is = elim is [ ]

construction_ends : (levels : ℕ) (construction : Construction) → IsConstructionOver (nodes levels) construction → LastPasses ends_part (construction_items construction)
construction_ends levels (Construction.Prefix named []) is = ends_before_nothing ends_part (constructor_items named) (own_constructor_ends named is.0)
construction_ends levels (Construction.Prefix named (ty ∷ types)) is =
    ends_after ends_part (constructor_items named) (flat_map ty_items (ty ∷ types)) (all_end ends_part ty_items ((nodes levels).ty TyPlace.Atomic) (types_last levels TyPlace.Atomic) (ty ∷ types) (λ e. let no : ⊥ = cc in no) is.1)
construction_ends levels (Construction.Infix first sign second) is =
    ends_after ends_part (ty_items first) (operator_items sign ++ ty_items second) (ends_after ends_part (operator_items sign) (ty_items second) (types_last levels TyPlace.Applied second is.1.1))
construction_ends levels (Construction.Fields named left fields right) is = elim is [ ]

new_construction_ends : (levels : ℕ) (construction : Construction) → IsNewConstructionOver (nodes levels) construction → LastPasses ends_part (construction_items construction)
new_construction_ends levels (Construction.Prefix named []) is = elim is [ ]
new_construction_ends levels (Construction.Prefix named (ty ∷ [])) is =
    ends_after ends_part (constructor_items named) (ty_items ty ++ []) (ends_before_nothing ends_part (ty_items ty) (types_last levels TyPlace.Atomic ty is.1))
new_construction_ends levels (Construction.Prefix named (ty ∷ (next ∷ types))) is = elim is [ ]
new_construction_ends levels (Construction.Infix first sign second) is = elim is [ ]
new_construction_ends levels (Construction.Fields named left fields right) is = elim is [ ]

own_operator_ends : (sign : Operator) → IsOwnOperator sign → LastPasses ends_part (operator_items sign)
own_operator_ends (Operator.Symbol sign) (inl is) = class_ends ends_part Class.VarSym sign is refl
own_operator_ends (Operator.Symbol sign) (inr is) = class_ends ends_part Class.ConSym sign is refl
own_operator_ends (Operator.Quoted left name right) (inl is) = text_ends ends_part Class.Special (codes "`") right is.1.1 refl
own_operator_ends (Operator.Quoted left name right) (inr is) = text_ends ends_part Class.Special (codes "`") right is.1.1 refl

-- an import: its module, or what the module is called, or the names
names_end : {T : Type 0} (of : T → List Item) (Is : T → Type 0) (names : NameList T) → IsNameList Is names → LastPasses ends_import (name_list_items of names)
names_end of Is names is =
    ends_behind ends_import names.left (flat_map (listed_items of) names.list ++ (maybe_item names.last_comma ++ names.right ∷ [])) (ends_after ends_import (flat_map (listed_items of) names.list) (maybe_item names.last_comma ++ names.right ∷ [])
    (ends_with ends_import (maybe_item names.last_comma) names.right (text_ends ends_import Class.Special (codes ")") names.right is.1.1.1 refl)))

import_names_end : (item : Item) → IsOf Class.ConId item → (names : Option ImportNames) → AreImportNames names → LastPasses ends_import (item ∷ maybe_import_names names)
import_names_end item con None is = class_ends ends_import Class.ConId item con refl
import_names_end item con (Some names) is =
    ends_behind ends_import item (maybe_item names.hiding ++ name_list_items imported_items names.list) (ends_after ends_import (maybe_item names.hiding) (name_list_items imported_items names.list) (names_end imported_items IsImported names.list is.1))

alias_ends : (item : Item) → IsOf Class.ConId item → (alias : Option Alias) → IsAlias alias → (names : Option ImportNames) → AreImportNames names → LastPasses ends_import (item ∷ (maybe_alias alias ++ maybe_import_names names))
alias_ends item con None a names is = import_names_end item con names is
alias_ends item con (Some alias) a names is =
    ends_behind ends_import item (alias.word ∷ alias.name ∷ maybe_import_names names) (ends_behind ends_import alias.word (alias.name ∷ maybe_import_names names) (import_names_end alias.name a.1 names is))

import_ends : (import : Import) → IsImport import → LastPasses ends_import (import_items import)
import_ends import is =
    ends_behind ends_import import.word (maybe_item import.qualified ++ import.«module» ∷ (maybe_alias import.alias ++ maybe_import_names import.names))
    (ends_after ends_import (maybe_item import.qualified) (import.«module» ∷ (maybe_alias import.alias ++ maybe_import_names import.names))
    (alias_ends import.«module» is.1.1.0 import.alias is.1.1.1.0 import.names is.1.1.1.1))

import_at : (place : DeclPlace) (items : List Item) → takes_import place ≡ true → LastPasses ends_import items → LastPasses (ends_declaration place) items
import_at DeclPlace.First items t e = e
import_at DeclPlace.Top items t e = let no : ⊥ = cc in elim no [ ]
import_at DeclPlace.Local items t e = let no : ⊥ = cc in elim no [ ]

decl_at : (takes : DeclPlace → Bool) → takes DeclPlace.First ≡ false → (place : DeclPlace) (items : List Item) → takes place ≡ true → LastPasses ends_part items → LastPasses (ends_declaration place) items
decl_at takes none DeclPlace.First items t e = let no : ⊥ = cc in elim no [ ]
decl_at takes none _ items t e = e

decl_level : (levels : ℕ) → Below levels → (place : DeclPlace) (layer : Decl-F Decl Exp Qualifier Alt) → DeclProduction (nodes levels) place layer → LastPasses (ends_declaration place) (decl_joined layer)
decl_level levels below place (Decl-F.Import import) is =
    import_at place (import_items import) is.0
    (import_ends import is.1)
decl_level levels below place (Decl-F.Synonym word head equals ty) is =
    decl_at takes_top refl place (word ∷ (type_head_items head ++ (equals ∷ (ty_items ty)))) is.0
    (ends_behind ends_part word (type_head_items head ++ (equals ∷ (ty_items ty))) (ends_after ends_part (type_head_items head) (equals ∷ (ty_items ty)) (ends_behind ends_part equals (ty_items ty) (types_last levels TyPlace.Whole ty is.4))))
decl_level levels below place (Decl-F.Data word head equals constructions) is =
    decl_at takes_top refl place (word ∷ (type_head_items head ++ (equals ∷ (flat_map (listed_items construction_items) constructions)))) is.0
    (ends_behind ends_part word (type_head_items head ++ (equals ∷ (flat_map (listed_items construction_items) constructions))) (ends_after ends_part (type_head_items head) (equals ∷ (flat_map (listed_items construction_items) constructions)) (ends_behind ends_part equals (flat_map (listed_items construction_items) constructions) (separated_end ends_part IsBar construction_items (IsConstructionOver (nodes levels)) (construction_ends levels) constructions is.5 is.4))))
decl_level levels below place (Decl-F.Newtype word head equals construction) is =
    decl_at takes_top refl place (word ∷ (type_head_items head ++ (equals ∷ (construction_items construction)))) is.0
    (ends_behind ends_part word (type_head_items head ++ (equals ∷ (construction_items construction))) (ends_after ends_part (type_head_items head) (equals ∷ (construction_items construction)) (ends_behind ends_part equals (construction_items construction) (new_construction_ends levels construction is.4))))
decl_level levels below place (Decl-F.Signature names colons ty) is =
    decl_at takes_local refl place (flat_map (listed_items variable_items) names ++ (colons ∷ (ty_items ty))) is.0
    (ends_after ends_part (flat_map (listed_items variable_items) names) (colons ∷ (ty_items ty)) (ends_behind ends_part colons (ty_items ty) (types_last levels TyPlace.Whole ty is.4)))
decl_level levels below place (Decl-F.Fixity word level operators) is =
    decl_at takes_local refl place (word ∷ (maybe_item level ++ (flat_map (listed_items operator_items) operators))) is.0
    (ends_behind ends_part word (maybe_item level ++ (flat_map (listed_items operator_items) operators)) (ends_after ends_part (maybe_item level) (flat_map (listed_items operator_items) operators) (separated_end ends_part IsComma operator_items IsOwnOperator own_operator_ends operators is.5 is.4)))
decl_level levels below place (Decl-F.Equation left body locals) is =
    decl_at takes_local refl place (left_side_items left ++ (body_items exp_items body ++ where_items decl_items locals)) is.0
    (ends_after ends_part (left_side_items left) (body_items exp_items body ++ where_items decl_items locals) (right_side_ends levels below IsEquals body is.2 locals is.3))
decl_level levels below place (Decl-F.Binding pattern body locals) is =
    decl_at takes_local refl place (pat_items pattern ++ (body_items exp_items body ++ where_items decl_items locals)) is.0
    (ends_after ends_part (pat_items pattern) (body_items exp_items body ++ where_items decl_items locals) (right_side_ends levels below IsEquals body is.2 locals is.3))

alt_ends : (levels : ℕ) → Below levels → (alt : Alt) → IsAltOver (nodes levels) alt → LastPasses ends_part (alt_items alt)
alt_ends levels below alt is =
    subst (LastPasses ends_part) (sym (yields_join_lem.alt alt)) (ends_after ends_part (pat_items (out-Alt alt).pattern) (body_items exp_items (out-Alt alt).body ++ where_items decl_items (out-Alt alt).locals)
    (right_side_ends levels below IsArrow (out-Alt alt).body is.1.0 (out-Alt alt).locals is.1.1))

all_below : (levels : ℕ) → Below levels
all_below zero = record {
  exp = λ free place part is. elim is [ ];
  decl = λ place part is. elim is [ ];
  alt = λ part is. elim is [ ];
  locals = λ word t block is. elim is [ ];
  alternatives = λ word t block is. elim is [ ];
}
all_below (suc levels) = let below = all_below levels in record {
  exp = λ free place part is. subst (LastPasses (ends_expression place)) (sym (yields_join_lem.exp part)) (exp_level levels below free place (out-Exp part) is);
  decl = λ place part is. subst (LastPasses (ends_declaration place)) (sym (yields_join_lem.decl part)) (decl_level levels below place (out-Decl part) is);
  alt = alt_ends levels below;
  locals = λ word t block is. block_ends ends_part decl_items ((nodes levels).decl DeclPlace.Local) refl refl (below.decl DeclPlace.Local) word t block.layout block.pieces is.0 is.1;
  alternatives = λ word t block is. block_ends ends_part alt_items (nodes levels).alt refl refl below.alt word t block.layout block.pieces is.0 is.1;
}

pub expressions_end_lem : ExpressionsEnd
expressions_end_lem levels = (all_below levels).exp

pub declarations_end_lem : DeclarationsEnd
declarations_end_lem levels = (all_below levels).decl

pub alternatives_end_lem : AlternativesEnd
alternatives_end_lem levels = (all_below levels).alt
