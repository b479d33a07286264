-- Declarations and alternatives that are read are those of the grammar.
use Rattle.std.proofs.Common.{◌≢◌, ℕ, List, [], ◌∷◌, Option, Some, None}
use Rattle.std.specs.List.{AllByRecursion}
use Rattle.hr_base.specs.declared.lexeme.Class.{Class}
use Rattle.hr_base.specs.declared.lexeme.Ending.{Ending}
use Rattle.hr_base.specs.declared.lexeme.Item.{Item}
use Rattle.hr_rules.specs.declared.block.Placed.{Placed}
use Rattle.hr_tree.specs.declared.declarations.Construction.{Construction}
use Rattle.hr_tree.specs.declared.declarations.LeftHead.{LeftHead}
use Rattle.hr_tree.specs.declared.declarations.Body.{Body}
use Rattle.hr_tree.specs.declared.declarations.Guarded.{Guarded}
use Rattle.hr_tree.specs.declared.declarations.Where.{Where}
use Rattle.hr_tree.specs.declared.expressions.Exp.{Exp}
use Rattle.hr_tree.specs.declared.expressions.Decl.{Decl}
use Rattle.hr_tree.specs.declared.expressions.Decl.TheOpen.{Decl-F}
use Rattle.hr_tree.specs.declared.expressions.Qualifier.{Qualifier}
use Rattle.hr_tree.specs.declared.expressions.Alt.{Alt, out-Alt}
use Rattle.hr_tree.specs.Names.{variable_items, operator_items}
use Rattle.hr_grammar.specs.Words.{IsOf, IsEquals, IsArrow, IsBar, IsComma, IsLeftParen}
use Rattle.hr_grammar.specs.Spelled.{IsVariable, IsOwnOperator}
use Rattle.hr_grammar.specs.Nodes.{Nodes, Colons, TyPlace, PatPlace, ExpPlace, DeclPlace}
use Rattle.hr_grammar.specs.Declarations.{IsTypeHead, IsConstructionOver, IsNewConstructionOver, AreArgumentsOver, IsLeftHeadOver, IsClosedOver, IsLeftSideOver, IsGuardedOver, IsBodyOver, IsWhereOver, IsDigit, DeclProduction, IsAltOver}
use Rattle.hr_grammar_cases.specs.Derivations.{Derivations}
use Rattle.hr_grammar_cases.specs.Declarations.{type_head_reading, construction_reading, new_construction_reading, arguments_reading, left_head_reading, closed_reading, left_side_reading, guarded_reading, guards_reading, body_reading, right_side_reading, decl_reading, alt_over}
use Rattle.hr_grammar_cases.specs.Laws.{AllAre}
use Rattle.hr_grammar_cases.proofs.Grammatical.{Are, one_are, spelled_are, maybe_is, in_turn_are, separated_are}
use Rattle.hr_grammar_cases.proofs.GrammaticalLeaves.{import_is}

type_head_is : (n : ℕ) → Are (type_head_reading n) IsTypeHead
type_head_is n head ts us r = (r.1.0, in_turn_are _ (IsOf Class.VarId) (one_are n (IsOf Class.VarId)) head.variables r.0 us r.2)

construction_is : (read : Derivations) (allowed : Nodes) → AllAre read allowed → (n : ℕ) → Are (construction_reading read n) (IsConstructionOver allowed)
construction_is read allowed each n (Construction.Prefix constructor types) ts us r = (r.1.0, in_turn_are _ (allowed.ty TyPlace.Atomic) (each.ty n TyPlace.Atomic) types r.0 us r.2)
construction_is read allowed each n (Construction.Infix first operator second) ts us r =
    (each.ty n TyPlace.Applied first ts r.0 r.1, (r.2.1.0, each.ty n TyPlace.Applied second r.2.0 us r.2.2))
construction_is read allowed each n (Construction.Fields constructor left fields right) ts us r = r

new_construction_is : (read : Derivations) (allowed : Nodes) → AllAre read allowed → (n : ℕ) → Are (new_construction_reading read n) (IsNewConstructionOver allowed)
new_construction_is read allowed each n (Construction.Prefix constructor []) ts us r = r
new_construction_is read allowed each n (Construction.Prefix constructor (ty ∷ [])) ts us r = (r.1.0, each.ty n TyPlace.Atomic ty r.0 r.2.0 r.2.1)
new_construction_is read allowed each n (Construction.Prefix constructor (ty ∷ (next ∷ rest))) ts us r = r
new_construction_is read allowed each n (Construction.Infix first operator second) ts us r = r
new_construction_is read allowed each n (Construction.Fields constructor left fields right) ts us r = r

arguments_are : (read : Derivations) (allowed : Nodes) → AllAre read allowed → (n : ℕ) → Are (arguments_reading read n) (AreArgumentsOver allowed)
arguments_are read allowed each n patterns ts us r = (r.0, in_turn_are _ (allowed.pat PatPlace.Atomic) (each.pat n PatPlace.Atomic) patterns ts us r.1)

left_head_is : (read : Derivations) (allowed : Nodes) → AllAre read allowed → (n : ℕ) → Are (left_head_reading read n) (IsLeftHeadOver allowed)
left_head_is read allowed each n (LeftHead.Prefix variable patterns) ts us r = (r.1.0, arguments_are read allowed each n patterns r.0 us r.2)
left_head_is read allowed each n (LeftHead.Infix first operator second) ts us r =
    (each.pat n PatPlace.Whole first ts r.0 r.1, (r.2.1.0, each.pat n PatPlace.Whole second r.2.0 us r.2.2))

closed_is : (read : Derivations) (allowed : Nodes) → AllAre read allowed → (n : ℕ) → Are (closed_reading read n) (IsClosedOver allowed)
closed_is read allowed each n closed ts us r = (r.1.0, arguments_are read allowed each n closed.patterns r.0 us r.2)

left_side_is : (read : Derivations) (allowed : Nodes) → AllAre read allowed → (n : ℕ) → Are (left_side_reading read n) (IsLeftSideOver allowed)
left_side_is read allowed each n left ts us r = (
  in_turn_are _ IsLeftParen (one_are n IsLeftParen) left.opens ts r.1.0 r.1.1,
  (
    left_head_is read allowed each n left.head r.1.0 r.1.2.0 r.1.2.1,
    (in_turn_are _ (IsClosedOver allowed) (closed_is read allowed each n) left.closes r.1.2.0 us r.1.2.2, r.0),
  ),
)

guarded_is : (read : Derivations) (allowed : Nodes) → AllAre read allowed → (n : ℕ) (IsMark : Item → Type 0) (guarded : Guarded Exp) (ending : Ending) (ts us : List Placed)
    → guarded_reading read n IsMark guarded ending ts us → IsGuardedOver allowed IsMark guarded
guarded_is read allowed each n IsMark guarded ending ts us r =
    (r.1.0, (each.exp n Colons.Barred ExpPlace.Sequence guarded.guard r.2.1.0 r.0 r.2.0 r.2.1.1, (r.2.2.1.0, each.exp n Colons.Allowed ExpPlace.Whole guarded.body ending r.2.2.0 us r.2.2.2)))

guards_are : (read : Derivations) (allowed : Nodes) → AllAre read allowed → (n : ℕ) (IsMark : Item → Type 0) (list : List (Guarded Exp)) (ending : Ending) (ts us : List Placed)
    → guards_reading read n IsMark list ending ts us → AllByRecursion (IsGuardedOver allowed IsMark) list
guards_are read allowed each n IsMark [] ending ts us r = tt
guards_are read allowed each n IsMark (guarded ∷ []) ending ts us r = (guarded_is read allowed each n IsMark guarded ending ts us r, tt)
guards_are read allowed each n IsMark (guarded ∷ (next ∷ rest)) ending ts us r =
    (guarded_is read allowed each n IsMark guarded r.1.0 ts r.0 r.1.1, guards_are read allowed each n IsMark (next ∷ rest) ending r.0 us r.2)

-- guards are one or more
some_guards : (read : Derivations) (n : ℕ) (IsMark : Item → Type 0) (list : List (Guarded Exp)) (ending : Ending) (ts us : List Placed) → guards_reading read n IsMark list ending ts us → list ≢ []
some_guards read n IsMark [] ending ts us r = elim r [ ]
some_guards read n IsMark (guarded ∷ rest) ending ts us r = λ e. let h : ⊥ = cc in h

body_is : (read : Derivations) (allowed : Nodes) → AllAre read allowed → (n : ℕ) (IsMark : Item → Type 0) (body : Body Exp) (ending : Ending) (ts us : List Placed)
    → body_reading read n IsMark body ending ts us → IsBodyOver allowed IsMark body
body_is read allowed each n IsMark (Body.Plain mark body) ending ts us r = (r.2.1.0, each.exp n Colons.Allowed ExpPlace.Whole body r.0 r.2.0 us r.2.2)
body_is read allowed each n IsMark (Body.Guarded list) ending ts us r = (some_guards read n IsMark list r.0 ts us r.2, guards_are read allowed each n IsMark list r.0 ts us r.2)

right_side_is : (read : Derivations) (allowed : Nodes) → AllAre read allowed → (n : ℕ) (IsMark : Item → Type 0) (body : Body Exp) (locals : Option (Where Decl)) (ending : Ending) (ts us : List Placed)
    → right_side_reading read n IsMark body locals ending ts us → IsBodyOver allowed IsMark body × IsWhereOver allowed locals
right_side_is read allowed each n IsMark body None ending ts us r = (body_is read allowed each n IsMark body ending ts us r, tt)
right_side_is read allowed each n IsMark body (Some locals) ending ts us r =
    (body_is read allowed each n IsMark body r.1.1.0 ts r.1.0 r.1.1.1, (r.1.2.1.0, each.declarations n DeclPlace.Local locals.block r.1.2.0 us r.1.2.2))

pub decl_is : (read : Derivations) (allowed : Nodes) → AllAre read allowed → (n : ℕ) (place : DeclPlace) (layer : Decl-F Decl Exp Qualifier Alt) (ending : Ending) (ts us : List Placed)
    → decl_reading read n place layer ending ts us → DeclProduction allowed place layer
decl_is read allowed each n place (Decl-F.Import import) ending ts us r = (r.0.1, import_is n import ts us r.1)
decl_is read allowed each n place (Decl-F.Synonym word head equals ty) ending ts us r =
    (r.0.1, r.1.1.0, type_head_is n head r.1.0 r.1.2.0 r.1.2.1, r.1.2.2.1.0, each.ty n TyPlace.Whole ty r.1.2.2.0 us r.1.2.2.2)
decl_is read allowed each n place (Decl-F.Data word head equals constructions) ending ts us r = (
  r.0.1.0,
  r.1.1.0,
  type_head_is n head r.1.0 r.1.2.0 r.1.2.1,
  r.1.2.2.1.0,
  separated_are n IsBar (construction_reading read n) (IsConstructionOver allowed) (construction_is read allowed each n) constructions r.1.2.2.0 us r.1.2.2.2,
  r.0.1.1,
)
decl_is read allowed each n place (Decl-F.Newtype word head equals construction) ending ts us r =
    (r.0.1, r.1.1.0, type_head_is n head r.1.0 r.1.2.0 r.1.2.1, r.1.2.2.1.0, new_construction_is read allowed each n construction r.1.2.2.0 us r.1.2.2.2)
decl_is read allowed each n place (Decl-F.Signature names colons ty) ending ts us r =
    (r.0.1.0, separated_are n IsComma _ IsVariable (spelled_are n IsVariable variable_items) names ts r.1.0 r.1.1, r.0.1.1, r.1.2.1.0, each.ty n TyPlace.Whole ty r.1.2.0 us r.1.2.2)
decl_is read allowed each n place (Decl-F.Fixity word level operators) ending ts us r = (
  r.0.1.0,
  r.1.1.0,
  r.0.1.1.0,
  maybe_is n IsDigit level r.1.0 r.1.2.0 r.1.2.1,
  separated_are n IsComma _ IsOwnOperator (spelled_are n IsOwnOperator operator_items) operators r.1.2.0 us r.1.2.2,
  r.0.1.1.1,
)
decl_is read allowed each n place (Decl-F.Equation left body locals) ending ts us r =
    let right = right_side_is read allowed each n IsEquals body locals ending r.1.0 us r.1.2 in (r.0, left_side_is read allowed each n left ts r.1.0 r.1.1, right.0, right.1)
decl_is read allowed each n place (Decl-F.Binding pattern body locals) ending ts us r =
    let right = right_side_is read allowed each n IsEquals body locals ending r.1.0 us r.1.2 in (r.0, each.pat n PatPlace.Whole pattern ts r.1.0 r.1.1, right.0, right.1)

pub alt_is : (read : Derivations) (allowed : Nodes) → AllAre read allowed → (n : ℕ) (alt : Alt) (ending : Ending) (ts us : List Placed) → alt_over read n alt ending ts us → IsAltOver allowed alt
alt_is read allowed each n alt ending ts us r =
    let right = right_side_is read allowed each n IsArrow (out-Alt alt).body (out-Alt alt).locals ending r.0 us r.2 in (each.pat n PatPlace.Whole (out-Alt alt).pattern ts r.0 r.1, (right.0, right.1))
