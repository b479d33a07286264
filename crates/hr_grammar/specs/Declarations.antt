-- Declarations and alternatives: the Haskell 98 Report, chapter 4 and section 3.13, without classes,
-- instances, defaults, contexts and `deriving`.
use Rattle.std.specs.Prelude.{ℕ, ◌≡◌, ◌≢◌, Bool, true, false, List, [], ◌∷◌, length, Option, Some, None}
use Rattle.std.specs.List.{AllByRecursion}
use lib.Chars.{codes}
use Rattle.hr_base.specs.declared.lexeme.Class.{Class}
use Rattle.hr_base.specs.declared.lexeme.Item.{Item}
use Rattle.hr_rules.specs.Names.{is_one_of}
use Rattle.hr_tree.specs.declared.patterns.Pat.{Pat}
use Rattle.hr_tree.specs.declared.declarations.TypeHead.{TypeHead}
use Rattle.hr_tree.specs.declared.declarations.Construction.{Construction}
use Rattle.hr_tree.specs.declared.declarations.LeftSide.{LeftSide}
use Rattle.hr_tree.specs.declared.declarations.LeftHead.{LeftHead}
use Rattle.hr_tree.specs.declared.declarations.Closed.{Closed}
use Rattle.hr_tree.specs.declared.declarations.Body.{Body}
use Rattle.hr_tree.specs.declared.declarations.Guarded.{Guarded}
use Rattle.hr_tree.specs.declared.declarations.Where.{Where}
use Rattle.hr_tree.specs.declared.expressions.Exp.{Exp}
use Rattle.hr_tree.specs.declared.expressions.Decl.{Decl, out-Decl}
use Rattle.hr_tree.specs.declared.expressions.Decl.TheOpen.{Decl-F}
use Rattle.hr_tree.specs.declared.expressions.Qualifier.{Qualifier}
use Rattle.hr_tree.specs.declared.expressions.Alt.{Alt, out-Alt}
use Rattle.hr_grammar.specs.Words.{IsOf, IsWord, IsEquals, IsArrow, IsBar, IsComma, IsDoubleColon, IsInteger, IsLeftParen, IsRightParen}
use Rattle.hr_grammar.specs.Spelled.{Maybe, IsVariable, IsOwnConstructor, IsOwnConstructorOperator, IsOwnVariableOperator, IsOwnOperator}
use Rattle.hr_grammar.specs.Separated.{AreSeparated}
use Rattle.hr_grammar.specs.Nodes.{Nodes, Colons, TyPlace, PatPlace, ExpPlace, DeclPlace}
use Rattle.hr_grammar.specs.Imports.{IsImport}

-- simpletype: a type's constructor and its variables
abbrev pub IsTypeHead : TypeHead → Type 0
IsTypeHead head = IsOf Class.ConId head.name × AllByRecursion (IsOf Class.VarId) head.variables

-- constr: a constructor with its types
abbrev pub IsConstructionOver : Nodes → Construction → Type 0
IsConstructionOver below (Construction.Prefix constructor types) = IsOwnConstructor constructor × AllByRecursion (below.ty TyPlace.Atomic) types
IsConstructionOver below (Construction.Infix first operator second) = below.ty TyPlace.Applied first × (IsOwnConstructorOperator operator × below.ty TyPlace.Applied second)
IsConstructionOver below (Construction.Fields constructor left fields right) = ⊥

-- newconstr: a constructor with one type
abbrev pub IsNewConstructionOver : Nodes → Construction → Type 0
IsNewConstructionOver below (Construction.Prefix constructor (ty ∷ [])) = IsOwnConstructor constructor × below.ty TyPlace.Atomic ty
IsNewConstructionOver below _ = ⊥

-- one pattern or more
abbrev pub AreArgumentsOver : Nodes → List Pat → Type 0
AreArgumentsOver below patterns = (patterns ≢ []) × AllByRecursion (below.pat PatPlace.Atomic) patterns

abbrev pub IsLeftHeadOver : Nodes → LeftHead → Type 0
IsLeftHeadOver below (LeftHead.Prefix variable patterns) = IsVariable variable × AreArgumentsOver below patterns
IsLeftHeadOver below (LeftHead.Infix first operator second) = below.pat PatPlace.Whole first × (IsOwnVariableOperator operator × below.pat PatPlace.Whole second)

abbrev pub IsClosedOver : Nodes → Closed → Type 0
IsClosedOver below closed = IsRightParen closed.right × AreArgumentsOver below closed.patterns

-- funlhs: as many parentheses close as open
abbrev pub IsLeftSideOver : Nodes → LeftSide → Type 0
IsLeftSideOver below left =
    AllByRecursion IsLeftParen left.opens × (IsLeftHeadOver below left.head × (AllByRecursion (IsClosedOver below) left.closes × (length left.opens ≡ length left.closes)))

-- a guard is a sequence without `::` outside of brackets and blocks
abbrev pub IsGuardedOver : Nodes → (Item → Type 0) → Guarded Exp → Type 0
IsGuardedOver below IsMark guarded =
    IsBar guarded.bar × (below.exp Colons.Barred ExpPlace.Sequence guarded.guard × (IsMark guarded.mark × below.exp Colons.Allowed ExpPlace.Whole guarded.body))

-- what stands behind `=` or `->`
abbrev pub IsBodyOver : Nodes → (Item → Type 0) → Body Exp → Type 0
IsBodyOver below IsMark (Body.Plain mark body) = IsMark mark × below.exp Colons.Allowed ExpPlace.Whole body
IsBodyOver below IsMark (Body.Guarded list) = (list ≢ []) × AllByRecursion (IsGuardedOver below IsMark) list

-- `where` and its block, or nothing
abbrev pub IsWhereOver : Nodes → Option (Where Decl) → Type 0
IsWhereOver below None = Unit {0}
IsWhereOver below (Some locals) = IsWord (codes "where") locals.word × below.declarations DeclPlace.Local locals.block

abbrev pub fixity_words : List (List ℕ)
fixity_words = codes "infix" ∷ (codes "infixl" ∷ (codes "infixr" ∷ []))

-- the level of a fixity is one digit
abbrev pub IsDigit : Item → Type 0
IsDigit item = IsInteger item × (length item.lexeme.text ≡ 1)

-- an import comes before the other parts of a module's body
abbrev pub takes_import : DeclPlace → Bool
takes_import DeclPlace.First = true
takes_import _ = false

-- the declarations of types stand in a module's body alone
abbrev pub takes_top : DeclPlace → Bool
takes_top DeclPlace.Top = true
takes_top _ = false

abbrev pub takes_local : DeclPlace → Bool
takes_local DeclPlace.First = false
takes_local _ = true

-- the productions: what a declaration at the place is
abbrev pub DeclProduction : Nodes → DeclPlace → Decl-F Decl Exp Qualifier Alt → Type 0
DeclProduction below place (Decl-F.Import import) = (takes_import place ≡ true) × IsImport import
DeclProduction below place (Decl-F.Synonym word head equals ty) =
    (takes_top place ≡ true) × IsWord (codes "type") word × IsTypeHead head × IsEquals equals × below.ty TyPlace.Whole ty
DeclProduction below place (Decl-F.Data word head equals constructions) =
    (takes_top place ≡ true) × IsWord (codes "data") word × IsTypeHead head × IsEquals equals
    × AreSeparated IsBar (IsConstructionOver below) constructions × (constructions ≢ [])
DeclProduction below place (Decl-F.Newtype word head equals construction) =
    (takes_top place ≡ true) × IsWord (codes "newtype") word × IsTypeHead head × IsEquals equals × IsNewConstructionOver below construction
DeclProduction below place (Decl-F.Signature names colons ty) =
    (takes_local place ≡ true) × AreSeparated IsComma IsVariable names × (names ≢ []) × IsDoubleColon colons × below.ty TyPlace.Whole ty
DeclProduction below place (Decl-F.Fixity word level operators) =
    (takes_local place ≡ true) × IsOf Class.ReservedId word × (is_one_of fixity_words word.lexeme.text ≡ true) × Maybe IsDigit level
    × AreSeparated IsComma IsOwnOperator operators × (operators ≢ [])
DeclProduction below place (Decl-F.Equation left body locals) =
    (takes_local place ≡ true) × IsLeftSideOver below left × IsBodyOver below IsEquals body × IsWhereOver below locals
DeclProduction below place (Decl-F.Binding pattern body locals) =
    (takes_local place ≡ true) × below.pat PatPlace.Whole pattern × IsBodyOver below IsEquals body × IsWhereOver below locals

abbrev pub IsDeclOver : Nodes → DeclPlace → Decl → Type 0
IsDeclOver below place decl = DeclProduction below place (out-Decl decl)

-- an alternative has `->` in place of `=`
abbrev pub IsAltOver : Nodes → Alt → Type 0
IsAltOver below alt =
    below.pat PatPlace.Whole (out-Alt alt).pattern × (IsBodyOver below IsArrow (out-Alt alt).body × IsWhereOver below (out-Alt alt).locals)
