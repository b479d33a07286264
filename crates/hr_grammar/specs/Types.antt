-- Types: the Haskell 98 Report, section 4.1.2, without variables that are applied.
use Rattle.std.specs.Prelude.{◌≡◌, ◌≢◌, Bool, true, false, [], length}
use Rattle.std.specs.List.{AllByRecursion}
use Rattle.hr_base.specs.declared.lexeme.Class.{Class}
use Rattle.hr_tree.specs.declared.types.Ty.{Ty, out-Ty}
use Rattle.hr_tree.specs.declared.types.Ty.TheOpen.{Ty-F}
use Rattle.hr_grammar.specs.Words.{IsOf, IsLeftParen, IsRightParen, IsLeftSquare, IsRightSquare, IsComma, IsArrow}
use Rattle.hr_grammar.specs.Spelled.{IsTypeConstructor, AreParts}
use Rattle.hr_grammar.specs.Separated.{AreSeparated}
use Rattle.hr_grammar.specs.Nodes.{Nodes, TyPlace}

-- an applied constructor may not stand where an atomic type must
abbrev pub takes_application : TyPlace → Bool
takes_application TyPlace.Atomic = false
takes_application _ = true

abbrev pub takes_function : TyPlace → Bool
takes_function TyPlace.Whole = true
takes_function _ = false

-- the productions: what a type at the place is, by its outermost node
abbrev pub TyProduction : Nodes → TyPlace → Ty-F Ty → Type 0
TyProduction below place (Ty-F.Variable name) = IsOf Class.VarId name
TyProduction below place (Ty-F.Constructor named) = IsTypeConstructor named
TyProduction below place (Ty-F.Tuple left parts right) =
    IsLeftParen left × AreSeparated IsComma (below.ty TyPlace.Whole) parts × AreParts (length parts) × IsRightParen right
TyProduction below place (Ty-F.List left part right) = IsLeftSquare left × below.ty TyPlace.Whole part × IsRightSquare right
TyProduction below place (Ty-F.Group left part right) = IsLeftParen left × below.ty TyPlace.Whole part × IsRightParen right
TyProduction below place (Ty-F.Apply named arguments) =
    (takes_application place ≡ true) × IsTypeConstructor named × (arguments ≢ []) × AllByRecursion (below.ty TyPlace.Atomic) arguments
TyProduction below place (Ty-F.Function from arrow to) =
    (takes_function place ≡ true) × below.ty TyPlace.Applied from × IsArrow arrow × below.ty TyPlace.Whole to

abbrev pub IsTyOver : Nodes → TyPlace → Ty → Type 0
IsTyOver below place ty = TyProduction below place (out-Ty ty)
