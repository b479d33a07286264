-- How types are read: the Haskell 98 Report, section 4.1.2.
use Rattle.std.specs.Prelude.{ℕ, ◌≡◌, ◌≢◌, true, [], length}
use Rattle.hr_base.specs.declared.lexeme.Class.{Class}
use Rattle.hr_tree.specs.declared.types.Ty.{Ty, out-Ty}
use Rattle.hr_tree.specs.declared.types.Ty.TheOpen.{Ty-F}
use Rattle.hr_tree.specs.Names.{constructor_items}
use Rattle.hr_grammar.specs.Words.{IsOf, IsLeftParen, IsRightParen, IsLeftSquare, IsRightSquare, IsComma, IsArrow}
use Rattle.hr_grammar.specs.Spelled.{IsTypeConstructor, AreParts}
use Rattle.hr_grammar.specs.Nodes.{TyPlace}
use Rattle.hr_grammar.specs.Types.{takes_application, takes_function}
use Rattle.hr_grammar_cases.specs.Readings.{Reading, ◌▷◌, given, one, spelled, in_turn, separated}
use Rattle.hr_grammar_cases.specs.Derivations.{Derivations}

-- the productions, by the outermost node
abbrev pub ty_reading : Derivations → ℕ → TyPlace → Ty-F Ty → Reading
ty_reading below n place (Ty-F.Variable name) = one n (IsOf Class.VarId) name
ty_reading below n place (Ty-F.Constructor named) = spelled n IsTypeConstructor constructor_items named
ty_reading below n place (Ty-F.Tuple left parts right) =
    given (AreParts (length parts)) (one n IsLeftParen left ▷ separated (one n IsComma) (below.ty n TyPlace.Whole) parts ▷ one n IsRightParen right)
ty_reading below n place (Ty-F.List left part right) = one n IsLeftSquare left ▷ below.ty n TyPlace.Whole part ▷ one n IsRightSquare right
ty_reading below n place (Ty-F.Group left part right) = one n IsLeftParen left ▷ below.ty n TyPlace.Whole part ▷ one n IsRightParen right
ty_reading below n place (Ty-F.Apply named arguments) =
    given ((takes_application place ≡ true) × (arguments ≢ [])) (spelled n IsTypeConstructor constructor_items named ▷ in_turn (below.ty n TyPlace.Atomic) arguments)
ty_reading below n place (Ty-F.Function from arrow to) =
    given (takes_function place ≡ true) (below.ty n TyPlace.Applied from ▷ one n IsArrow arrow ▷ below.ty n TyPlace.Whole to)

abbrev pub ty_over : Derivations → ℕ → TyPlace → Ty → Reading
ty_over below n place ty = ty_reading below n place (out-Ty ty)
