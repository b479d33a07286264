-- The ways to begin with a type.
use Rattle.std.specs.Prelude.{ℕ, List, [], ◌∷◌}
use lib.Chars.{codes}
use Rattle.hr_base.specs.declared.lexeme.Class.{Class}
use Rattle.hr_tree.specs.declared.types.Ty.{Ty, roll-Ty}
use Rattle.hr_tree.specs.declared.types.Ty.TheOpen.{Ty-F}
use Rattle.hr_grammar.specs.Nodes.{TyPlace}
use Rattle.hr_grammar.specs.Types.{takes_application, takes_function}
use Rattle.hr_grammar_finder_laws.specs.Ways.{Finder, any_of, on, passing, made_by, ◌▶◌, one, in_turn, separated}
use Rattle.hr_grammar_finder_laws.specs.Tests.{is_of, is_reserved, is_special, has_one, are_parts}
use Rattle.hr_grammar_finder_laws.specs.Names.{type_constructors}
use Rattle.hr_grammar_finder_laws.specs.Finders.{Finders}

abbrev pub ty_ways : Finders → ℕ → TyPlace → List (Finder (Ty-F Ty))
ty_ways below n place =
    made_by Ty-F.Variable (one n (is_of Class.VarId))
    ∷ made_by Ty-F.Constructor (type_constructors n)
    ∷ made_by (λ p. Ty-F.Tuple p.0 p.1.0 p.1.1)
    (passing (λ p. are_parts p.1.0)
    (one n (is_special (codes "(")) ▶ separated (one n (is_special (codes ","))) (below.ty n TyPlace.Whole) ▶ one n (is_special (codes ")"))))
    ∷ made_by (λ p. Ty-F.List p.0 p.1.0 p.1.1) (one n (is_special (codes "[")) ▶ below.ty n TyPlace.Whole ▶ one n (is_special (codes "]")))
    ∷ made_by (λ p. Ty-F.Group p.0 p.1.0 p.1.1) (one n (is_special (codes "(")) ▶ below.ty n TyPlace.Whole ▶ one n (is_special (codes ")")))
    ∷ on (takes_application place) (made_by (λ p. Ty-F.Apply p.0 p.1) (passing (λ p. has_one p.1) (type_constructors n ▶ in_turn (below.ty n TyPlace.Atomic))))
    ∷ on (takes_function place) (made_by (λ p. Ty-F.Function p.0 p.1.0 p.1.1) (below.ty n TyPlace.Applied ▶ one n (is_reserved (codes "->")) ▶ below.ty n TyPlace.Whole))
    ∷ []

abbrev pub ty_layers : Finders → ℕ → TyPlace → Finder (Ty-F Ty)
ty_layers below n place = any_of (ty_ways below n place)

abbrev pub ty_found : Finders → ℕ → TyPlace → Finder Ty
ty_found below n place = made_by roll-Ty (ty_layers below n place)
