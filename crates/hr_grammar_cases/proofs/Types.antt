-- A type that is read takes its own items.
use Rattle.std.proofs.Common.{◌≡◌, ◌≢◌, ℕ, zero, suc, true, List, [], length, sym, ap, ◌∙◌}
use Rattle.hr_base.specs.declared.lexeme.Class.{Class}
use Rattle.hr_base.specs.declared.lexeme.Item.{Item}
use Rattle.hr_tree.specs.declared.types.Ty.{Ty, out-Ty, roll-Ty}
use Rattle.hr_tree.specs.declared.types.Ty.TheOpen.{Ty-F}
use Rattle.hr_tree.specs.declared.types.Ty.TheFolds.{fold-roll-Ty}
use Rattle.hr_tree.specs.declared.types.Ty.TheViews.{roll-out-Ty, rolls-Apply, rolls-Tuple}
use Rattle.hr_tree.specs.Names.{constructor_items}
use Rattle.hr_tree.specs.Yields.{ty_layer, ty_items}
use Rattle.hr_tree.proofs.TypeYields.{ty_apply, ty_tuple}
use Rattle.hr_grammar.specs.Words.{IsOf, IsLeftParen, IsRightParen, IsLeftSquare, IsRightSquare, IsComma, IsArrow}
use Rattle.hr_grammar.specs.Spelled.{IsTypeConstructor, AreParts}
use Rattle.hr_grammar.specs.Nodes.{TyPlace}
use Rattle.hr_grammar.specs.Types.{takes_application, takes_function}
use Rattle.hr_grammar_cases.specs.Derivations.{Derivations}
use Rattle.hr_grammar_cases.specs.Types.{ty_reading}
use Rattle.hr_grammar_cases.specs.Modules.{derivations}
use Rattle.hr_grammar_cases.specs.Laws.{TypesGive}
use Rattle.hr_grammar_cases.proofs.Taken.{Takes, taken_gives, same_takes, never_takes, then_takes, given_takes, one_takes, spelled_takes, in_turn_takes, separated_takes}

-- one level, where types on the level below take theirs
pub ty_takes : (below : Derivations) → ((n : ℕ) (place : TyPlace) (ty : Ty) → Takes n (ty_items ty) (below.ty n place ty))
    → (n : ℕ) (place : TyPlace) (layer : Ty-F Ty) → Takes n (ty_items (roll-Ty layer)) (ty_reading below n place layer)
ty_takes below each n place (Ty-F.Variable name) =
    same_takes (sym (fold-roll-Ty (List Item) ty_layer (Ty-F.Variable name))) (one_takes n (IsOf Class.VarId) name)
ty_takes below each n place (Ty-F.Constructor named) =
    same_takes (sym (fold-roll-Ty (List Item) ty_layer (Ty-F.Constructor named))) (spelled_takes n IsTypeConstructor constructor_items named)
ty_takes below each n place (Ty-F.Apply named arguments) =
    same_takes (sym (ap ty_items (rolls-Apply named arguments) ∙ ty_apply named arguments))
    (given_takes ((takes_application place ≡ true) × (arguments ≢ []))
    (then_takes (spelled_takes n IsTypeConstructor constructor_items named) (in_turn_takes ty_items _ (each n TyPlace.Atomic) arguments)))
ty_takes below each n place (Ty-F.Function from arrow to) =
    same_takes (sym (fold-roll-Ty (List Item) ty_layer (Ty-F.Function from arrow to)))
    (given_takes (takes_function place ≡ true) (then_takes (each n TyPlace.Applied from) (then_takes (one_takes n IsArrow arrow) (each n TyPlace.Whole to))))
ty_takes below each n place (Ty-F.Tuple left parts right) =
    same_takes (sym (ap ty_items (rolls-Tuple left parts right) ∙ ty_tuple left parts right))
    (given_takes (AreParts (length parts))
    (then_takes (one_takes n IsLeftParen left) (then_takes (separated_takes n IsComma ty_items _ (each n TyPlace.Whole) parts) (one_takes n IsRightParen right))))
ty_takes below each n place (Ty-F.List left part right) =
    same_takes (sym (fold-roll-Ty (List Item) ty_layer (Ty-F.List left part right)))
    (then_takes (one_takes n IsLeftSquare left) (then_takes (each n TyPlace.Whole part) (one_takes n IsRightSquare right)))
ty_takes below each n place (Ty-F.Group left part right) =
    same_takes (sym (fold-roll-Ty (List Item) ty_layer (Ty-F.Group left part right)))
    (then_takes (one_takes n IsLeftParen left) (then_takes (each n TyPlace.Whole part) (one_takes n IsRightParen right)))

pub types_take_lem : (levels n : ℕ) (place : TyPlace) (ty : Ty) → Takes n (ty_items ty) ((derivations levels).ty n place ty)
types_take_lem zero n place ty = never_takes
types_take_lem (suc levels) n place ty =
    same_takes (ap ty_items (roll-out-Ty ty)) (ty_takes (derivations levels) (types_take_lem levels) n place (out-Ty ty))

pub types_give_lem : TypesGive
types_give_lem levels n place ty = taken_gives (types_take_lem levels n place ty)
