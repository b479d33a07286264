-- The heads of declarations, constructions and left sides, which have no block in them.
use Rattle.std.proofs.Common.{◌≡◌, ◌≢◌, ℕ, List, [], ◌∷◌, length}
use Rattle.std.specs.List.{flat_map}
use Rattle.hr_base.specs.declared.lexeme.Class.{Class}
use Rattle.hr_tree.specs.declared.patterns.Pat.{Pat}
use Rattle.hr_tree.specs.declared.declarations.TypeHead.{TypeHead}
use Rattle.hr_tree.specs.declared.declarations.Construction.{Construction}
use Rattle.hr_tree.specs.declared.declarations.LeftSide.{LeftSide}
use Rattle.hr_tree.specs.declared.declarations.LeftHead.{LeftHead}
use Rattle.hr_tree.specs.declared.declarations.Closed.{Closed}
use Rattle.hr_tree.specs.Names.{variable_items, constructor_items, operator_items}
use Rattle.hr_tree.specs.Yields.{ty_items, pat_items, type_head_items, construction_items, left_head_items, closed_items, left_side_items}
use Rattle.hr_grammar.specs.Words.{IsOf, IsLeftParen, IsRightParen}
use Rattle.hr_grammar.specs.Spelled.{IsVariable, IsOwnConstructor, IsOwnConstructorOperator, IsOwnVariableOperator}
use Rattle.hr_grammar.specs.Nodes.{TyPlace, PatPlace}
use Rattle.hr_grammar_cases.specs.Derivations.{Derivations}
use Rattle.hr_grammar_cases.specs.Declarations.{type_head_reading, construction_reading, new_construction_reading, arguments_reading, left_head_reading, closed_reading, left_side_reading}
use Rattle.hr_grammar_cases.proofs.Taken.{Takes, AllTake, never_takes, then_takes, given_takes, one_takes, spelled_takes, in_turn_takes, each_one_takes}

pub type_head_takes : (n : ℕ) (head : TypeHead) → Takes n (type_head_items head) (type_head_reading n head)
type_head_takes n head = then_takes (one_takes n (IsOf Class.ConId) head.name) (each_one_takes n (IsOf Class.VarId) head.variables)

pub construction_takes : (below : Derivations) → AllTake below → (n : ℕ) (construction : Construction) → Takes n (construction_items construction) (construction_reading below n construction)
construction_takes below each n (Construction.Prefix constructor types) =
    then_takes (spelled_takes n IsOwnConstructor constructor_items constructor) (in_turn_takes ty_items _ (each.ty n TyPlace.Atomic) types)
construction_takes below each n (Construction.Infix first operator second) =
    then_takes (each.ty n TyPlace.Applied first) (then_takes (spelled_takes n IsOwnConstructorOperator operator_items operator) (each.ty n TyPlace.Applied second))
construction_takes below each n (Construction.Fields constructor left fields right) = never_takes

pub new_construction_takes : (below : Derivations) → AllTake below → (n : ℕ) (construction : Construction) → Takes n (construction_items construction) (new_construction_reading below n construction)
new_construction_takes below each n (Construction.Prefix constructor []) = never_takes
new_construction_takes below each n (Construction.Prefix constructor (ty ∷ [])) = construction_takes below each n (Construction.Prefix constructor (ty ∷ []))
new_construction_takes below each n (Construction.Prefix constructor (ty ∷ (next ∷ rest))) = never_takes
new_construction_takes below each n (Construction.Infix first operator second) = never_takes
new_construction_takes below each n (Construction.Fields constructor left fields right) = never_takes

arguments_take : (below : Derivations) → AllTake below → (n : ℕ) (patterns : List Pat) → Takes n (flat_map pat_items patterns) (arguments_reading below n patterns)
arguments_take below each n patterns = given_takes (patterns ≢ []) (in_turn_takes pat_items _ (each.pat n PatPlace.Atomic) patterns)

left_head_takes : (below : Derivations) → AllTake below → (n : ℕ) (head : LeftHead) → Takes n (left_head_items head) (left_head_reading below n head)
left_head_takes below each n (LeftHead.Prefix variable patterns) = then_takes (spelled_takes n IsVariable variable_items variable) (arguments_take below each n patterns)
left_head_takes below each n (LeftHead.Infix first operator second) =
    then_takes (each.pat n PatPlace.Whole first) (then_takes (spelled_takes n IsOwnVariableOperator operator_items operator) (each.pat n PatPlace.Whole second))

closed_takes : (below : Derivations) → AllTake below → (n : ℕ) (closed : Closed) → Takes n (closed_items closed) (closed_reading below n closed)
closed_takes below each n closed = then_takes (one_takes n IsRightParen closed.right) (arguments_take below each n closed.patterns)

pub left_side_takes : (below : Derivations) → AllTake below → (n : ℕ) (left : LeftSide) → Takes n (left_side_items left) (left_side_reading below n left)
left_side_takes below each n left =
    given_takes (length left.opens ≡ length left.closes)
    (then_takes (each_one_takes n IsLeftParen left.opens)
    (then_takes (left_head_takes below each n left.head) (in_turn_takes closed_items (closed_reading below n) (closed_takes below each n) left.closes)))
