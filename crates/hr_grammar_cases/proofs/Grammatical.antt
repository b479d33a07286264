-- Lists that are read are lists of the grammar.
use Rattle.std.proofs.Common.{◌≡◌, ℕ, List, [], ◌∷◌, Option, Some, None, refl}
use Rattle.std.specs.List.{AllByRecursion}
use Rattle.hr_base.specs.declared.lexeme.Item.{Item}
use Rattle.hr_rules.specs.declared.block.Placed.{Placed}
use Rattle.hr_tree.specs.declared.lists.Listed.{Listed}
use Rattle.hr_tree.specs.declared.names.Operator.{Operator}
use Rattle.hr_tree.specs.Names.{operator_items}
use Rattle.hr_grammar.specs.Spelled.{Maybe}
use Rattle.hr_grammar.specs.Separated.{There, AreSeparated}
use Rattle.hr_grammar_cases.specs.Readings.{Reading, one, spelled, maybe, there, in_turn, separated}

-- what is read of one is one of the grammar
abbrev pub Are : {T : Type 0} → (T → Reading) → (T → Type 0) → Type 0
Are {T} of Is = (x : T) (ts us : List Placed) → of x ts us → Is x

pub one_are : (n : ℕ) (Is : Item → Type 0) → Are (one n Is) Is
one_are n Is item ts us r = r.0

pub spelled_are : {T : Type 0} (n : ℕ) (Is : T → Type 0) (items_of : T → List Item) → Are (spelled n Is items_of) Is
spelled_are n Is items_of x ts us r = r.0

pub maybe_is : (n : ℕ) (Is : Item → Type 0) (item : Option Item) (ts us : List Placed) → maybe (one n Is) item ts us → Maybe Is item
maybe_is n Is None ts us r = tt
maybe_is n Is (Some item) ts us r = r.0

there_is : (n : ℕ) (Is : Item → Type 0) (item : Option Item) (ts us : List Placed) → there (one n Is) item ts us → There Is item
there_is n Is None ts us r = r
there_is n Is (Some item) ts us r = r.0

pub operator_is : (n : ℕ) (Is : Operator → Type 0) (found : Option Operator) (ts us : List Placed) → there (spelled n Is operator_items) found ts us
    → (operator : Operator) × (found ≡ Some operator) × Is operator
operator_is n Is None ts us r = elim r [ ]
operator_is n Is (Some operator) ts us r = (operator, refl, r.0)

pub in_turn_are : {T : Type 0} (of : T → Reading) (Is : T → Type 0) → Are of Is → (xs : List T) (ts us : List Placed) → in_turn of xs ts us → AllByRecursion Is xs
in_turn_are of Is each [] ts us r = tt
in_turn_are of Is each (x ∷ xs) ts us r = (each x ts r.0 r.1, in_turn_are of Is each xs r.0 us r.2)

pub separated_are : {T : Type 0} (n : ℕ) (Separates : Item → Type 0) (of : T → Reading) (Is : T → Type 0) → Are of Is
    → (list : List (Listed T)) (ts us : List Placed) → separated (one n Separates) of list ts us → AreSeparated Separates Is list
separated_are n Separates of Is each [] ts us r = tt
separated_are n Separates of Is each (listed ∷ []) ts us r = (each listed.part ts us r.1, r.0)
separated_are n Separates of Is each (listed ∷ (next ∷ rest)) ts us r =
    (each listed.part ts r.0 r.1, (there_is n Separates listed.separator r.0 r.2.0 r.2.1, separated_are n Separates of Is each (next ∷ rest) r.2.0 us r.2.2))
