-- Readings that know nothing of layout, the other way round: where its items go on one behind another, a name or a
-- list is read, if it is one of the grammar.
use Rattle.std.proofs.Common.{◌≡◌, ℕ, List, [], ◌∷◌, ◌++◌, Option, Some, None, refl, sym, subst}
use Rattle.std.specs.List.{AllByRecursion, flat_map}
use Rattle.hr_base.specs.declared.lexeme.Item.{Item}
use Rattle.hr_rules.specs.declared.block.Placed.{Placed}
use Rattle.hr_tree.specs.declared.lists.Listed.{Listed}
use Rattle.hr_tree.specs.declared.names.Operator.{Operator}
use Rattle.hr_tree.specs.Names.{maybe_item, maybe_operator, operator_items}
use Rattle.hr_tree.specs.Lists.{listed_items}
use Rattle.hr_grammar.specs.Separated.{There, AreSeparated}
use Rattle.hr_grammar.specs.Spelled.{Maybe}
use Rattle.hr_grammar_cases.specs.Readings.{Reading, nothing, takes, ◌▷◌, given, one, take_all, spelled, maybe, there, in_turn, separated}
use Rattle.hr_grammar_cases.proofs.Readings.{append_assoc, alone}

-- where the items go on in the block at the column, the reading takes them
pub record Retakes (n : ℕ) (items : List Item) (reading : Reading) : Type 0 where
  pub retakes : (ts us : List Placed) → take_all n items ts us → reading ts us

pub same_retakes : {n : ℕ} {items others : List Item} {reading : Reading} → items ≡ others → Retakes n items reading → Retakes n others reading
same_retakes {n} {reading = reading} e t = subst (λ l. Retakes n l reading) e t

pub nothing_retakes : {n : ℕ} → Retakes n [] nothing
nothing_retakes {n} = record { retakes = λ ts us h. h }

-- items in two, where the first ones end
both_of : (n : ℕ) (items others : List Item) (ts us : List Placed) → take_all n (items ++ others) ts us → (vs : List Placed) × take_all n items ts vs × take_all n others vs us
both_of n [] others ts us h = (ts, refl, h)
both_of n (item ∷ items) others ts us h = let r = both_of n items others h.0 us h.2 in (r.0, (h.0, h.1, r.1), r.2)

pub then_retakes : {n : ℕ} {items others : List Item} {first second : Reading} → Retakes n items first → Retakes n others second → Retakes n (items ++ others) (first ▷ second)
then_retakes {n} {items} {others} t s = record { retakes = λ ts us h. let r = both_of n items others ts us h in (r.0, t.retakes ts r.0 r.1, s.retakes r.0 us r.2) }

pub given_retakes : {n : ℕ} {P : Type 0} {items : List Item} {reading : Reading} → P → Retakes n items reading → Retakes n items (given P reading)
given_retakes is t = record { retakes = λ ts us h. (is, t.retakes ts us h) }

pub one_retakes : (n : ℕ) (Is : Item → Type 0) (item : Item) → Is item → Retakes n (item ∷ []) (one n Is item)
one_retakes n Is item is = record { retakes = λ ts us h. (is, subst (λ l. takes n item ts l) (sym h.2) h.1) }

pub spelled_retakes : {T : Type 0} (n : ℕ) (Is : T → Type 0) (items_of : T → List Item) (x : T) → Is x → Retakes n (items_of x) (spelled n Is items_of x)
spelled_retakes n Is items_of x is = record { retakes = λ ts us h. (is, h) }

pub in_turn_retakes : {T : Type 0} {n : ℕ} (items_of : T → List Item) (of : T → Reading) (Is : T → Type 0) → ((x : T) → Is x → Retakes n (items_of x) (of x))
    → (xs : List T) → AllByRecursion Is xs → Retakes n (flat_map items_of xs) (in_turn of xs)
in_turn_retakes items_of of Is each [] are = nothing_retakes
in_turn_retakes items_of of Is each (x ∷ xs) are = then_retakes (each x are.0) (in_turn_retakes items_of of Is each xs are.1)

-- items, each by itself
pub each_one_retakes : (n : ℕ) (Is : Item → Type 0) (items : List Item) → AllByRecursion Is items → Retakes n items (in_turn (one n Is) items)
each_one_retakes n Is [] are = nothing_retakes
each_one_retakes n Is (item ∷ items) are = then_retakes (one_retakes n Is item are.0) (each_one_retakes n Is items are.1)

pub maybe_one_retakes : (n : ℕ) (Is : Item → Type 0) (item : Option Item) → Maybe Is item → Retakes n (maybe_item item) (maybe (one n Is) item)
maybe_one_retakes n Is None is = nothing_retakes
maybe_one_retakes n Is (Some item) is = one_retakes n Is item is

pub one_there_retakes : (n : ℕ) (Is : Item → Type 0) (item : Option Item) → There Is item → Retakes n (maybe_item item) (there (one n Is) item)
one_there_retakes n Is None is = elim is [ ]
one_there_retakes n Is (Some item) is = one_retakes n Is item is

pub operator_there_retakes : (n : ℕ) (Is : Operator → Type 0) (found : Option Operator) → (operator : Operator) × (found ≡ Some operator) × Is operator
    → Retakes n (maybe_operator found) (there (spelled n Is operator_items) found)
operator_there_retakes n Is None is = let e = is.1 in let no : ⊥ = cc in elim no [ ]
operator_there_retakes n Is (Some operator) is = spelled_retakes n Is operator_items operator (subst Is (sym (the_one is.1)) is.2)
  where
    the_one : {found other : Operator} → Some found ≡ Some other → found ≡ other
    the_one e = cc

pub separated_retakes : {T : Type 0} (n : ℕ) (Separates : Item → Type 0) (items_of : T → List Item) (of : T → Reading) (Is : T → Type 0) → ((x : T) → Is x → Retakes n (items_of x) (of x))
    → (list : List (Listed T)) → AreSeparated Separates Is list → Retakes n (flat_map (listed_items items_of) list) (separated (one n Separates) of list)
separated_retakes n Separates items_of of Is each [] are = nothing_retakes
separated_retakes n Separates items_of of Is each (listed ∷ []) are = same_retakes (alone items_of listed are.1) (given_retakes are.1 (each listed.part are.0))
separated_retakes n Separates items_of of Is each (listed ∷ (next ∷ rest)) are =
    same_retakes (sym (append_assoc (items_of listed.part) (maybe_item listed.separator) (flat_map (listed_items items_of) (next ∷ rest))))
    (then_retakes (each listed.part are.0)
    (then_retakes (one_there_retakes n Separates listed.separator are.1.0) (separated_retakes n Separates items_of of Is each (next ∷ rest) are.1.1)))
