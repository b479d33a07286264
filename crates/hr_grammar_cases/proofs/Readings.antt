-- What readings take.
use Rattle.std.proofs.Common.{◌≡◌, ℕ, zero, suc, Bool, List, [], ◌∷◌, ◌++◌, length, drop, Option, Some, None, refl, sym, ap, ap₂, ◌∙◌, subst, inl, inr}
use Rattle.std.specs.List.{flat_map}
use Rattle.hr_base.specs.declared.lexeme.Ending.{Ending}
use Rattle.hr_base.specs.declared.lexeme.Item.{Item}
use Rattle.hr_rules.specs.declared.block.Placed.{Placed}
use Rattle.hr_rules.specs.Blocks.{mark}
use Rattle.hr_tree.specs.declared.lists.Listed.{Listed}
use Rattle.hr_tree.specs.declared.names.Operator.{Operator}
use Rattle.hr_tree.specs.Names.{maybe_item, maybe_operator, operator_items}
use Rattle.hr_tree.specs.Lists.{listed_items}
use Rattle.hr_grammar_cases.specs.Readings.{Reading, never, nothing, takes, ◌▷◌, given, one, take_all, spelled, maybe, there, in_turn, separated, inside, ends_as}
use Rattle.hr_grammar_cases.specs.Laws.{items_left, AreLeft, Gives}

pub append_assoc : {A : Type 0} (xs ys zs : List A) → (xs ++ ys) ++ zs ≡ xs ++ (ys ++ zs)
append_assoc [] ys zs = refl
append_assoc (x ∷ xs) ys zs = ap (λ l. x ∷ l) (append_assoc xs ys zs)

pub append_nothing : {A : Type 0} (xs : List A) → xs ++ [] ≡ xs
append_nothing [] = refl
append_nothing (x ∷ xs) = ap (λ l. x ∷ l) (append_nothing xs)

pub same_gives : {items others : List Item} {reading : Reading} → items ≡ others → Gives items reading → Gives others reading
same_gives {reading = reading} e g = subst (λ l. Gives l reading) e g

pub never_gives : {items : List Item} → Gives items never
never_gives {items} = record { gives = λ ts us h. elim h [ ]; leaves = λ ts us h. elim h [ ] }

pub nothing_gives : Gives [] nothing
nothing_gives = record { gives = λ ts us h. ap items_left (sym h); leaves = λ ts us h. inl h }

takes_items : (n : ℕ) (item : Item) (ts us : List Placed) → takes n item ts us → items_left ts ≡ (item ∷ []) ++ items_left us
takes_items n item [] us h = elim h [ ]
takes_items n item (next ∷ ts) us h = ap₂ (λ (i : Item) (l : List Placed). i ∷ items_left l) h.1 (sym h.2)

takes_leaves : (n : ℕ) (item : Item) (ts us : List Placed) → takes n item ts us → AreLeft us (drop 1 ts)
takes_leaves n item [] us h = elim h [ ]
takes_leaves n item (next ∷ ts) us h = inl h.2

pub takes_gives : (n : ℕ) (item : Item) → Gives (item ∷ []) (takes n item)
takes_gives n item = record { gives = takes_items n item; leaves = takes_leaves n item }

abbrev no_placed : List Placed
no_placed = []

none_dropped : (n : ℕ) → drop n no_placed ≡ []
none_dropped zero = refl
none_dropped (suc n) = refl

drop_both : (items others : List Item) (ts : List Placed) → drop (length (items ++ others)) ts ≡ drop (length others) (drop (length items) ts)
drop_both [] others ts = refl
drop_both (item ∷ items) others [] = sym (none_dropped (length others))
drop_both (item ∷ items) others (next ∷ ts) = drop_both items others ts

marked_twice : (first second : Bool) (ts : List Placed) → mark first (mark second ts) ≡ mark first ts
marked_twice first second [] = refl
marked_twice first second (next ∷ ts) = refl

mark_dropped : (n : ℕ) (first : Bool) (ts : List Placed) → drop (suc n) (mark first ts) ≡ drop (suc n) ts
mark_dropped n first [] = refl
mark_dropped n first (next ∷ ts) = refl

left_marked : (n : ℕ) (us : List Placed) (first : Bool) (ws : List Placed) → AreLeft us (drop n (mark first ws)) → AreLeft us (drop n ws)
left_marked zero us first ws (inl e) = inr (first, e)
left_marked zero us first ws (inr e) = inr (e.0, e.1 ∙ marked_twice e.0 first ws)
left_marked (suc n) us first ws e = subst (AreLeft us) (mark_dropped n first ws) e

left_then : (n : ℕ) (us vs ws : List Placed) → AreLeft us (drop n vs) → AreLeft vs ws → AreLeft us (drop n ws)
left_then n us vs ws e (inl f) = subst (λ l. AreLeft us (drop n l)) f e
left_then n us vs ws e (inr f) = left_marked n us f.0 ws (subst (λ l. AreLeft us (drop n l)) f.1 e)

pub then_gives : {items others : List Item} {first second : Reading} → Gives items first → Gives others second → Gives (items ++ others) (first ▷ second)
then_gives {items} {others} g h = record {
  gives = λ ts us r. g.gives ts r.0 r.1 ∙ ap (λ l. items ++ l) (h.gives r.0 us r.2) ∙ sym (append_assoc items others (items_left us));
  leaves = λ ts us r. subst (AreLeft us) (sym (drop_both items others ts)) (left_then (length others) us r.0 (drop (length items) ts) (h.leaves r.0 us r.2) (g.leaves ts r.0 r.1));
}

pub given_gives : (P : Type 0) {items : List Item} {reading : Reading} → Gives items reading → Gives items (given P reading)
given_gives P g = record { gives = λ ts us r. g.gives ts us r.1; leaves = λ ts us r. g.leaves ts us r.1 }

-- where the condition says that the items are others
pub given_same : (P : Type 0) {items others : List Item} {reading : Reading} → (P → items ≡ others) → Gives items reading → Gives others (given P reading)
given_same P same g = record {
  gives = λ ts us r. g.gives ts us r.1 ∙ ap (λ l. l ++ items_left us) (same r.0);
  leaves = λ ts us r. subst (λ l. AreLeft us (drop (length l) ts)) (same r.0) (g.leaves ts us r.1);
}

pub one_gives : (n : ℕ) (Is : Item → Type 0) (item : Item) → Gives (item ∷ []) (one n Is item)
one_gives n Is item = given_gives (Is item) (takes_gives n item)

pub take_all_gives : (n : ℕ) (items : List Item) → Gives items (take_all n items)
take_all_gives n [] = nothing_gives
take_all_gives n (item ∷ items) = then_gives (takes_gives n item) (take_all_gives n items)

pub spelled_gives : {T : Type 0} (n : ℕ) (Is : T → Type 0) (items_of : T → List Item) (x : T) → Gives (items_of x) (spelled n Is items_of x)
spelled_gives n Is items_of x = given_gives (Is x) (take_all_gives n (items_of x))

pub in_turn_gives : {T : Type 0} (items_of : T → List Item) (of : T → Reading) → ((x : T) → Gives (items_of x) (of x)) → (xs : List T) → Gives (flat_map items_of xs) (in_turn of xs)
in_turn_gives items_of of each [] = nothing_gives
in_turn_gives items_of of each (x ∷ xs) = then_gives (each x) (in_turn_gives items_of of each xs)

pub maybe_one_gives : (n : ℕ) (Is : Item → Type 0) (item : Option Item) → Gives (maybe_item item) (maybe (one n Is) item)
maybe_one_gives n Is None = nothing_gives
maybe_one_gives n Is (Some item) = one_gives n Is item

pub one_there_gives : (n : ℕ) (Is : Item → Type 0) (item : Option Item) → Gives (maybe_item item) (there (one n Is) item)
one_there_gives n Is None = never_gives
one_there_gives n Is (Some item) = one_gives n Is item

pub operator_there_gives : (n : ℕ) (Is : Operator → Type 0) (operator : Option Operator) → Gives (maybe_operator operator) (there (spelled n Is operator_items) operator)
operator_there_gives n Is None = never_gives
operator_there_gives n Is (Some operator) = spelled_gives n Is operator_items operator

-- a last part, behind which no separator stands
pub alone : {T : Type 0} (items_of : T → List Item) (listed : Listed T) → listed.separator ≡ None → items_of listed.part ≡ (items_of listed.part ++ maybe_item listed.separator) ++ []
alone items_of listed e =
    sym (append_nothing (items_of listed.part)) ∙ sym (ap (λ s. items_of listed.part ++ maybe_item s) e) ∙ sym (append_nothing (items_of listed.part ++ maybe_item listed.separator))

pub separated_gives : {T : Type 0} (n : ℕ) (Is : Item → Type 0) (items_of : T → List Item) (of : T → Reading) → ((x : T) → Gives (items_of x) (of x))
    → (list : List (Listed T)) → Gives (flat_map (listed_items items_of) list) (separated (one n Is) of list)
separated_gives n Is items_of of each [] = nothing_gives
separated_gives n Is items_of of each (listed ∷ []) = given_same (listed.separator ≡ None) (alone items_of listed) (each listed.part)
separated_gives n Is items_of of each (listed ∷ (next ∷ rest)) =
    same_gives (sym (append_assoc (items_of listed.part) (maybe_item listed.separator) (flat_map (listed_items items_of) (next ∷ rest))))
    (then_gives (each listed.part) (then_gives (one_there_gives n Is listed.separator) (separated_gives n Is items_of of each (next ∷ rest))))

pub inside_gives : {items : List Item} {reading : Ending → Reading} → ((ending : Ending) → Gives items (reading ending)) → Gives items (inside reading)
inside_gives g = record { gives = λ ts us r. (g r.0).gives ts us r.1; leaves = λ ts us r. (g r.0).leaves ts us r.1 }

pub ends_as_gives : {items : List Item} (turn : Ending → Ending) {reading : Ending → Reading} → ((ending : Ending) → Gives items (reading ending)) → (ending : Ending) → Gives items (ends_as turn reading ending)
ends_as_gives turn g ending = record { gives = λ ts us r. (g r.0).gives ts us r.2; leaves = λ ts us r. (g r.0).leaves ts us r.2 }
