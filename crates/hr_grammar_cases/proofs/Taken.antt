-- Readings that know nothing of layout: of names, types, patterns and what stands in a module's head. Each of their
-- items goes on in the nearest block.
use Rattle.std.proofs.Common.{◌≡◌, ℕ, List, [], ◌∷◌, ◌++◌, Option, Some, None, refl, sym, ap, ◌∙◌, subst}
use Rattle.std.specs.List.{flat_map}
use Rattle.hr_base.specs.declared.lexeme.Item.{Item}
use Rattle.hr_rules.specs.declared.block.Placed.{Placed}
use Rattle.hr_tree.specs.declared.types.Ty.{Ty}
use Rattle.hr_tree.specs.declared.patterns.Pat.{Pat}
use Rattle.hr_tree.specs.declared.lists.Listed.{Listed}
use Rattle.hr_tree.specs.declared.lists.Operand.{Operand}
use Rattle.hr_tree.specs.declared.names.Operator.{Operator}
use Rattle.hr_tree.specs.Names.{maybe_item, maybe_operator, operator_items}
use Rattle.hr_tree.specs.Lists.{listed_items}
use Rattle.hr_tree.specs.Yields.{ty_items, pat_items}
use Rattle.hr_grammar.specs.Nodes.{TyPlace, PatPlace}
use Rattle.hr_grammar_cases.specs.Readings.{Reading, never, nothing, ◌▷◌, given, one, take_all, spelled, maybe, there, in_turn, separated}
use Rattle.hr_grammar_cases.specs.Derivations.{Derivations}
use Rattle.hr_grammar_cases.specs.Laws.{Gives}
use Rattle.hr_grammar_cases.proofs.Readings.{append_assoc, append_nothing, take_all_gives, alone}

-- a reading takes the items, one behind another, in the block at the column
pub record Takes (n : ℕ) (items : List Item) (reading : Reading) : Type 0 where
  pub takes_all : (ts us : List Placed) → reading ts us → take_all n items ts us

-- the types and patterns that are read one level below take their own items
pub record AllTake (below : Derivations) : Type 0 where
  pub ty : (n : ℕ) (place : TyPlace) (ty : Ty) → Takes n (ty_items ty) (below.ty n place ty)
  pub pat : (n : ℕ) (place : PatPlace) (pat : Pat) → Takes n (pat_items pat) (below.pat n place pat)

pub taken_gives : {n : ℕ} {items : List Item} {reading : Reading} → Takes n items reading → Gives items reading
taken_gives {n} {items} t = record {
  gives = λ ts us r. (take_all_gives n items).gives ts us (t.takes_all ts us r);
  leaves = λ ts us r. (take_all_gives n items).leaves ts us (t.takes_all ts us r);
}

pub same_takes : {n : ℕ} {items others : List Item} {reading : Reading} → items ≡ others → Takes n items reading → Takes n others reading
same_takes {n} {reading = reading} e t = subst (λ l. Takes n l reading) e t

pub never_takes : {n : ℕ} {items : List Item} → Takes n items never
never_takes {n} {items} = record { takes_all = λ ts us h. elim h [ ] }

pub nothing_takes : {n : ℕ} → Takes n [] nothing
nothing_takes {n} = record { takes_all = λ ts us h. h }

both_taken : (n : ℕ) (items others : List Item) (ts vs us : List Placed) → take_all n items ts vs → take_all n others vs us → take_all n (items ++ others) ts us
both_taken n [] others ts vs us h k = subst (λ l. take_all n others l us) h k
both_taken n (item ∷ items) others ts vs us h k = (h.0, h.1, both_taken n items others h.0 vs us h.2 k)

pub then_takes : {n : ℕ} {items others : List Item} {first second : Reading} → Takes n items first → Takes n others second → Takes n (items ++ others) (first ▷ second)
then_takes {n} {items} {others} t s = record { takes_all = λ ts us r. both_taken n items others ts r.0 us (t.takes_all ts r.0 r.1) (s.takes_all r.0 us r.2) }

pub given_takes : {n : ℕ} (P : Type 0) {items : List Item} {reading : Reading} → Takes n items reading → Takes n items (given P reading)
given_takes P t = record { takes_all = λ ts us r. t.takes_all ts us r.1 }

-- where the condition says that the items are others
pub taken_same : {n : ℕ} (P : Type 0) {items others : List Item} {reading : Reading} → (P → items ≡ others) → Takes n items reading → Takes n others (given P reading)
taken_same {n} P same t = record { takes_all = λ ts us r. subst (λ l. take_all n l ts us) (same r.0) (t.takes_all ts us r.1) }

pub one_takes : (n : ℕ) (Is : Item → Type 0) (item : Item) → Takes n (item ∷ []) (one n Is item)
one_takes n Is item = record { takes_all = λ ts us r. (us, r.1, refl) }

pub spelled_takes : {T : Type 0} (n : ℕ) (Is : T → Type 0) (items_of : T → List Item) (x : T) → Takes n (items_of x) (spelled n Is items_of x)
spelled_takes n Is items_of x = record { takes_all = λ ts us r. r.1 }

pub in_turn_takes : {T : Type 0} {n : ℕ} (items_of : T → List Item) (of : T → Reading) → ((x : T) → Takes n (items_of x) (of x)) → (xs : List T) → Takes n (flat_map items_of xs) (in_turn of xs)
in_turn_takes items_of of each [] = nothing_takes
in_turn_takes items_of of each (x ∷ xs) = then_takes (each x) (in_turn_takes items_of of each xs)

-- items, each by itself
pub each_one_takes : (n : ℕ) (Is : Item → Type 0) (items : List Item) → Takes n items (in_turn (one n Is) items)
each_one_takes n Is [] = nothing_takes
each_one_takes n Is (item ∷ items) = then_takes (one_takes n Is item) (each_one_takes n Is items)

pub maybe_one_takes : (n : ℕ) (Is : Item → Type 0) (item : Option Item) → Takes n (maybe_item item) (maybe (one n Is) item)
maybe_one_takes n Is None = nothing_takes
maybe_one_takes n Is (Some item) = one_takes n Is item

pub one_there_takes : (n : ℕ) (Is : Item → Type 0) (item : Option Item) → Takes n (maybe_item item) (there (one n Is) item)
one_there_takes n Is None = never_takes
one_there_takes n Is (Some item) = one_takes n Is item

pub operator_there_takes : (n : ℕ) (Is : Operator → Type 0) (operator : Option Operator) → Takes n (maybe_operator operator) (there (spelled n Is operator_items) operator)
operator_there_takes n Is None = never_takes
operator_there_takes n Is (Some operator) = spelled_takes n Is operator_items operator

pub separated_takes : {T : Type 0} (n : ℕ) (Is : Item → Type 0) (items_of : T → List Item) (of : T → Reading) → ((x : T) → Takes n (items_of x) (of x))
    → (list : List (Listed T)) → Takes n (flat_map (listed_items items_of) list) (separated (one n Is) of list)
separated_takes n Is items_of of each [] = nothing_takes
separated_takes n Is items_of of each (listed ∷ []) = taken_same (listed.separator ≡ None) (alone items_of listed) (each listed.part)
separated_takes n Is items_of of each (listed ∷ (next ∷ rest)) =
    same_takes (sym (append_assoc (items_of listed.part) (maybe_item listed.separator) (flat_map (listed_items items_of) (next ∷ rest))))
    (then_takes (each listed.part) (then_takes (one_there_takes n Is listed.separator) (separated_takes n Is items_of of each (next ∷ rest))))

-- an operand that an operator follows, with no minus before it or with one that was read
pub operand_takes : {n : ℕ} {T : Type 0} {rest : List Item} {part operator behind : Reading} (items_of : T → List Item) (operand : Operand T) → Takes n (items_of operand.part) part
    → Takes n (maybe_operator operand.operator) operator → Takes n rest behind → Takes n ((items_of operand.part ++ maybe_operator operand.operator) ++ rest) (part ▷ operator ▷ behind)
operand_takes {rest = rest} items_of operand g h k =
    same_takes (sym (append_assoc (items_of operand.part) (maybe_operator operand.operator) rest)) (then_takes g (then_takes h k))

-- the last operand
pub last_operand : {T : Type 0} (items_of : T → List Item) (operand : Operand T) → operand.operator ≡ None
    → items_of operand.part ≡ (items_of operand.part ++ maybe_operator operand.operator) ++ []
last_operand items_of operand e =
    sym (append_nothing (items_of operand.part)) ∙ sym (ap (λ o. items_of operand.part ++ maybe_operator o) e)
    ∙ sym (append_nothing (items_of operand.part ++ maybe_operator operand.operator))
