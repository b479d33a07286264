-- Items that are told to be one are one.
use Rattle.std.proofs.Common.{◌≡◌, ◌∙◌, ℕ, Bool, true, false, true≢false, ◌&&◌, ◌==◌, List, [], ◌∷◌, ap, sym, refl, if◌then◌else◌}
use Rattle.std.specs.Prelude.{nat_eq}
use Rattle.std.specs.Cmp.Lexicographic.{pointwise}
use Rattle.std.proofs.lemmas.Bool.{eqb-true}
use Rattle.std.proofs.lemmas.Slice.Eq.{bytes_eq-Decides}
use Rattle.hr_base.specs.declared.lexeme.Class.{Class}
use Rattle.hr_base.specs.declared.lexeme.Item.{Item}
use Rattle.hr_base.specs.declared.lexeme.Items.{Items}
use Rattle.hr_base.specs.declared.lexeme.Lexeme.{Lexeme}
use Rattle.hr_draft.specs.Same.{class_number, same_lexeme}
use Rattle.hr_rules.proofs.Apart.{both_left, both_right}
use Rattle.hr_tree_items.specs.Same.{same_item, same_items}

same_text : (a b : List ℕ) → pointwise nat_eq a b ≡ true → a ≡ b
same_text a b e = (bytes_eq-Decides a b).0 e

-- the class of a number
abbrev class_of : ℕ → Class
class_of n =
    if n == 0 then Class.VarId else if n == 1 then Class.ConId else if n == 2 then Class.QVarId else if n == 3 then Class.QConId
    else if n == 4 then Class.VarSym else if n == 5 then Class.ConSym else if n == 6 then Class.QVarSym else if n == 7 then Class.QConSym
    else if n == 8 then Class.Integer else if n == 9 then Class.Float else if n == 10 then Class.Char else if n == 11 then Class.Str
    else if n == 12 then Class.ReservedId else if n == 13 then Class.ReservedOp else Class.Special

numbered : (c : Class) → class_of (class_number c) ≡ c
numbered Class.VarId = refl
numbered Class.ConId = refl
numbered Class.QVarId = refl
numbered Class.QConId = refl
numbered Class.VarSym = refl
numbered Class.ConSym = refl
numbered Class.QVarSym = refl
numbered Class.QConSym = refl
numbered Class.Integer = refl
numbered Class.Float = refl
numbered Class.Char = refl
numbered Class.Str = refl
numbered Class.ReservedId = refl
numbered Class.ReservedOp = refl
numbered Class.Special = refl

same_class : (a b : Class) → (class_number a == class_number b) ≡ true → a ≡ b
same_class a b e = sym (numbered a) ∙ ap class_of (eqb-true (class_number a) (class_number b) e) ∙ numbered b

lexeme_is : (a b : Lexeme) → same_lexeme a b ≡ true → a ≡ b
lexeme_is a b e =
    let class : a.class ≡ b.class = same_class a.class b.class (both_left (class_number a.class == class_number b.class) (pointwise nat_eq a.text b.text) e) in
    let text : a.text ≡ b.text = same_text a.text b.text (both_right (class_number a.class == class_number b.class) (pointwise nat_eq a.text b.text) e) in
    λ k. record { class = class k; text = text k }

item_is : (a b : Item) → same_item a b ≡ true → a ≡ b
item_is a b e =
    let trivia : a.trivia ≡ b.trivia = same_text a.trivia b.trivia (both_left (pointwise nat_eq a.trivia b.trivia) (same_lexeme a.lexeme b.lexeme) e) in
    let lexeme : a.lexeme ≡ b.lexeme = lexeme_is a.lexeme b.lexeme (both_right (pointwise nat_eq a.trivia b.trivia) (same_lexeme a.lexeme b.lexeme) e) in
    λ k. record { trivia = trivia k; lexeme = lexeme k }

if_left : (a b : Bool) → (if a then b else false) ≡ true → a ≡ true
if_left true b e = refl
if_left false b e = absurd (true≢false (sym e))

if_right : (a b : Bool) → (if a then b else false) ≡ true → b ≡ true
if_right true b e = e
if_right false b e = absurd (true≢false (sym e))

pub items_are : (xs ys : List Item) → same_items xs ys ≡ true → xs ≡ ys
items_are [] [] e = refl
items_are [] (y ∷ ys) e = absurd (true≢false (sym e))
items_are (x ∷ xs) [] e = absurd (true≢false (sym e))
items_are (x ∷ xs) (y ∷ ys) e =
    let here : x ≡ y = item_is x y (if_left (same_item x y) (same_items xs ys) e) in
    let behind : xs ≡ ys = items_are xs ys (if_right (same_item x y) (same_items xs ys) e) in
    λ k. here k ∷ behind k

pub all_is : (a b : Items) → same_items a.list b.list ≡ true → pointwise nat_eq a.tail b.tail ≡ true → a ≡ b
all_is a b list tail =
    let list_is : a.list ≡ b.list = items_are a.list b.list list in
    let tail_is : a.tail ≡ b.tail = same_text a.tail b.tail tail in
    λ k. record { list = list_is k; tail = tail_is k }
