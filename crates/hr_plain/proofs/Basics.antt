-- Booleans and lists.
use Rattle.std.proofs.Common.{◌≡◌, ℕ, ◌+◌, ◌<◌, Bool, true, false, ◌&&◌, if◌then◌else◌, Option, Some, None, List, [], ◌∷◌, ◌++◌, length, drop, get_or, ◌-◌, arith, refl, sym, ap, ◌∙◌, true≢false, append-nil, add-one, drop-cons}
use Rattle.std.specs.List.{flat_map, last_or, list_all, slice_get}
use Rattle.hr_plain.specs.Reading.{put_before, split_last}
use Rattle.std.proofs.lemmas.List.Folds.{list_all-append}
use Rattle.std.proofs.lemmas.Grind.{flat_map-append}

pub both_left : (a b : Bool) → (a && b) ≡ true → a ≡ true
both_left true b e = refl
both_left false b e = absurd (true≢false (sym e))

pub both_right : (a b : Bool) → (a && b) ≡ true → b ≡ true
both_right true b e = e
both_right false b e = absurd (true≢false (sym e))

pub both : {a b : Bool} → a ≡ true → b ≡ true → (a && b) ≡ true
both {a} {b} p q = ap (λ x. x && b) p ∙ q

pub and_false : (b : Bool) → (b && false) ≡ false
and_false true = refl
and_false false = refl

pub if_true : {X : Type 0} (b : Bool) (x y : X) → b ≡ true → (if b then x else y) ≡ x
if_true true x y e = refl
if_true false x y e = absurd (true≢false (sym e))

pub if_false : {X : Type 0} (b : Bool) (x y : X) → b ≡ false → (if b then x else y) ≡ y
if_false false x y e = refl
if_false true x y e = absurd (true≢false e)

abbrev pub first_or : {X : Type 0} → X → List X → X
first_or x [] = x
first_or x (y ∷ ys) = y

abbrev pub rest_of : {X : Type 0} → List X → List X
rest_of [] = []
rest_of (y ∷ ys) = ys

pub all_more : {X : Type 0} (p : X → Bool) (xs : List X) (x : X) → list_all p xs ≡ true → p x ≡ true → list_all p (xs ++ x ∷ []) ≡ true
all_more p xs x all one = list_all-append p xs (x ∷ []) ∙ both all (both one refl)

pub all_but_last : {X : Type 0} (p : X → Bool) (xs : List X) (x : X) → list_all p (xs ++ x ∷ []) ≡ true → list_all p xs ≡ true
all_but_last p xs x e = both_left (list_all p xs) (list_all p (x ∷ [])) (sym (list_all-append p xs (x ∷ [])) ∙ e)

pub all_last : {X : Type 0} (p : X → Bool) (xs : List X) (x : X) → list_all p (xs ++ x ∷ []) ≡ true → p x ≡ true
all_last p xs x e = both_left (p x) true (both_right (list_all p xs) (list_all p (x ∷ [])) (sym (list_all-append p xs (x ∷ [])) ∙ e))

pub flat_more : {X A : Type 0} (f : X → List A) (xs : List X) (x : X) → flat_map f (xs ++ x ∷ []) ≡ flat_map f xs ++ f x
flat_more f xs x = flat_map-append f xs (x ∷ []) ∙ ap (λ l. flat_map f xs ++ l) (append-nil (f x))

-- the element at a place comes before those behind it
pub at_place : {X : Type 0} (xs : List X) (place : ℕ) (x : X) → place < length xs → x ≡ get_or xs place x → drop place xs ≡ x ∷ drop (place + 1) xs
at_place xs place x within is =
    let here : drop place xs ≡ get_or xs place x ∷ drop (place + 1) xs = rw (add-one, drop-cons xs place x) refl in
    here ∙ ap (λ y. y ∷ drop (place + 1) xs) (sym is)

pub split_more : {X : Type 0} (xs : List X) (x : X) → split_last (xs ++ x ∷ []) ≡ Some (xs, x)
split_more [] x = refl
split_more (y ∷ ys) x = ap (λ o. Some (put_before y o)) (split_more ys x)

none_split : {X : Type 0} (xs : List X) → split_last xs ≡ None → xs ≡ []
none_split [] e = refl
none_split (x ∷ xs) e = absurd (cc)

split_before : {X : Type 0} (z : X) (zs ys : List X) (x : X) (o : Option (List X × X)) → split_last zs ≡ o → ((ws : List X) (l : X) → split_last zs ≡ Some (ws, l) → zs ≡ ws ++ l ∷ [])
    → Some (put_before z o) ≡ Some (ys, x) → z ∷ zs ≡ ys ++ x ∷ []
split_before z zs ys x None is ih e =
    let p : ◌≡◌ {A = List _ × _} ([], z) (ys, x) = cc in
    ap (λ l. z ∷ l) (none_split zs is) ∙ ap (λ q. q.0 ++ q.1 ∷ []) p
split_before z zs ys x (Some (ws, l)) is ih e =
    let p : ◌≡◌ {A = List _ × _} (z ∷ ws, l) (ys, x) = cc in
    ap (λ l. z ∷ l) (ih ws l is) ∙ ap (λ q. q.0 ++ q.1 ∷ []) p

pub split_is : {X : Type 0} (xs ys : List X) (x : X) → split_last xs ≡ Some (ys, x) → xs ≡ ys ++ x ∷ []
split_is [] ys x e = absurd (cc)
split_is (z ∷ zs) ys x e = split_before z zs ys x (split_last zs) refl (λ ws l is. split_is zs ws l is) e

last_at : {X : Type 0} (o : Option X) (x : X) (xs : List X) → slice_get (x ∷ xs) (length xs) ≡ last_or o (x ∷ xs)
last_at o x [] = refl
last_at o x (y ∷ ys) = last_at (Some x) y ys

-- the last one is that at the last place
pub last_get : {X : Type 0} (xs : List X) → slice_get xs (length xs - 1) ≡ last_or None xs
last_get [] = refl
last_get (x ∷ xs) = let e : length (x ∷ xs) - 1 ≡ length xs = omega arith in ap (slice_get (x ∷ xs)) e ∙ last_at None x xs
