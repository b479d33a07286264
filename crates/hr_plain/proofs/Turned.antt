-- Names of which one text becomes another wherever it is sought, in a list of lexemes that has the new
-- one nowhere: names that were spelled alike still are, and no others.
use Rattle.std.proofs.Common.{◌≡◌, ℕ, ◌+◌, suc, Bool, true, false, ◌&&◌, ◌||◌, nat_eq, if◌then◌else◌, Option, Some, None, List, [], ◌∷◌, ◌++◌, length, map, refl, sym, ap, ◌∙◌, subst, true≢false}
use Rattle.std.specs.List.{list_any, filter, IsDistinct, AllByRecursion as Each}
use Rattle.std.specs.Cmp.Lexicographic.{pointwise, bytes_decides}
use Rattle.hr_base.specs.declared.lexeme.Item.{Item}
use Rattle.hr_plain.specs.Scoping.{is_named, is_variable, is_variable_class}
use Rattle.hr_plain.specs.Binders.{named_from, binder_of}
use Rattle.hr_plain.specs.Form.{is_same_text, variables_in}
use Rattle.hr_plain.specs.Renaming.{is_spelled}

pub same_text : (t u : List ℕ) → pointwise nat_eq t u ≡ true → t ≡ u
same_text t u = (bytes_decides t u).0

pub is_itself : (t : List ℕ) → pointwise nat_eq t t ≡ true
is_itself t = (bytes_decides t t).1 refl

other_way : (t u : List ℕ) (b : Bool) → pointwise nat_eq t u ≡ b → pointwise nat_eq t u ≡ false → pointwise nat_eq u t ≡ false
other_way t u b e f = by (pointwise nat_eq u t) refl
  where
    by : (r : Bool) → pointwise nat_eq u t ≡ r → r ≡ false
    by true e = absurd (true≢false (sym (subst (λ v. pointwise nat_eq t v ≡ true) (sym (same_text u t e)) (is_itself t)) ∙ f))
    by false e = refl

-- two tests of which neither holds
pub neither_left : (a b : Bool) → (a || b) ≡ false → a ≡ false
neither_left true b e = e
neither_left false b e = refl

pub neither_right : (a b : Bool) → (a || b) ≡ false → b ≡ false
neither_right true b e = absurd (true≢false e)
neither_right false b e = e

pub none_left : {X : Type 0} (test : X → Bool) (xs ys : List X) → list_any test (xs ++ ys) ≡ false → list_any test xs ≡ false
none_left test [] ys e = refl
none_left test (x ∷ xs) ys e =
    ap (λ b. b || list_any test xs) (neither_left (test x) (list_any test (xs ++ ys)) e)
    ∙ none_left test xs ys (neither_right (test x) (list_any test (xs ++ ys)) e)

pub none_right : {X : Type 0} (test : X → Bool) (xs ys : List X) → list_any test (xs ++ ys) ≡ false → list_any test ys ≡ false
none_right test [] ys e = e
none_right test (x ∷ xs) ys e = none_right test xs ys (neither_right (test x) (list_any test (xs ++ ys)) e)

-- what a text becomes where it is sought
abbrev pub turned : List ℕ → List ℕ → Bool → List ℕ → List ℕ
turned new old sought text = if sought && pointwise nat_eq text old then new else text

-- an item of the target and the one that it comes from, where the name is sought or not
pub record Turns (new old : List ℕ) (sought : Bool) (x y : Item) : Type 0 where
  pub class : y.lexeme.class ≡ x.lexeme.class
  pub text : y.lexeme.text ≡ (if sought && is_named old x then new else x.lexeme.text)

-- and items one by one
abbrev pub EachTurns : List ℕ → List ℕ → Bool → List Item → List Item → Type 0
EachTurns new old sought [] [] = Unit {0}
EachTurns new old sought [] (y ∷ ys) = ⊥
EachTurns new old sought (x ∷ xs) [] = ⊥
EachTurns new old sought (x ∷ xs) (y ∷ ys) = Turns new old sought x y × EachTurns new old sought xs ys

module _ (new old : List ℕ) where
  abbrev pub IsNew : List ℕ → Bool
  IsNew text = pointwise nat_eq text new

  by_texts : (t u : List ℕ) (a b : Bool) → pointwise nat_eq t old ≡ a → pointwise nat_eq u old ≡ b → pointwise nat_eq t new ≡ false → pointwise nat_eq u new ≡ false
      → pointwise nat_eq (if a then new else t) (if b then new else u) ≡ pointwise nat_eq t u
  by_texts t u true true a b n m =
      is_itself new ∙ sym (subst (λ v. pointwise nat_eq t v ≡ true) (sym (same_text u old b)) a)
  by_texts t u true false a b n m =
      other_way u new (pointwise nat_eq u new) refl m
      ∙ sym (ap (λ v. pointwise nat_eq v u) (same_text t old a) ∙ other_way u old (pointwise nat_eq u old) refl b)
  by_texts t u false true a b n m = n ∙ sym (ap (pointwise nat_eq t) (same_text u old b) ∙ a)
  by_texts t u false false a b n m = refl

  -- texts that are not the new one are alike where they were
  pub same_turned : (sought : Bool) (t u : List ℕ) → pointwise nat_eq t new ≡ false → pointwise nat_eq u new ≡ false
      → pointwise nat_eq (turned new old sought t) (turned new old sought u) ≡ pointwise nat_eq t u
  same_turned true t u n m = by_texts t u (pointwise nat_eq t old) (pointwise nat_eq u old) refl refl n m
  same_turned false t u n m = refl

  -- a text that is not the old one stays
  pub unmoved : (sought : Bool) (t : List ℕ) → pointwise nat_eq t old ≡ false → turned new old sought t ≡ t
  unmoved true t e = ap (λ b. if b then new else t) e
  unmoved false t e = refl

  pub variable_stays : (sought : Bool) (x y : Item) → Turns new old sought x y → is_variable y ≡ is_variable x
  variable_stays sought x y r = ap is_variable_class r.class

  pub text_of_variable : (sought : Bool) (x y : Item) → Turns new old sought x y → is_variable x ≡ true → y.lexeme.text ≡ turned new old sought x.lexeme.text
  unfolding is_named
  text_of_variable sought x y r e = r.text ∙ ap (λ v. if sought && (v && pointwise nat_eq x.lexeme.text old) then new else x.lexeme.text) e

  pub text_of_unnamed : (sought : Bool) (x y : Item) → Turns new old sought x y → is_named old x ≡ false → y.lexeme.text ≡ x.lexeme.text
  text_of_unnamed true x y r e = r.text ∙ ap (λ v. if v then new else x.lexeme.text) e
  text_of_unnamed false x y r e = r.text

  -- an item is named by what the text becomes where it was named by the text
  pub named_turned : (sought : Bool) (x y : Item) → Turns new old sought x y → pointwise nat_eq x.lexeme.text new ≡ false
      → (t : List ℕ) → pointwise nat_eq t new ≡ false → is_named (turned new old sought t) y ≡ is_named t x
  unfolding is_named
  named_turned sought x y r fresh t n = by (is_variable x) refl
    where
      by : (v : Bool) → is_variable x ≡ v → (is_variable y && pointwise nat_eq y.lexeme.text (turned new old sought t)) ≡ (is_variable x && pointwise nat_eq x.lexeme.text t)
      by true e =
          ap (λ v. v && pointwise nat_eq y.lexeme.text (turned new old sought t)) (variable_stays sought x y r ∙ e)
          ∙ ap (λ z. pointwise nat_eq z (turned new old sought t)) (text_of_variable sought x y r e)
          ∙ same_turned sought x.lexeme.text t fresh n
          ∙ sym (ap (λ v. v && pointwise nat_eq x.lexeme.text t) e)
      by false e =
          ap (λ v. v && pointwise nat_eq y.lexeme.text (turned new old sought t)) (variable_stays sought x y r ∙ e)
          ∙ sym (ap (λ v. v && pointwise nat_eq x.lexeme.text t) e)

  pub named_from-turned : (sought : Bool) (xs ys : List Item) → EachTurns new old sought xs ys → is_spelled new xs ≡ false
      → (t : List ℕ) → pointwise nat_eq t new ≡ false → (n : ℕ) → named_from (turned new old sought t) n ys ≡ named_from t n xs
  named_from-turned sought [] [] r fresh t n number = refl
  named_from-turned sought [] (y ∷ ys) r fresh t n number = absurd r
  named_from-turned sought (x ∷ xs) [] r fresh t n number = absurd r
  named_from-turned sought (x ∷ xs) (y ∷ ys) r fresh t n number =
      ap (λ b. if b then Some number else named_from (turned new old sought t) (number + 1) ys)
      (named_turned sought x y r.0 (neither_left (pointwise nat_eq x.lexeme.text new) (is_spelled new xs) fresh) t n)
      ∙ ap (λ o. if is_named t x then Some number else o)
      (named_from-turned sought xs ys r.1 (neither_right (pointwise nat_eq x.lexeme.text new) (is_spelled new xs) fresh) t n (number + 1))

  pub any_named-turned : (sought : Bool) (xs ys : List Item) → EachTurns new old sought xs ys → is_spelled new xs ≡ false
      → (t : List ℕ) → pointwise nat_eq t new ≡ false → list_any (is_named (turned new old sought t)) ys ≡ list_any (is_named t) xs
  any_named-turned sought [] [] r fresh t n = refl
  any_named-turned sought [] (y ∷ ys) r fresh t n = absurd r
  any_named-turned sought (x ∷ xs) [] r fresh t n = absurd r
  any_named-turned sought (x ∷ xs) (y ∷ ys) r fresh t n =
      ap (λ b. b || list_any (is_named (turned new old sought t)) ys)
      (named_turned sought x y r.0 (neither_left (pointwise nat_eq x.lexeme.text new) (is_spelled new xs) fresh) t n)
      ∙ ap (λ b. is_named t x || b)
      (any_named-turned sought xs ys r.1 (neither_right (pointwise nat_eq x.lexeme.text new) (is_spelled new xs) fresh) t n)

  -- what has no such name turns in the same way whether it is sought or not
  pub turns_either_way : (sought other : Bool) (x y : Item) → Turns new old sought x y → is_named old x ≡ false → Turns new old other x y
  turns_either_way sought true x y r e =
      record { class = r.class; text = text_of_unnamed sought x y r e ∙ sym (ap (λ v. if v then new else x.lexeme.text) e) }
  turns_either_way sought false x y r e = record { class = r.class; text = text_of_unnamed sought x y r e }

  pub each_turns_either_way : (sought other : Bool) (xs ys : List Item) → EachTurns new old sought xs ys → list_any (is_named old) xs ≡ false → EachTurns new old other xs ys
  each_turns_either_way sought other [] [] r e = tt
  each_turns_either_way sought other [] (y ∷ ys) r e = absurd r
  each_turns_either_way sought other (x ∷ xs) [] r e = absurd r
  each_turns_either_way sought other (x ∷ xs) (y ∷ ys) r e = (
    turns_either_way sought other x y r.0 (neither_left (is_named old x) (list_any (is_named old) xs) e),
    each_turns_either_way sought other xs ys r.1 (neither_right (is_named old x) (list_any (is_named old) xs) e),
  )

  pub length_turned : (sought : Bool) (xs ys : List Item) → EachTurns new old sought xs ys → length ys ≡ length xs
  length_turned sought [] [] r = refl
  length_turned sought [] (y ∷ ys) r = absurd r
  length_turned sought (x ∷ xs) [] r = absurd r
  length_turned sought (x ∷ xs) (y ∷ ys) r = ap suc (length_turned sought xs ys r.1)

  -- an item is bound to what it was, where what binds its text binds what the text becomes
  pub binder_turned : (sought : Bool) (x y : Item) (bind bind' : List ℕ → Option ℕ) → Turns new old sought x y
      → bind' (turned new old sought x.lexeme.text) ≡ bind x.lexeme.text → binder_of bind' y ≡ binder_of bind x
  binder_turned sought x y bind bind' r e = by (is_variable x) refl
    where
      by : (v : Bool) → is_variable x ≡ v → binder_of bind' y ≡ binder_of bind x
      by true v =
          ap (λ b. if b then bind' y.lexeme.text else None) (variable_stays sought x y r ∙ v)
          ∙ ap bind' (text_of_variable sought x y r v) ∙ e
          ∙ sym (ap (λ b. if b then bind x.lexeme.text else None) v)
      by false v =
          ap (λ b. if b then bind' y.lexeme.text else None) (variable_stays sought x y r ∙ v)
          ∙ sym (ap (λ b. if b then bind x.lexeme.text else None) v)

  pub binders_turned : (sought : Bool) (xs ys : List Item) (bind bind' : List ℕ → Option ℕ) → EachTurns new old sought xs ys → is_spelled new xs ≡ false
      → ((t : List ℕ) → pointwise nat_eq t new ≡ false → bind' (turned new old sought t) ≡ bind t) → map (binder_of bind') ys ≡ map (binder_of bind) xs
  binders_turned sought [] [] bind bind' r fresh same = refl
  binders_turned sought [] (y ∷ ys) bind bind' r fresh same = absurd r
  binders_turned sought (x ∷ xs) [] bind bind' r fresh same = absurd r
  binders_turned sought (x ∷ xs) (y ∷ ys) bind bind' r fresh same =
      let here : binder_of bind' y ≡ binder_of bind x =
      binder_turned sought x y bind bind' r.0 (same x.lexeme.text (neither_left (pointwise nat_eq x.lexeme.text new) (is_spelled new xs) fresh)) in
      let there : map (binder_of bind') ys ≡ map (binder_of bind) xs =
      binders_turned sought xs ys bind bind' r.1 (neither_right (pointwise nat_eq x.lexeme.text new) (is_spelled new xs) fresh) same in
      ap (λ b. b ∷ map (binder_of bind') ys) here ∙ ap (λ l. binder_of bind x ∷ l) there

  -- the variables among items
  pub variables_turned : (sought : Bool) (xs ys : List Item) → EachTurns new old sought xs ys → variables_in ys ≡ map (turned new old sought) (variables_in xs)
  variables_turned sought [] [] r = refl
  variables_turned sought [] (y ∷ ys) r = absurd r
  variables_turned sought (x ∷ xs) [] r = absurd r
  variables_turned sought (x ∷ xs) (y ∷ ys) r = by (is_variable x) refl (variables_turned sought xs ys r.1)
    where
      by : (v : Bool) → is_variable x ≡ v → variables_in ys ≡ map (turned new old sought) (variables_in xs) → variables_in (y ∷ ys) ≡ map (turned new old sought) (variables_in (x ∷ xs))
      by true v e =
          ap (λ b. map (λ item. item.lexeme.text) (if b then y ∷ filter is_variable ys else filter is_variable ys)) (variable_stays sought x y r.0 ∙ v)
          ∙ ap (λ t. t ∷ variables_in ys) (text_of_variable sought x y r.0 v)
          ∙ ap (λ l. turned new old sought x.lexeme.text ∷ l) e
          ∙ sym (ap (λ b. map (turned new old sought) (map (λ item. item.lexeme.text) (if b then x ∷ filter is_variable xs else filter is_variable xs))) v)
      by false v e =
          ap (λ b. map (λ item. item.lexeme.text) (if b then y ∷ filter is_variable ys else filter is_variable ys)) (variable_stays sought x y r.0 ∙ v)
          ∙ e
          ∙ sym (ap (λ b. map (turned new old sought) (map (λ item. item.lexeme.text) (if b then x ∷ filter is_variable xs else filter is_variable xs))) v)

  pub fresh_variables : (xs : List Item) → is_spelled new xs ≡ false → list_any (λ t. pointwise nat_eq t new) (variables_in xs) ≡ false
  fresh_variables [] fresh = refl
  fresh_variables (x ∷ xs) fresh =
      by (is_variable x) refl (neither_left (pointwise nat_eq x.lexeme.text new) (is_spelled new xs) fresh)
      (fresh_variables xs (neither_right (pointwise nat_eq x.lexeme.text new) (is_spelled new xs) fresh))
    where
      by : (v : Bool) → is_variable x ≡ v → pointwise nat_eq x.lexeme.text new ≡ false → list_any (λ t. pointwise nat_eq t new) (variables_in xs) ≡ false
          → list_any (λ t. pointwise nat_eq t new) (variables_in (x ∷ xs)) ≡ false
      by true v h e =
          ap (λ b. list_any (λ t. pointwise nat_eq t new) (map (λ item. item.lexeme.text) (if b then x ∷ filter is_variable xs else filter is_variable xs))) v
          ∙ ap (λ b. b || list_any (λ t. pointwise nat_eq t new) (variables_in xs)) h ∙ e
      by false v h e =
          ap (λ b. list_any (λ t. pointwise nat_eq t new) (map (λ item. item.lexeme.text) (if b then x ∷ filter is_variable xs else filter is_variable xs))) v ∙ e

  -- distinct texts stay so
  apart_turned : (sought : Bool) (t : List ℕ) (us : List (List ℕ)) → pointwise nat_eq t new ≡ false → list_any (λ t. pointwise nat_eq t new) us ≡ false
      → Each (λ u. is_same_text t u ≡ false) us → Each (λ u. is_same_text (turned new old sought t) u ≡ false) (map (turned new old sought) us)
  apart_turned sought t [] n fresh e = tt
  apart_turned sought t (u ∷ us) n fresh e = (
    same_turned sought t u n (neither_left (pointwise nat_eq u new) (list_any (λ t. pointwise nat_eq t new) us) fresh) ∙ e.0,
    apart_turned sought t us n (neither_right (pointwise nat_eq u new) (list_any (λ t. pointwise nat_eq t new) us) fresh) e.1,
  )

  pub distinct_turned : (sought : Bool) (ts : List (List ℕ)) → list_any (λ t. pointwise nat_eq t new) ts ≡ false
      → IsDistinct is_same_text ts → IsDistinct is_same_text (map (turned new old sought) ts)
  unfolding IsDistinct
  distinct_turned sought [] fresh d = tt
  distinct_turned sought (t ∷ ts) fresh d = (
    apart_turned sought t ts (neither_left (pointwise nat_eq t new) (list_any (λ t. pointwise nat_eq t new) ts) fresh)
        (neither_right (pointwise nat_eq t new) (list_any (λ t. pointwise nat_eq t new) ts) fresh) d.0,
    distinct_turned sought ts (neither_right (pointwise nat_eq t new) (list_any (λ t. pointwise nat_eq t new) ts) fresh) d.1,
  )

  -- and a text is among texts where it was
  pub among_turned : (sought : Bool) (t : List ℕ) (us : List (List ℕ)) → pointwise nat_eq t new ≡ false → list_any (λ t. pointwise nat_eq t new) us ≡ false
      → list_any (is_same_text (turned new old sought t)) (map (turned new old sought) us) ≡ list_any (is_same_text t) us
  among_turned sought t [] n fresh = refl
  among_turned sought t (u ∷ us) n fresh =
      ap (λ b. b || list_any (is_same_text (turned new old sought t)) (map (turned new old sought) us))
      (same_turned sought t u n (neither_left (pointwise nat_eq u new) (list_any (λ t. pointwise nat_eq t new) us) fresh))
      ∙ ap (λ b. is_same_text t u || b) (among_turned sought t us n (neither_right (pointwise nat_eq u new) (list_any (λ t. pointwise nat_eq t new) us) fresh))
