-- Texts that are one of the words of a table, or none of them; and tests that are joined.
use Rattle.std.proofs.Common.{◌≡◌, ◌⊎◌, ℕ, ◌==◌, ◌&&◌, ◌||◌, Bool, true, false, List, [], ◌∷◌, length, refl, sym, ap, ap₂, ◌∙◌, inl, inr, ⊎_elim, arith, true≢false}
use Rattle.std.specs.List.{AllByRecursion}
use Rattle.std.proofs.lemmas.Bool.{eqb-true}
use Rattle.hr_rules.specs.Names.{is_one_of, is_spelled}
use Rattle.hr_rules.specs.Runs.{begins_word}

pub both_true : (a b : Bool) → (a && b) ≡ true → (a ≡ true) × (b ≡ true)
both_true true true e = (refl, refl)
both_true true false e = let no : ⊥ = cc in elim no [ ]
both_true false b e = let no : ⊥ = cc in elim no [ ]

-- a text that is spelled as a word is the word
begun_is : (word text : List ℕ) → length text ≡ length word → begins_word word text ≡ true → text ≡ word
begun_is [] [] l b = refl
begun_is [] (c ∷ text) l b = let no : ⊥ = omega (arith, l) in elim no [ ]
begun_is (w ∷ word) [] l b = let no : ⊥ = omega (arith, l) in elim no [ ]
begun_is (w ∷ word) (c ∷ text) l b =
    let both = both_true (c == w) (begins_word word text) b in let r : length text ≡ length word = omega (arith, l) in ap₂ (λ x xs. x ∷ xs) (eqb-true c w both.0) (begun_is word text r both.1)

pub spelled_is : (word text : List ℕ) → is_spelled word text ≡ true → text ≡ word
spelled_is word text s = let both = both_true (length text == length word) (begins_word word text) s in begun_is word text (eqb-true (length text) (length word) both.0) both.1

pub either_true : (a b : Bool) → (a || b) ≡ true → (a ≡ true) ⊎ (b ≡ true)
either_true true b e = inl refl
either_true false b e = inr e

pub left_false : (a b : Bool) → (a || b) ≡ false → a ≡ false
left_false true b e = e
left_false false b e = refl

pub right_false : (a b : Bool) → (a || b) ≡ false → b ≡ false
right_false true b e = let no : ⊥ = cc in elim no [ ]
right_false false b e = e

-- a text that is none of the words is not any of them
pub none_of : (table : List (List ℕ)) (text : List ℕ) → is_one_of table text ≡ false → AllByRecursion (λ word. is_spelled word text ≡ false) table
none_of [] text e = tt
none_of (word ∷ table) text e =
    (left_false (is_spelled word text) (is_one_of table text) e, none_of table text (right_false (is_spelled word text) (is_one_of table text) e))

-- what is the same of each word of a table is so of a text that is one of them
pub one_of : {T : Type 0} (f : List ℕ → T) (value : T) (table : List (List ℕ)) (text : List ℕ) → AllByRecursion (λ word. f word ≡ value) table → is_one_of table text ≡ true → f text ≡ value
one_of f value [] text all e = let no : ⊥ = cc in elim no [ ]
one_of f value (word ∷ table) text all e =
    ⊎_elim (λ s. ap f (spelled_is word text s) ∙ all.0) (λ s. one_of f value table text all.1 s) (either_true (is_spelled word text) (is_one_of table text) e)

-- a text that is none of the words of a table is none of those of a part of it
pub none_among : (words table : List (List ℕ)) (text : List ℕ) → AllByRecursion (λ word. is_one_of table word ≡ true) words → is_one_of table text ≡ false → is_one_of words text ≡ false
none_among [] table text all e = refl
none_among (word ∷ words) table text all e = by (none_among words table text all.1 e) (is_spelled word text) refl
  where
    by : is_one_of words text ≡ false → (b : Bool) → is_spelled word text ≡ b → is_one_of (word ∷ words) text ≡ false
    by rest true s = let no : ⊥ = true≢false (sym all.0 ∙ ap (is_one_of table) (sym (spelled_is word text s)) ∙ e) in elim no [ ]
    by rest false s = ap (λ b. b || is_one_of words text) s ∙ rest
