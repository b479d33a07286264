-- The constructors that are written in brackets, by their number of arguments.
use Rattle.std.proofs.Common.{◌≡◌, ℕ, Bool, true, false, cond, ◌||◌, List, [], ◌∷◌, length, codes, Some, None, refl, sym, ap, subst, ◌∙◌}
use Rattle.std.specs.List.{list_any, AllByRecursion}
use Rattle.std.specs.Str.{bytes_eq}
use Rattle.hr_base.specs.declared.bind.Entity.{Entity}
use Rattle.hr_base.specs.declared.bind.Space.{Space}
use Rattle.hr_base.specs.declared.bind.Space.TheVariants.{Value, Constructor, TypeName}
use Rattle.hr_type.specs.declared.spell.Brackets.{Brackets}
use Rattle.hr_type.specs.declared.spell.Brackets.TheVariants.{Square, Round}
use Rattle.hr_type.specs.Spelling.{brackets_of, brackets_by, round_texts, arity_by, is_prelude_type, is_type_name}
use Rattle.hr_type_laws.proofs.Found.{same_text, both}
use Rattle.hr_type_laws.proofs.Reader.{prelude_type, round_of, text_by}

-- the text is one of the words with the property, if all have it
pub among : (P : List ℕ → Type 0) (words : List (List ℕ)) (text : List ℕ) → AllByRecursion P words → list_any (λ word. bytes_eq word text) words ≡ true → P text
among P [] text all e = absurd (cc)
among P (word ∷ words) text all e = by_test (bytes_eq word text) refl (λ there. among P words text all.1 there) e
  where
    by_test : (b : Bool) → bytes_eq word text ≡ b → (list_any (λ word. bytes_eq word text) words ≡ true → P text) → (b || list_any (λ word. bytes_eq word text) words) ≡ true → P text
    by_test true is further e = subst P (same_text word text is) all.0
    by_test false is further e = further e

abbrev IsByArity : List ℕ → Type 0
IsByArity text = text ≡ text_by round_texts (arity_by (length text) Round)

all_by_arity : AllByRecursion IsByArity round_texts
all_by_arity = (refl, (refl, (refl, (refl, (refl, (refl, (refl, (refl, (refl, (refl, (refl, (refl, (refl, (refl, (refl, tt)))))))))))))))

is_type : (s : Space) → is_type_name s ≡ true → s ≡ TypeName
is_type Value e = absurd (cc)
is_type Constructor e = absurd (cc)
is_type TypeName e = refl

is_prelude : (e : Entity) → is_prelude_type e ≡ true → e ≡ prelude_type e.text
is_prelude e is =
    let parts = both _ _ is in
    let s = is_type e.space parts.0 in
    let m = same_text e.«module» (codes "Prelude") parts.1 in
    λ k. record { «module» = m k; space = s k; text = e.text }

record Bracketed (e : Entity) (b : Brackets) : Type 0 where
  entity : e ≡ prelude_type e.text
  text : brackets_by e.text ≡ Some b

bracketed : (e : Entity) (b : Brackets) → brackets_of e ≡ Some b → Bracketed e b
unfolding brackets_of
bracketed e b is = by_test (is_prelude_type e) refl is
  where
    by_test : (t : Bool) → is_prelude_type e ≡ t → cond t (brackets_by e.text) None ≡ Some b → Bracketed e b
    by_test true here is = record { entity = is_prelude e here; text = is }
    by_test false other is = absurd (cc)

square_text : (text : List ℕ) → brackets_by text ≡ Some Square → text ≡ codes "[]"
unfolding brackets_by
square_text text is = by_test (bytes_eq text (codes "[]")) refl is
  where
    by_round : (r : Bool) → cond r (Some Round) None ≡ Some Square → text ≡ codes "[]"
    by_round true is = absurd (cc)
    by_round false is = absurd (cc)

    by_test : (t : Bool) → bytes_eq text (codes "[]") ≡ t → cond t (Some Square) (cond (list_any (λ word. bytes_eq word text) round_texts) (Some Round) None) ≡ Some Square → text ≡ codes "[]"
    by_test true here is = same_text text (codes "[]") here
    by_test false other is = by_round (list_any (λ word. bytes_eq word text) round_texts) is

round_text : (text : List ℕ) → brackets_by text ≡ Some Round → IsByArity text
unfolding brackets_by
round_text text is = by_test (bytes_eq text (codes "[]")) is
  where
    by_round : (r : Bool) → list_any (λ word. bytes_eq word text) round_texts ≡ r → cond r (Some Round) None ≡ Some Round → IsByArity text
    by_round true found is = among IsByArity round_texts text all_by_arity found
    by_round false none is = absurd (cc)

    by_test : (t : Bool) → cond t (Some Square) (cond (list_any (λ word. bytes_eq word text) round_texts) (Some Round) None) ≡ Some Round → IsByArity text
    by_test true is = absurd (cc)
    by_test false is = by_round (list_any (λ word. bytes_eq word text) round_texts) refl is

pub square_entity : (e : Entity) → brackets_of e ≡ Some Square → e ≡ prelude_type (codes "[]")
square_entity e is =
    let b = bracketed e Square is in
    b.entity ∙ ap prelude_type (square_text e.text b.text)

pub round_entity : (e : Entity) (n : ℕ) → brackets_of e ≡ Some Round → n ≡ arity_by (length e.text) Round → e ≡ round_of n
round_entity e n is count =
    let b = bracketed e Round is in
    b.entity ∙ ap prelude_type (round_text e.text b.text ∙ ap (text_by round_texts) (sym count))

-- there is no tuple of one
none_of_one : brackets_of (round_of 1) ≡ None
unfolding brackets_of brackets_by
none_of_one = refl

pub no_tuple_of_one : (e : Entity) → brackets_of e ≡ Some Round → 1 ≡ arity_by (length e.text) Round → ⊥
no_tuple_of_one e is count =
    let clash : Some Round ≡ None = sym is ∙ ap brackets_of (round_entity e 1 is count) ∙ none_of_one in
    absurd (cc)
