-- What stands before a new text, by whether anything stood there and before it.
use Rattle.std.proofs.Common.{◌≡◌, ℕ, Bool, true, false, ◌==◌, List, [], ◌∷◌, length, sym, subst, true≢false, arith}
use Rattle.hr_lexer.specs.Words.{AreApart, Tells}
use Rattle.hr_plain.specs.Target.{IsParted}
use Rattle.hr_plain.specs.Target.IsParted.{first, kept, apart, put}

not_empty : (c : ℕ) (text : List ℕ) → (length (c ∷ text) == 0) ≡ true → ⊥
not_empty c text e = grind (arith, e)

-- what a test has told, by its answer
pub told_apart : (is : Bool) (before text new : List ℕ) → Tells is (AreApart before text) → is ≡ true → text ≡ new → AreApart before new
told_apart true before text new t e same = subst (AreApart before) same t
told_apart false before text new t e same = absurd (true≢false (sym e))

pub told_joined : (is : Bool) (before text new : List ℕ) → Tells is (AreApart before text) → is ≡ false → text ≡ new → ¬ (AreApart before new)
told_joined false before text new t e same = subst (λ x. ¬ (AreApart before x)) same t
told_joined true before text new t e same = absurd (true≢false e)

-- nothing stood there, and the two texts would be read as one
pub blank_put : (new before trivia : List ℕ) → (length trivia == 0) ≡ true → (length before == 0) ≡ false → ¬ (AreApart before new) → IsParted new before trivia (32 ∷ [])
blank_put new [] trivia e f n = absurd (true≢false f)
blank_put new (c ∷ before) [] e f n = put c before n
blank_put new (c ∷ before) (d ∷ trivia) e f n = absurd (not_empty d trivia e)

-- they would not
pub stays_apart : (new before trivia : List ℕ) → (length trivia == 0) ≡ true → AreApart before new → IsParted new before trivia trivia
stays_apart new before [] e a = apart before a
stays_apart new before (d ∷ trivia) e a = absurd (not_empty d trivia e)

-- nothing stands before it
pub stays_first : (new before trivia : List ℕ) → (length before == 0) ≡ true → IsParted new before trivia trivia
stays_first new [] trivia e = first trivia
stays_first new (c ∷ before) trivia e = absurd (not_empty c before e)

-- something stood there
pub stays_kept : (new before trivia : List ℕ) → (length trivia == 0) ≡ false → IsParted new before trivia trivia
stays_kept new before [] e = absurd (true≢false e)
stays_kept new before (d ∷ trivia) e = kept before d trivia
