-- Floats are read as the rules say.
use Rattle.std.proofs.Common.{◌≡◌, ◌≤◌, ℕ, zero, suc, ◌+◌, Bool, true, false, cond, not, ◌&&◌, ◌||◌, ◌==◌, List, [], ◌∷◌, length, take, drop, refl, sym, ap, subst, ◌∙◌, true≢false, arith}
use Rattle.hr_rules.specs.Runs.{begins}
use Rattle.hr_rules.specs.Numbers.{is_decimal, is_digits, is_e, is_exponent, ends_fraction, is_fraction, ends_float, begins_exponent, begins_float}
use Rattle.hr_rules.proofs.Apart.{both, both_right}
use Rattle.hr_lexer.specs.NumberReader.{digits_len, with_more, signed_len, exponent_len, fraction_len, float_part_len, float_len}
use Rattle.hr_lexer.proofs.Longest.{Longest, some_there, agreeing, longest_behind, in_empty, none_there, digits}
use Rattle.hr_lexer.proofs.RunsRead.{one_more, no_run}

-- behind the letter of an exponent
sign_test : (b : Bool) (c : ℕ) → (c == 43 || c == 45) ≡ b → (x : List ℕ) → is_exponent (c ∷ x) ≡ cond b (is_digits is_decimal x) (is_digits is_decimal (c ∷ x))
sign_test b c e x = ap (λ z. cond z (is_digits is_decimal x) (is_digits is_decimal (c ∷ x))) e

same_fronts : (is other : List ℕ → Bool) (c : ℕ) (rest : List ℕ) → other [] ≡ is [] → ((x : List ℕ) → other (c ∷ x) ≡ is (c ∷ x)) → (m : ℕ) → other (take m (c ∷ rest)) ≡ is (take m (c ∷ rest))
same_fronts is other c rest e f zero = e
same_fronts is other c rest e f (suc m) = f (take m rest)

signed_by : (b : Bool) (c : ℕ) (rest : List ℕ) → (c == 43 || c == 45) ≡ b
    → Longest is_exponent (cond b (begins is_decimal rest) (is_decimal c)) (c ∷ rest) (cond b (with_more 1 (digits_len 10 rest)) (digits_len 10 (c ∷ rest)))
signed_by true c rest e = longest_behind (is_digits is_decimal) is_exponent (begins is_decimal rest) c rest (digits_len 10 rest) refl (sign_test true c e) (digits is_decimal rest)
signed_by false c rest e =
    agreeing (is_digits is_decimal) is_exponent (is_decimal c) (c ∷ rest) (digits_len 10 (c ∷ rest))
    (same_fronts (is_digits is_decimal) is_exponent c rest refl (sign_test false c e)) (digits is_decimal (c ∷ rest))

pub signed : (text : List ℕ) → Longest is_exponent (begins_exponent text) text (signed_len text)
signed [] = in_empty is_exponent refl
signed (c ∷ rest) = signed_by (c == 43 || c == 45) c rest refl

-- an exponent with its letter
abbrev pub has_exponent : List ℕ → Bool
has_exponent [] = false
has_exponent (c ∷ rest) = is_e c && is_exponent rest

abbrev pub starts_exponent : List ℕ → Bool
starts_exponent [] = false
starts_exponent (c ∷ rest) = is_e c && begins_exponent rest

no_letter : (c : ℕ) (rest : List ℕ) → is_e c ≡ false → (m : ℕ) → has_exponent (take m (c ∷ rest)) ≡ false
no_letter c rest e zero = refl
no_letter c rest e (suc m) = ap (λ b. b && is_exponent (take m rest)) e

exponent_part_by : (b : Bool) (c : ℕ) (rest : List ℕ) → is_e c ≡ b
    → Longest has_exponent (b && begins_exponent rest) (c ∷ rest) (cond b (with_more 1 (signed_len rest)) 0)
exponent_part_by true c rest e =
    longest_behind is_exponent has_exponent (begins_exponent rest) c rest (signed_len rest) refl (λ x. ap (λ b. b && is_exponent x) e) (signed rest)
exponent_part_by false c rest e = none_there has_exponent (c ∷ rest) (no_letter c rest e)

pub exponent : (text : List ℕ) → Longest has_exponent (starts_exponent text) text (exponent_len text)
exponent [] = in_empty has_exponent refl
exponent (c ∷ rest) = exponent_part_by (is_e c) c rest refl

-- behind a digit of a fraction: the digits that follow, and maybe an exponent
abbrev fraction_end_len : List ℕ → ℕ
fraction_end_len text = digits_len 10 text + exponent_len (drop (digits_len 10 text) text)

one_digit : (c : ℕ) (rest : List ℕ) → is_decimal c ≡ true → fraction_end_len (c ∷ rest) ≡ suc (fraction_end_len rest)
one_digit c rest e =
    let n : ℕ = digits_len 10 rest in
    let more : suc n + exponent_len (drop n rest) ≡ suc (n + exponent_len (drop n rest)) = omega arith in
    ap (λ k. k + exponent_len (drop k (c ∷ rest))) (one_more is_decimal c rest e) ∙ more

no_digit : (c : ℕ) (rest : List ℕ) → is_decimal c ≡ false → fraction_end_len (c ∷ rest) ≡ exponent_len (c ∷ rest)
no_digit c rest e =
    let same : 0 + exponent_len (c ∷ rest) ≡ exponent_len (c ∷ rest) = omega arith in
    ap (λ k. k + exponent_len (drop k (c ∷ rest))) (no_run is_decimal c rest e) ∙ same

-- what it takes ends a fraction, and no longer front does
record FractionEnd (text : List ℕ) (n : ℕ) : Type 0 where
  within : n ≤ length text
  right : ends_fraction (take n text) ≡ true
  longest : (m : ℕ) → m ≤ length text → ends_fraction (take m text) ≡ true → m ≤ n

end_test : (b : Bool) (c : ℕ) → is_decimal c ≡ b → (x : List ℕ) → ends_fraction (c ∷ x) ≡ cond b (ends_fraction x) (is_e c && is_exponent x)
end_test b c e x = ap (λ z. cond z (ends_fraction x) (is_e c && is_exponent x)) e

digit_longest : (c : ℕ) (rest : List ℕ) (n : ℕ) → is_decimal c ≡ true → FractionEnd rest n → (m : ℕ) → m ≤ suc (length rest) → ends_fraction (take m (c ∷ rest)) ≡ true → m ≤ suc n
digit_longest c rest n d end zero within e = omega arith
digit_longest c rest n d end (suc m) within e =
    let so : m ≤ n = end.longest m (omega (arith, within)) (sym (end_test true c d (take m rest)) ∙ e) in
    omega (arith, so)

digit_end : (c : ℕ) (rest : List ℕ) (n : ℕ) → is_decimal c ≡ true → FractionEnd rest n → FractionEnd (c ∷ rest) (suc n)
digit_end c rest n d end = record {
  within = let within : n ≤ length rest = end.within in omega (arith, within);
  right = end_test true c d (take n rest) ∙ end.right;
  longest = digit_longest c rest n d end;
}

letter_right : (c : ℕ) (rest : List ℕ) (n : ℕ) (some : Bool) → is_decimal c ≡ false → Longest has_exponent some (c ∷ rest) n → ends_fraction (take n (c ∷ rest)) ≡ true
letter_right c rest zero some d l = refl
letter_right c rest (suc n) some d l = end_test false c d (take n rest) ∙ l.right (l.begins ∙ ap not (some_there n))

letter_longest : (c : ℕ) (rest : List ℕ) (n : ℕ) (some : Bool) → is_decimal c ≡ false → Longest has_exponent some (c ∷ rest) n
    → (m : ℕ) → m ≤ suc (length rest) → ends_fraction (take m (c ∷ rest)) ≡ true → m ≤ n
letter_longest c rest n some d l zero within e = omega arith
letter_longest c rest n some d l (suc m) within e = (l.longest (suc m) within (sym (end_test false c d (take m rest)) ∙ e)).1

letter_end : (c : ℕ) (rest : List ℕ) (n : ℕ) (some : Bool) → is_decimal c ≡ false → Longest has_exponent some (c ∷ rest) n → FractionEnd (c ∷ rest) n
letter_end c rest n some d l = record {
  within = l.within;
  right = letter_right c rest n some d l;
  longest = letter_longest c rest n some d l;
}

fraction_end_by : (b : Bool) (c : ℕ) (rest : List ℕ) → is_decimal c ≡ b → FractionEnd rest (fraction_end_len rest) → FractionEnd (c ∷ rest) (fraction_end_len (c ∷ rest))
fraction_end_by true c rest e end = subst (FractionEnd (c ∷ rest)) (sym (one_digit c rest e)) (digit_end c rest (fraction_end_len rest) e end)
fraction_end_by false c rest e end = subst (FractionEnd (c ∷ rest)) (sym (no_digit c rest e)) (letter_end c rest (exponent_len (c ∷ rest)) (starts_exponent (c ∷ rest)) e (exponent (c ∷ rest)))

fraction_end : (text : List ℕ) → FractionEnd text (fraction_end_len text)
fraction_end [] = record { within = omega arith; right = refl; longest = λ m within e. within }
fraction_end (c ∷ rest) = fraction_end_by (is_decimal c) c rest refl (fraction_end rest)

-- behind a dot
no_fraction : (c : ℕ) (rest : List ℕ) → is_decimal c ≡ false → (m : ℕ) → is_fraction (take m (c ∷ rest)) ≡ false
no_fraction c rest e zero = refl
no_fraction c rest e (suc m) = ap (λ b. b && ends_fraction (take m rest)) e

fraction_longest : (c : ℕ) (rest : List ℕ) (n : ℕ) → is_decimal c ≡ true → FractionEnd rest n
    → (m : ℕ) → m ≤ suc (length rest) → is_fraction (take m (c ∷ rest)) ≡ true → (is_decimal c ≡ true) × (m ≤ suc n)
fraction_longest c rest n d end zero within e = absurd (true≢false (sym e))
fraction_longest c rest n d end (suc m) within e =
    let so : m ≤ n = end.longest m (omega (arith, within)) (both_right (is_decimal c) (ends_fraction (take m rest)) e) in
    (d, omega (arith, so))

some_fraction : (c : ℕ) (rest : List ℕ) (n : ℕ) → is_decimal c ≡ true → FractionEnd rest n → Longest is_fraction (is_decimal c) (c ∷ rest) (suc n)
some_fraction c rest n d end = record {
  begins = d ∙ sym (ap not (some_there n));
  within = let within : n ≤ length rest = end.within in omega (arith, within);
  right = λ e. both (is_decimal c) (ends_fraction (take n rest)) d end.right;
  longest = fraction_longest c rest n d end;
}

fraction_digit : (c : ℕ) (rest : List ℕ) → is_decimal c ≡ true → fraction_len (c ∷ rest) ≡ suc (fraction_end_len rest)
fraction_digit c rest e =
    let there : (digits_len 10 (c ∷ rest) == 0) ≡ false = ap (λ k. k == 0) (one_more is_decimal c rest e) ∙ some_there (digits_len 10 rest) in
    ap (λ b. cond b 0 (fraction_end_len (c ∷ rest))) there ∙ one_digit c rest e

fraction_none : (c : ℕ) (rest : List ℕ) → is_decimal c ≡ false → fraction_len (c ∷ rest) ≡ 0
fraction_none c rest e = ap (λ k. cond (k == 0) 0 (k + exponent_len (drop k (c ∷ rest)))) (no_run is_decimal c rest e)

fraction_by : (b : Bool) (c : ℕ) (rest : List ℕ) → is_decimal c ≡ b → Longest is_fraction (is_decimal c) (c ∷ rest) (fraction_len (c ∷ rest))
fraction_by true c rest e =
    subst (Longest is_fraction (is_decimal c) (c ∷ rest)) (sym (fraction_digit c rest e)) (some_fraction c rest (fraction_end_len rest) e (fraction_end rest))
fraction_by false c rest e =
    subst (λ b. Longest is_fraction b (c ∷ rest) (fraction_len (c ∷ rest))) (sym e)
    (subst (Longest is_fraction false (c ∷ rest)) (sym (fraction_none c rest e)) (none_there is_fraction (c ∷ rest) (no_fraction c rest e)))

pub fraction : (text : List ℕ) → Longest is_fraction (begins is_decimal text) text (fraction_len text)
fraction [] = in_empty is_fraction refl
fraction (c ∷ rest) = fraction_by (is_decimal c) c rest refl

-- what makes a float of digits: a dot and a fraction, or an exponent
abbrev pub is_float_part : List ℕ → Bool
is_float_part [] = false
is_float_part (c ∷ rest) = cond (c == 46) (is_fraction rest) (is_e c && is_exponent rest)

abbrev pub begins_float_part : List ℕ → Bool
begins_float_part [] = false
begins_float_part (c ∷ rest) = cond (c == 46) (begins is_decimal rest) (is_e c && begins_exponent rest)

dot_test : (b : Bool) (c : ℕ) → (c == 46) ≡ b → (x : List ℕ) → is_float_part (c ∷ x) ≡ cond b (is_fraction x) (is_e c && is_exponent x)
dot_test b c e x = ap (λ z. cond z (is_fraction x) (is_e c && is_exponent x)) e

float_part_by : (b : Bool) (c : ℕ) (rest : List ℕ) → (c == 46) ≡ b
    → Longest is_float_part (cond b (begins is_decimal rest) (is_e c && begins_exponent rest)) (c ∷ rest) (cond b (with_more 1 (fraction_len rest)) (exponent_len (c ∷ rest)))
float_part_by true c rest e = longest_behind is_fraction is_float_part (begins is_decimal rest) c rest (fraction_len rest) refl (dot_test true c e) (fraction rest)
float_part_by false c rest e =
    agreeing has_exponent is_float_part (is_e c && begins_exponent rest) (c ∷ rest) (exponent_len (c ∷ rest))
    (same_fronts has_exponent is_float_part c rest refl (dot_test false c e)) (exponent (c ∷ rest))

pub float_part : (text : List ℕ) → Longest is_float_part (begins_float_part text) text (float_part_len text)
float_part [] = in_empty is_float_part refl
float_part (c ∷ rest) = float_part_by (c == 46) c rest refl

-- behind the first digit of a float
more_digits : (n k : ℕ) → with_more (suc n) k ≡ with_more 1 (with_more n k)
more_digits n k = grind arith

pub float_digit : (c : ℕ) (rest : List ℕ) → is_decimal c ≡ true → float_len (c ∷ rest) ≡ with_more 1 (float_len rest)
float_digit c rest e =
    let n : ℕ = digits_len 10 rest in
    ap (λ k. with_more k (float_part_len (drop k (c ∷ rest)))) (one_more is_decimal c rest e) ∙ more_digits n (float_part_len (drop n rest))

no_more : (n : ℕ) → with_more 0 n ≡ n
no_more n = grind arith

float_no_digit : (c : ℕ) (rest : List ℕ) → is_decimal c ≡ false → float_len (c ∷ rest) ≡ float_part_len (c ∷ rest)
float_no_digit c rest e =
    ap (λ k. with_more k (float_part_len (drop k (c ∷ rest)))) (no_run is_decimal c rest e) ∙ no_more (float_part_len (c ∷ rest))

float_test : (b : Bool) (c : ℕ) → is_decimal c ≡ b → (x : List ℕ) → ends_float (c ∷ x) ≡ cond b (ends_float x) (is_float_part (c ∷ x))
float_test b c e x = ap (λ z. cond z (ends_float x) (is_float_part (c ∷ x))) e

float_by : (b : Bool) (c : ℕ) (rest : List ℕ) → is_decimal c ≡ b → Longest ends_float (begins_float rest) rest (float_len rest)
    → Longest ends_float (cond b (begins_float rest) (begins_float_part (c ∷ rest))) (c ∷ rest) (float_len (c ∷ rest))
float_by true c rest e l =
    subst (Longest ends_float (begins_float rest) (c ∷ rest)) (sym (float_digit c rest e))
    (longest_behind ends_float ends_float (begins_float rest) c rest (float_len rest) refl (float_test true c e) l)
float_by false c rest e l =
    subst (Longest ends_float (begins_float_part (c ∷ rest)) (c ∷ rest)) (sym (float_no_digit c rest e))
    (agreeing is_float_part ends_float (begins_float_part (c ∷ rest)) (c ∷ rest) (float_part_len (c ∷ rest))
    (same_fronts is_float_part ends_float c rest refl (float_test false c e)) (float_part (c ∷ rest)))

-- the longest float, where its first digit stands before the text
pub float : (text : List ℕ) → Longest ends_float (begins_float text) text (float_len text)
float [] = in_empty ends_float refl
float (c ∷ rest) = float_by (is_decimal c) c rest refl (float rest)
