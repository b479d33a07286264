-- Integers are read as the rules say.
use Rattle.std.proofs.Common.{◌≡◌, ◌≤◌, ℕ, zero, suc, ◌+◌, Bool, true, false, cond, not, ◌&&◌, ◌||◌, ◌==◌, List, [], ◌∷◌, length, take, drop, Option, Some, None, refl, sym, ap, subst, ◌∙◌, true≢false, arith}
use Rattle.std.specs.List.{list_all, prefix_len}
use Rattle.std.specs.Option.{IsSome}
use Rattle.std.proofs.lemmas.List.Sums.{prefix_len-le-length}
use Rattle.hr_rules.specs.Runs.{begins}
use Rattle.hr_rules.specs.Numbers.{is_decimal, is_octal, is_hexadecimal, is_digits, is_x, is_o, value_of, integer_value, longest_value, begins_float}
use Rattle.hr_rules.proofs.Apart.{both, both_right, and_false}
use Rattle.hr_lexer.specs.declared.numbers.Digits.{Digits}
use Rattle.hr_lexer.specs.NumberReader.{digits_len, decimal_digits, integer_digits}
use Rattle.hr_lexer.proofs.Longest.{digits, more_all}
use Rattle.hr_lexer.proofs.RunsRead.{one_more, run_more, run_all}

-- the digits are those of the longest integer that begins with this character, and this is its value
pub record Fits (c : ℕ) (rest : List ℕ) (value : ℕ) (digits : Digits) : Type 0 where
  pub more : ℕ
  pub len : digits.skipped + digits.len ≡ suc more
  pub within : more ≤ length rest
  pub right : integer_value c (take more rest) ≡ Some value
  pub value_is : value_of digits.base (take digits.len (drop digits.skipped (c ∷ rest))) ≡ value
  pub longest : (m : ℕ) → m ≤ length rest → IsSome (integer_value c (take m rest)) → m ≤ more

-- the letters behind a zero
is_eq : (a b : ℕ) → (a == b) ≡ true → a ≡ b
is_eq a b e = grind arith

of_two : (P : ℕ → Type 0) (m a b : ℕ) → P a → P b → (x y : Bool) → (m == a) ≡ x → (m == b) ≡ y → (x || y) ≡ true → P m
of_two P m a b p q true y e f is = subst P (sym (is_eq m a e)) p
of_two P m a b p q false true e f is = subst P (sym (is_eq m b f)) q
of_two P m a b p q false false e f is = absurd (true≢false (sym is))

x_no_o : (m : ℕ) → is_x m ≡ true → is_o m ≡ false
x_no_o m e = of_two (λ z. is_o z ≡ false) m 120 88 refl refl (m == 120) (m == 88) refl refl e

x_no_decimal : (m : ℕ) → is_x m ≡ true → is_decimal m ≡ false
x_no_decimal m e = of_two (λ z. is_decimal z ≡ false) m 120 88 refl refl (m == 120) (m == 88) refl refl e

o_no_decimal : (m : ℕ) → is_o m ≡ true → is_decimal m ≡ false
o_no_decimal m e = of_two (λ z. is_decimal z ≡ false) m 111 79 refl refl (m == 111) (m == 79) refl refl e

pub x_no_float : (m : ℕ) (rest : List ℕ) → is_x m ≡ true → begins_float (m ∷ rest) ≡ false
x_no_float m rest e = of_two (λ z. begins_float (z ∷ rest) ≡ false) m 120 88 refl refl (m == 120) (m == 88) refl refl e

pub o_no_float : (m : ℕ) (rest : List ℕ) → is_o m ≡ true → begins_float (m ∷ rest) ≡ false
o_no_float m rest e = of_two (λ z. begins_float (z ∷ rest) ≡ false) m 111 79 refl refl (m == 111) (m == 79) refl refl e

no_letter : (a b e : Bool) → b ≡ false → ((a && b) && e) ≡ false
no_letter a b e f = ap (λ x. (a && x) && e) f ∙ ap (λ x. x && e) (and_false a)

-- the one of three that is there
abbrev one_of : Bool → Bool → Bool → ℕ → ℕ → ℕ → Option ℕ
one_of a b c x y z = cond a (Some x) (cond b (Some y) (cond c (Some z) None))

first_one : (a b c : Bool) (x y z : ℕ) → b ≡ false → c ≡ false → IsSome (one_of a b c x y z) → a ≡ true
first_one true b c x y z e f some = refl
first_one false true c x y z e f some = absurd (true≢false e)
first_one false false true x y z e f some = absurd (true≢false f)
first_one false false false x y z e f some = absurd (true≢false (sym some))

second_one : (a b c : Bool) (x y z : ℕ) → a ≡ false → c ≡ false → IsSome (one_of a b c x y z) → b ≡ true
second_one true b c x y z e f some = absurd (true≢false e)
second_one false true c x y z e f some = refl
second_one false false true x y z e f some = absurd (true≢false f)
second_one false false false x y z e f some = absurd (true≢false (sym some))

third_one : (a b c : Bool) (x y z : ℕ) → a ≡ false → b ≡ false → IsSome (one_of a b c x y z) → c ≡ true
third_one true b c x y z e f some = absurd (true≢false e)
third_one false true c x y z e f some = absurd (true≢false f)
third_one false false true x y z e f some = refl
third_one false false false x y z e f some = absurd (true≢false (sym some))

-- where no digit begins a text none of its fronts are digits
no_front_by : (p : ℕ → Bool) (a : Bool) (rest : List ℕ) (m : ℕ) → m ≤ length rest → (a && begins p rest) ≡ false → (b : Bool) → is_digits p (take m rest) ≡ b → (a && is_digits p (take m rest)) ≡ false
no_front_by p a rest m within e true f = ap (λ b. a && b) (f ∙ sym ((digits p rest).longest m within f).0) ∙ e
no_front_by p a rest m within e false f = ap (λ b. a && b) f ∙ and_false a

no_front : (p : ℕ → Bool) (a : Bool) (rest : List ℕ) (m : ℕ) → m ≤ length rest → (a && begins p rest) ≡ false → (a && is_digits p (take m rest)) ≡ false
no_front p a rest m within e = no_front_by p a rest m within e (is_digits p (take m rest)) refl

-- decimal digits
module _ (c m : ℕ) (rest : List ℕ)
    (no_x : ((c == 48 && is_x m) && begins is_hexadecimal rest) ≡ false)
    (no_o : ((c == 48 && is_o m) && begins is_octal rest) ≡ false) where
  decimal_right : (n : ℕ) → n ≤ suc (length rest) → list_all is_decimal (take n (m ∷ rest)) ≡ true → integer_value c (take n (m ∷ rest)) ≡ Some (value_of 10 (c ∷ take n (m ∷ rest)))
  decimal_right zero within e = refl
  decimal_right (suc n) within e =
      let front : List ℕ = take n rest in
      let less : n ≤ length rest = omega (arith, within) in
      ap (λ b. cond b (Some (value_of 16 front)) (cond ((c == 48 && is_o m) && is_digits is_octal front) (Some (value_of 8 front)) (cond (list_all is_decimal (m ∷ front)) (Some (value_of 10 (c ∷ m ∷ front))) None)))
      (no_front is_hexadecimal (c == 48 && is_x m) rest n less no_x)
      ∙ (ap (λ b. cond b (Some (value_of 8 front)) (cond (list_all is_decimal (m ∷ front)) (Some (value_of 10 (c ∷ m ∷ front))) None))
      (no_front is_octal (c == 48 && is_o m) rest n less no_o)
      ∙ ap (λ b. cond b (Some (value_of 10 (c ∷ m ∷ front))) None) e)

  decimal_longest : (n : ℕ) → n ≤ suc (length rest) → IsSome (integer_value c (take n (m ∷ rest))) → n ≤ prefix_len is_decimal (m ∷ rest)
  decimal_longest zero within some = omega arith
  decimal_longest (suc n) within some =
      let front : List ℕ = take n rest in
      let less : n ≤ length rest = omega (arith, within) in
      more_all is_decimal (m ∷ rest) (suc n) within
      (third_one ((c == 48 && is_x m) && is_digits is_hexadecimal front) ((c == 48 && is_o m) && is_digits is_octal front) (list_all is_decimal (m ∷ front))
      (value_of 16 front) (value_of 8 front) (value_of 10 (c ∷ m ∷ front))
      (no_front is_hexadecimal (c == 48 && is_x m) rest n less no_x) (no_front is_octal (c == 48 && is_o m) rest n less no_o) some)

  decimal_fits : is_decimal c ≡ true → Fits c (m ∷ rest) (value_of 10 (c ∷ take (prefix_len is_decimal (m ∷ rest)) (m ∷ rest))) (decimal_digits (c ∷ m ∷ rest))
  decimal_fits d =
      let n : ℕ = prefix_len is_decimal (m ∷ rest) in
      let len : digits_len 10 (c ∷ m ∷ rest) ≡ suc n = one_more is_decimal c (m ∷ rest) d in
      record {
        more = n;
        len = omega (arith, len);
        within = prefix_len-le-length is_decimal (m ∷ rest);
        right = decimal_right n (prefix_len-le-length is_decimal (m ∷ rest)) (run_all is_decimal (m ∷ rest));
        value_is = ap (value_of 10) (run_more is_decimal c (m ∷ rest) d);
        longest = decimal_longest;
      }

-- hexadecimal digits behind a zero and their letter
module _ (c m : ℕ) (rest : List ℕ) (zero_first : (c == 48) ≡ true) (letter : is_x m ≡ true) (begun : begins is_hexadecimal rest ≡ true) where
  marked_x : (c == 48 && is_x m) ≡ true
  marked_x = both (c == 48) (is_x m) zero_first letter

  hexadecimal_right : (front : List ℕ) → is_digits is_hexadecimal front ≡ true → integer_value c (m ∷ front) ≡ Some (value_of 16 front)
  hexadecimal_right front e =
      ap (λ b. cond b (Some (value_of 16 front)) (cond ((c == 48 && is_o m) && is_digits is_octal front) (Some (value_of 8 front)) (cond (list_all is_decimal (m ∷ front)) (Some (value_of 10 (c ∷ m ∷ front))) None)))
      (both (c == 48 && is_x m) (is_digits is_hexadecimal front) marked_x e)

  hexadecimal_longest : (n : ℕ) → n ≤ suc (length rest) → IsSome (integer_value c (take n (m ∷ rest))) → n ≤ suc (prefix_len is_hexadecimal rest)
  hexadecimal_longest zero within some = omega arith
  hexadecimal_longest (suc n) within some =
      let front : List ℕ = take n rest in
      let other : ((c == 48 && is_o m) && is_digits is_octal front) ≡ false =
      no_letter (c == 48) (is_o m) (is_digits is_octal front) (x_no_o m letter) in
      let is : ((c == 48 && is_x m) && is_digits is_hexadecimal front) ≡ true =
      first_one ((c == 48 && is_x m) && is_digits is_hexadecimal front) ((c == 48 && is_o m) && is_digits is_octal front) (list_all is_decimal (m ∷ front))
      (value_of 16 front) (value_of 8 front) (value_of 10 (c ∷ m ∷ front)) other (ap (λ b. b && list_all is_decimal front) (x_no_decimal m letter)) some in
      let less : n ≤ prefix_len is_hexadecimal rest =
      ((digits is_hexadecimal rest).longest n (omega (arith, within)) (both_right (c == 48 && is_x m) (is_digits is_hexadecimal front) is)).1 in
      omega (arith, less)

  hexadecimal_fits : Fits c (m ∷ rest) (value_of 16 (take (prefix_len is_hexadecimal rest) rest)) (record { base = 16; skipped = 2; len = prefix_len is_hexadecimal rest })
  hexadecimal_fits =
      let n : ℕ = prefix_len is_hexadecimal rest in
      let less : n ≤ length rest = prefix_len-le-length is_hexadecimal rest in
      record {
        more = suc n;
        len = omega arith;
        within = omega (arith, less);
        right = hexadecimal_right (take n rest) ((digits is_hexadecimal rest).right begun);
        value_is = refl;
        longest = hexadecimal_longest;
      }

-- octal digits behind a zero and their letter
module _ (c m : ℕ) (rest : List ℕ) (zero_first : (c == 48) ≡ true) (no_x : is_x m ≡ false) (letter : is_o m ≡ true) (begun : begins is_octal rest ≡ true) where
  marked_o : (c == 48 && is_o m) ≡ true
  marked_o = both (c == 48) (is_o m) zero_first letter

  unmarked_x : (front : List ℕ) → ((c == 48 && is_x m) && is_digits is_hexadecimal front) ≡ false
  unmarked_x front = no_letter (c == 48) (is_x m) (is_digits is_hexadecimal front) no_x

  octal_right : (front : List ℕ) → is_digits is_octal front ≡ true → integer_value c (m ∷ front) ≡ Some (value_of 8 front)
  octal_right front e =
      ap (λ b. cond b (Some (value_of 16 front)) (cond ((c == 48 && is_o m) && is_digits is_octal front) (Some (value_of 8 front)) (cond (list_all is_decimal (m ∷ front)) (Some (value_of 10 (c ∷ m ∷ front))) None)))
      (unmarked_x front)
      ∙ ap (λ b. cond b (Some (value_of 8 front)) (cond (list_all is_decimal (m ∷ front)) (Some (value_of 10 (c ∷ m ∷ front))) None))
      (both (c == 48 && is_o m) (is_digits is_octal front) marked_o e)

  octal_longest : (n : ℕ) → n ≤ suc (length rest) → IsSome (integer_value c (take n (m ∷ rest))) → n ≤ suc (prefix_len is_octal rest)
  octal_longest zero within some = omega arith
  octal_longest (suc n) within some =
      let front : List ℕ = take n rest in
      let is : ((c == 48 && is_o m) && is_digits is_octal front) ≡ true =
      second_one ((c == 48 && is_x m) && is_digits is_hexadecimal front) ((c == 48 && is_o m) && is_digits is_octal front) (list_all is_decimal (m ∷ front))
      (value_of 16 front) (value_of 8 front) (value_of 10 (c ∷ m ∷ front)) (unmarked_x front) (ap (λ b. b && list_all is_decimal front) (o_no_decimal m letter)) some in
      let less : n ≤ prefix_len is_octal rest =
      ((digits is_octal rest).longest n (omega (arith, within)) (both_right (c == 48 && is_o m) (is_digits is_octal front) is)).1 in
      omega (arith, less)

  octal_fits : Fits c (m ∷ rest) (value_of 8 (take (prefix_len is_octal rest) rest)) (record { base = 8; skipped = 2; len = prefix_len is_octal rest })
  octal_fits =
      let n : ℕ = prefix_len is_octal rest in
      let less : n ≤ length rest = prefix_len-le-length is_octal rest in
      record {
        more = suc n;
        len = omega arith;
        within = omega (arith, less);
        right = octal_right (take n rest) ((digits is_octal rest).right begun);
        value_is = refl;
        longest = octal_longest;
      }

-- of all three, by what begins the text
abbrev value_by : (c m : ℕ) (rest : List ℕ) → Bool → Bool → Bool → Bool → Bool → ℕ
value_by c m rest z x o h t =
    cond ((z && x) && h) (value_of 16 (take (prefix_len is_hexadecimal rest) rest))
    (cond ((z && o) && t) (value_of 8 (take (prefix_len is_octal rest) rest))
    (value_of 10 (c ∷ take (prefix_len is_decimal (m ∷ rest)) (m ∷ rest))))

abbrev based_by : (base : ℕ) (rest text : List ℕ) → Bool → Digits
based_by base rest text empty = cond empty (decimal_digits text) (record { base = base; skipped = 2; len = digits_len base rest })

abbrev digits_by : (c m : ℕ) (rest : List ℕ) → Bool → Bool → Bool → Bool → Bool → Digits
digits_by c m rest z x o h t =
    cond z (cond x (based_by 16 rest (c ∷ m ∷ rest) (not h)) (cond o (based_by 8 rest (c ∷ m ∷ rest) (not t)) (decimal_digits (c ∷ m ∷ rest))))
    (decimal_digits (c ∷ m ∷ rest))

fits_by : (c m : ℕ) (rest : List ℕ) → is_decimal c ≡ true → (z x o h t : Bool) → (c == 48) ≡ z → is_x m ≡ x → is_o m ≡ o → begins is_hexadecimal rest ≡ h → begins is_octal rest ≡ t
    → Fits c (m ∷ rest) (value_by c m rest z x o h t) (digits_by c m rest z x o h t)
fits_by c m rest d false x o h t e f g i j =
    decimal_fits c m rest (ap (λ b. (b && is_x m) && begins is_hexadecimal rest) e) (ap (λ b. (b && is_o m) && begins is_octal rest) e) d
fits_by c m rest d true true true h t e f g i j = absurd (true≢false (sym g ∙ x_no_o m f))
fits_by c m rest d true true false true t e f g i j = hexadecimal_fits c m rest e f i
fits_by c m rest d true true false false t e f g i j =
    decimal_fits c m rest (ap (λ b. (c == 48 && is_x m) && b) i ∙ and_false (c == 48 && is_x m)) (no_letter (c == 48) (is_o m) (begins is_octal rest) g) d
fits_by c m rest d true false true h true e f g i j = octal_fits c m rest e f g j
fits_by c m rest d true false true h false e f g i j =
    decimal_fits c m rest (no_letter (c == 48) (is_x m) (begins is_hexadecimal rest) f) (ap (λ b. (c == 48 && is_o m) && b) j ∙ and_false (c == 48 && is_o m)) d
fits_by c m rest d true false false h t e f g i j =
    decimal_fits c m rest (no_letter (c == 48) (is_x m) (begins is_hexadecimal rest) f) (no_letter (c == 48) (is_o m) (begins is_octal rest) g) d

not_begun : (a b : Bool) → a ≡ not b → not a ≡ b
not_begun true true e = sym e
not_begun true false e = refl
not_begun false true e = refl
not_begun false false e = sym e

marked : (c m : ℕ) (rest : List ℕ)
    → digits_by c m rest (c == 48) (is_x m) (is_o m) (begins is_hexadecimal rest) (begins is_octal rest) ≡ integer_digits (c ∷ m ∷ rest)
marked c m rest =
    let empty_x : not (begins is_hexadecimal rest) ≡ (prefix_len is_hexadecimal rest == 0) =
    not_begun (begins is_hexadecimal rest) (prefix_len is_hexadecimal rest == 0) (digits is_hexadecimal rest).begins in
    let empty_o : not (begins is_octal rest) ≡ (prefix_len is_octal rest == 0) =
    not_begun (begins is_octal rest) (prefix_len is_octal rest == 0) (digits is_octal rest).begins in
    let text : List ℕ = c ∷ m ∷ rest in
    let by : Bool → Bool → Digits = λ a b. cond (c == 48) (cond (is_x m) (based_by 16 rest text a) (cond (is_o m) (based_by 8 rest text b) (decimal_digits text))) (decimal_digits text) in
    ap (λ a. by a (not (begins is_octal rest))) empty_x ∙ ap (λ b. by (prefix_len is_hexadecimal rest == 0) b) empty_o

one_character : (c : ℕ) → is_decimal c ≡ true → Fits c [] (longest_value c []) (decimal_digits (c ∷ []))
one_character c d =
    let len : digits_len 10 (c ∷ []) ≡ 1 = one_more is_decimal c [] d in
    record {
      more = 0;
      len = omega (arith, len);
      within = omega arith;
      right = refl;
      value_is = ap (value_of 10) (run_more is_decimal c [] d);
      longest = λ m within some. within;
    }

pub integer : (c : ℕ) (rest : List ℕ) → is_decimal c ≡ true → Fits c rest (longest_value c rest) (integer_digits (c ∷ rest))
integer c [] d = one_character c d
integer c (m ∷ rest) d =
    subst (Fits c (m ∷ rest) (longest_value c (m ∷ rest))) (marked c m rest)
    (fits_by c m rest d (c == 48) (is_x m) (is_o m) (begins is_hexadecimal rest) (begins is_octal rest) refl refl refl refl refl)
