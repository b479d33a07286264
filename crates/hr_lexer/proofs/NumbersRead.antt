-- Numbers are read as the rules say.
use Rattle.std.proofs.Common.{◌≡◌, ◌≤◌, ℕ, zero, suc, ◌+◌, Bool, true, false, cond, not, ◌&&◌, ◌==◌, nat_le, nat_lt, List, [], ◌∷◌, ◌++◌, length, take, drop, Option, Some, None, refl, sym, ap, subst, ◌∙◌, true≢false, arith, length-append}
use Rattle.std.specs.List.{list_all}
use Rattle.std.specs.Option.{IsSome}
use Rattle.std.proofs.Math.Seq.{take-append_seam}
use Rattle.hr_base.specs.declared.lexeme.Class.{Class}
use Rattle.hr_rules.specs.declared.character.Kind.{Kind}
use Rattle.hr_rules.specs.Numbers.{greatest_integer, is_decimal, is_octal, is_hexadecimal, is_digits, is_x, is_o, value_of, integer_value, integer_class, ends_float, number_class, begins_float, longest_value, is_too_wide}
use Rattle.hr_rules.proofs.Apart.{both_left, both_right}
use Rattle.hr_rules.proofs.Digits.{digit_decimal}
use Rattle.hr_lexer.specs.declared.numbers.Digits.{Digits}
use Rattle.hr_lexer.specs.declared.taken.Taken.{Taken}
use Rattle.hr_lexer.specs.NumberReader.{digits_len, with_more, float_part_len, float_len, integer_digits, is_wide, integer_at, number_at}
use Rattle.hr_lexer.proofs.Statements.{KindReads, ReadsRight, ReadsLongest}
use Rattle.hr_lexer.proofs.RunsRead.{some_is, len_of, class_in, taken_right, ReadParts}
use Rattle.hr_lexer.proofs.NamesRead.{kept}
use Rattle.hr_lexer.proofs.Longest.{some_there, more_all}
use Rattle.hr_lexer.proofs.FloatsRead.{float, float_digit}
use Rattle.hr_lexer.proofs.IntegersRead.{Fits, integer, x_no_float, o_no_float}

-- a float is read where one begins
some_float : (n : ℕ) → not (n == 0) ≡ true → with_more 1 n ≡ suc n
some_float n e = grind arith

float_there : (c : ℕ) (rest : List ℕ) → is_decimal c ≡ true → begins_float rest ≡ true → float_len (c ∷ rest) ≡ suc (float_len rest)
float_there c rest d e = float_digit c rest d ∙ some_float (float_len rest) (sym (float rest).begins ∙ e)

no_float : (n : ℕ) → not (n == 0) ≡ false → n ≡ 0
no_float n e = grind arith

float_absent : (c : ℕ) (rest : List ℕ) → is_decimal c ≡ true → begins_float rest ≡ false → float_len (c ∷ rest) ≡ 0
float_absent c rest d e = float_digit c rest d ∙ ap (with_more 1) (no_float (float_len rest) (sym (float rest).begins ∙ e))

float_taken : (c : ℕ) (rest : List ℕ) → is_decimal c ≡ true → begins_float rest ≡ true → number_at (c ∷ rest) ≡ Some (record { class = Class.Float; len = suc (float_len rest) })
float_taken c rest d e =
    ap (λ n. cond (n == 0) (integer_at (c ∷ rest)) (Some (record { class = Class.Float; len = n }))) (float_there c rest d e)
    ∙ ap (λ b. cond b (integer_at (c ∷ rest)) (Some (record { class = Class.Float; len = suc (float_len rest) }))) (some_there (float_len rest))

-- and else an integer, unless it is too great
integer_taken : (c : ℕ) (rest : List ℕ) → is_decimal c ≡ true → begins_float rest ≡ false → number_at (c ∷ rest) ≡ integer_at (c ∷ rest)
integer_taken c rest d e = ap (λ n. cond (n == 0) (integer_at (c ∷ rest)) (Some (record { class = Class.Float; len = n }))) (float_absent c rest d e)

wide : (c : ℕ) (rest : List ℕ) → is_decimal c ≡ true
    → is_wide (integer_digits (c ∷ rest)).base (take (integer_digits (c ∷ rest)).len (drop (integer_digits (c ∷ rest)).skipped (c ∷ rest))) ≡ nat_lt greatest_integer (longest_value c rest)
wide c rest d = ap (nat_lt greatest_integer) (integer c rest d).value_is

-- what is read is a number
within : (n : ℕ) → nat_lt greatest_integer n ≡ false → nat_le n greatest_integer ≡ true
within n e = grind arith

float_parts : (c : ℕ) (rest : List ℕ) (taken : Taken) → is_decimal c ≡ true → begins_float rest ≡ true → number_at (c ∷ rest) ≡ Some taken
    → (is_too_wide c rest ≡ false) × ReadParts (λ front after. number_class c front) rest taken
float_parts c rest taken d f e =
    let n : ℕ = float_len rest in
    let is : ◌≡◌ {A = Taken} (record { class = Class.Float; len = suc n }) taken = some_is (record { class = Class.Float; len = suc n }) taken (sym (float_taken c rest d f) ∙ e) in (
      ap (λ b. not b && nat_lt greatest_integer (longest_value c rest)) f,
      (
        n,
        sym (ap len_of is),
        (float rest).within,
        ap (λ b. cond b (Some Class.Float) (integer_class (integer_value c (take n rest)))) ((float rest).right f) ∙ ap Some (ap class_in is),
      ),
    )

no_end_by : (rest : List ℕ) (m : ℕ) → m ≤ length rest → begins_float rest ≡ false → (b : Bool) → ends_float (take m rest) ≡ b → ends_float (take m rest) ≡ false
no_end_by rest m in_text f true e = absurd (true≢false (sym ((float rest).longest m in_text e).0 ∙ f))
no_end_by rest m in_text f false e = e

integer_parts : (c : ℕ) (rest : List ℕ) (taken : Taken) → is_decimal c ≡ true → begins_float rest ≡ false → number_at (c ∷ rest) ≡ Some taken
    → (is_too_wide c rest ≡ false) × ReadParts (λ front after. number_class c front) rest taken
integer_parts c rest taken d f e =
    let digits : Digits = integer_digits (c ∷ rest) in
    let fits : Fits c rest (longest_value c rest) digits = integer c rest d in
    let value : ℕ = longest_value c rest in
    let written : List ℕ = take digits.len (drop digits.skipped (c ∷ rest)) in
    let read : Taken = record { class = Class.Integer; len = digits.skipped + digits.len } in
    let parts : (is_wide digits.base written ≡ false) × (read ≡ taken) = kept (is_wide digits.base written) read taken (sym (integer_taken c rest d f) ∙ e) in
    let fit : nat_lt greatest_integer value ≡ false = sym (wide c rest d) ∙ parts.0 in
    let front : List ℕ = take fits.more rest in (
      ap (λ b. not b && nat_lt greatest_integer value) f ∙ fit,
      (
        fits.more,
        sym (ap len_of parts.1) ∙ fits.len,
        fits.within,
        ap (λ b. cond b (Some Class.Float) (integer_class (integer_value c front))) (no_end_by rest fits.more fits.within f (ends_float front) refl)
            ∙ (ap integer_class fits.right ∙ (ap (λ b. cond b (Some Class.Integer) None) (within value fit) ∙ ap Some (ap class_in parts.1))),
      ),
    )

parts_by : (c : ℕ) (rest : List ℕ) (taken : Taken) (b : Bool) → begins_float rest ≡ b → is_decimal c ≡ true → number_at (c ∷ rest) ≡ Some taken
    → (is_too_wide c rest ≡ false) × ReadParts (λ front after. number_class c front) rest taken
parts_by c rest taken true f d e = float_parts c rest taken d f e
parts_by c rest taken false f d e = integer_parts c rest taken d f e

digit_right : ReadsRight Kind.Digit
digit_right c rest taken k e =
    let parts : (is_too_wide c rest ≡ false) × ReadParts (λ front after. number_class c front) rest taken = parts_by c rest taken (begins_float rest) refl (digit_decimal c k) e in
    taken_right Kind.Digit c rest parts.1.0 taken k parts.0 parts.1.1 parts.1.2 parts.1.3

-- where a number begins, one is read that is no shorter
abbrev pub ReadsOn : ℕ → List ℕ → ℕ → Type 0
ReadsOn c rest m = (taken : Taken) × (number_at (c ∷ rest) ≡ Some taken) × (suc m ≤ taken.len)

float_on : (c : ℕ) (rest : List ℕ) (m : ℕ) → is_decimal c ≡ true → begins_float rest ≡ true → m ≤ float_len rest → ReadsOn c rest m
float_on c rest m d f less = (record { class = Class.Float; len = suc (float_len rest) }, float_taken c rest d f, omega (arith, less))

-- digits that begin a float are no more than it has
no_less : (n k : ℕ) → not (with_more n k == 0) ≡ true → n ≤ with_more n k
no_less n k e = grind arith

decimal_on : (rest : List ℕ) (m : ℕ) → m ≤ length rest → begins_float rest ≡ true → list_all is_decimal (take m rest) ≡ true → m ≤ float_len rest
decimal_on rest m in_text f all =
    let n : ℕ = digits_len 10 rest in
    let less : m ≤ n = more_all is_decimal rest m in_text all in
    let more : n ≤ float_len rest = no_less n (float_part_len (drop n rest)) (sym (float rest).begins ∙ f) in
    omega (arith, less, more)

-- of an integer behind a letter no float begins
decimal_digits_by : (c m : ℕ) (front rest : List ℕ) → begins_float (m ∷ rest) ≡ true → (x o : Bool)
    → ((c == 48 && is_x m) && is_digits is_hexadecimal front) ≡ x → ((c == 48 && is_o m) && is_digits is_octal front) ≡ o → (b : Bool)
    → IsSome (cond x (Some (value_of 16 front)) (cond o (Some (value_of 8 front)) (cond b (Some (value_of 10 (c ∷ m ∷ front))) None))) → b ≡ true
decimal_digits_by c m front rest f x o e g true some = refl
decimal_digits_by c m front rest f true o e g false some =
    absurd (true≢false (sym f ∙ x_no_float m rest (both_right (c == 48) (is_x m) (both_left (c == 48 && is_x m) (is_digits is_hexadecimal front) e))))
decimal_digits_by c m front rest f false true e g false some =
    absurd (true≢false (sym f ∙ o_no_float m rest (both_right (c == 48) (is_o m) (both_left (c == 48 && is_o m) (is_digits is_octal front) g))))
decimal_digits_by c m front rest f false false e g false some = absurd (true≢false (sym some))

all_decimal : (c : ℕ) (rest : List ℕ) (m : ℕ) → begins_float rest ≡ true → IsSome (integer_value c (take m rest)) → list_all is_decimal (take m rest) ≡ true
all_decimal c [] m f some = absurd (true≢false (sym f))
all_decimal c (d ∷ rest) zero f some = refl
all_decimal c (d ∷ rest) (suc m) f some =
    let front : List ℕ = take m rest in
    decimal_digits_by c d front rest f ((c == 48 && is_x d) && is_digits is_hexadecimal front) ((c == 48 && is_o d) && is_digits is_octal front) refl refl (list_all is_decimal (d ∷ front)) some

not_wide : (a b : Bool) → a ≡ false → (not a && b) ≡ false → b ≡ false
not_wide true b e f = absurd (true≢false e)
not_wide false b e f = f

integer_on_by : (c : ℕ) (rest : List ℕ) (m : ℕ) → is_decimal c ≡ true → m ≤ length rest → is_too_wide c rest ≡ false → IsSome (integer_value c (take m rest)) → (b : Bool) → begins_float rest ≡ b → ReadsOn c rest m
integer_on_by c rest m d in_text free some true f = float_on c rest m d f (decimal_on rest m in_text f (all_decimal c rest m f some))
integer_on_by c rest m d in_text free some false f =
    let digits : Digits = integer_digits (c ∷ rest) in
    let fits : Fits c rest (longest_value c rest) digits = integer c rest d in
    let read : Taken = record { class = Class.Integer; len = digits.skipped + digits.len } in
    let fit : nat_lt greatest_integer (longest_value c rest) ≡ false = not_wide (begins_float rest) (nat_lt greatest_integer (longest_value c rest)) f free in
    let less : m ≤ fits.more = fits.longest m in_text some in
    let len : digits.skipped + digits.len ≡ suc fits.more = fits.len in
    (read, integer_taken c rest d f ∙ ap (λ b. cond b None (Some read)) (wide c rest d ∙ fit), omega (arith, less, len))

class_some : (value : Option ℕ) → IsSome (integer_class value) → IsSome value
class_some None some = some
class_some (Some n) some = refl

number_on : (c : ℕ) (rest : List ℕ) (m : ℕ) → is_decimal c ≡ true → m ≤ length rest → is_too_wide c rest ≡ false → (b : Bool) → ends_float (take m rest) ≡ b
    → IsSome (cond b (Some Class.Float) (integer_class (integer_value c (take m rest)))) → ReadsOn c rest m
number_on c rest m d in_text free true e some =
    let so : (begins_float rest ≡ true) × (m ≤ float_len rest) = (float rest).longest m in_text e in
    float_on c rest m d so.0 so.1
number_on c rest m d in_text free false e some =
    integer_on_by c rest m d in_text free (class_some (integer_value c (take m rest)) some) (begins_float rest) refl

digit_longest : ReadsLongest Kind.Digit
digit_longest c front after k free some =
    let rest : List ℕ = front ++ after in
    let m : ℕ = length front in
    let sum : length rest ≡ m + length after = length-append front after in
    let in_text : m ≤ length rest = omega (arith, sum) in
    number_on c rest m (digit_decimal c k) in_text free (ends_float (take m rest)) refl
    (subst (λ t. IsSome (number_class c t)) (sym (take-append_seam front after)) some)

pub digit_reads : KindReads Kind.Digit
digit_reads = record { right = digit_right; longest = digit_longest }
