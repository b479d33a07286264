-- What is read where a number begins.
use Rattle.std.specs.Prelude.{ℕ, ◌+◌, ◌||◌, ◌==◌, Bool, nat_lt, if◌then◌else◌, List, [], ◌∷◌, Option, Some, None, take, drop}
use Rattle.std.specs.List.{prefix_len}
use Rattle.std.specs.Char.{is_digit}
use Rattle.hr_base.specs.declared.lexeme.Class.{Class}
use Rattle.hr_rules.specs.Numbers.{greatest_integer, is_e, is_o, is_x, value_of}
use Rattle.hr_lexer.specs.declared.taken.Taken.{Taken}
use Rattle.hr_lexer.specs.declared.numbers.Digits.{Digits}

abbrev pub digits_len : ℕ → List ℕ → ℕ
digits_len base text = prefix_len (λ c. is_digit c base) text

-- n behind m more, and nothing where there is nothing
abbrev pub with_more : ℕ → ℕ → ℕ
with_more m n = if n == 0 then 0 else m + n

-- the length of decimal digits that a sign may precede
abbrev pub signed_len : List ℕ → ℕ
signed_len [] = 0
signed_len (c ∷ rest) = if c == 43 || c == 45 then with_more 1 (digits_len 10 rest) else digits_len 10 (c ∷ rest)

-- the length of an exponent, 0 where there is none
abbrev pub exponent_len : List ℕ → ℕ
exponent_len [] = 0
exponent_len (c ∷ rest) = if is_e c then with_more 1 (signed_len rest) else 0

-- the length of digits and maybe an exponent
abbrev pub fraction_len : List ℕ → ℕ
fraction_len text =
    let n = digits_len 10 text in
    if n == 0 then 0 else n + exponent_len (drop n text)

-- the length of what makes a float of digits
abbrev pub float_part_len : List ℕ → ℕ
float_part_len [] = 0
float_part_len (c ∷ rest) = if c == 46 then with_more 1 (fraction_len rest) else exponent_len (c ∷ rest)

abbrev pub float_len : List ℕ → ℕ
float_len text = let n = digits_len 10 text in with_more n (float_part_len (drop n text))

abbrev pub decimal_digits : List ℕ → Digits
decimal_digits text = record { base = 10; skipped = 0; len = digits_len 10 text }

-- an integer by its base, how many characters stand before its digits, and how many digits there are
abbrev pub based_digits : ℕ → List ℕ → List ℕ → Digits
based_digits base rest text =
    let n = digits_len base rest in
    if n == 0 then decimal_digits text else record { base = base; skipped = 2; len = n }

abbrev pub marked_digits : ℕ → List ℕ → List ℕ → Digits
marked_digits m rest text =
    if is_x m then based_digits 16 rest text else (if is_o m then based_digits 8 rest text else decimal_digits text)

abbrev pub integer_digits : List ℕ → Digits
integer_digits [] = decimal_digits []
integer_digits (c ∷ []) = decimal_digits (c ∷ [])
integer_digits (c ∷ m ∷ rest) = if c == 48 then marked_digits m rest (c ∷ m ∷ rest) else decimal_digits (c ∷ m ∷ rest)

abbrev pub is_wide : ℕ → List ℕ → Bool
is_wide base digits = nat_lt greatest_integer (value_of base digits)

abbrev pub integer_at : List ℕ → Option Taken
integer_at text =
    let digits = integer_digits text in
    if is_wide digits.base (take digits.len (drop digits.skipped text)) then None
    else Some (record { class = Class.Integer; len = digits.skipped + digits.len })

-- a number: none where it is an integer that is too great
abbrev pub number_at : List ℕ → Option Taken
number_at text =
    let n = float_len text in
    if n == 0 then integer_at text else Some (record { class = Class.Float; len = n })
