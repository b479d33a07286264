-- Numeric literals: the Haskell 98 Report, section 2.5, in ASCII digits. An integer is at most 2^63 - 1.
use Rattle.std.specs.Prelude.{ℕ, ◌+◌, ◌*◌, Bool, true, false, not, ◌&&◌, ◌||◌, ◌==◌, nat_le, nat_lt, if◌then◌else◌, List, [], ◌∷◌, Option, Some, None, take, fold}
use Rattle.std.specs.List.{list_all, prefix_len}
use Rattle.std.specs.Char.{digit_value, is_digit}
use Rattle.hr_base.specs.declared.lexeme.Class.{Class}
use Rattle.hr_rules.specs.Runs.{begins}

abbrev pub greatest_integer : ℕ
greatest_integer = 9223372036854775807

abbrev pub is_decimal : ℕ → Bool
is_decimal c = is_digit c 10

abbrev pub is_octal : ℕ → Bool
is_octal c = is_digit c 8

abbrev pub is_hexadecimal : ℕ → Bool
is_hexadecimal c = is_digit c 16

-- the number that digits stand for
abbrev pub value_of : ℕ → List ℕ → ℕ
value_of base digits = fold (λ n c. n * base + digit_value c) 0 digits

-- one digit or more
abbrev pub is_digits : (ℕ → Bool) → List ℕ → Bool
is_digits p [] = false
is_digits p (c ∷ rest) = p c && list_all p rest

-- the letter of hexadecimal and of octal numbers
abbrev pub is_x : ℕ → Bool
is_x c = c == 120 || c == 88

abbrev pub is_o : ℕ → Bool
is_o c = c == 111 || c == 79

-- the value of an integer, however great, behind its first digit
abbrev pub integer_value : ℕ → List ℕ → Option ℕ
integer_value c [] = Some (value_of 10 (c ∷ []))
integer_value c (m ∷ rest) =
    if (c == 48 && is_x m) && is_digits is_hexadecimal rest then Some (value_of 16 rest)
    else (if (c == 48 && is_o m) && is_digits is_octal rest then Some (value_of 8 rest)
    else (if list_all is_decimal (m ∷ rest) then Some (value_of 10 (c ∷ m ∷ rest)) else None))

-- an exponent, behind its letter: decimal digits that a sign may precede
abbrev pub is_exponent : List ℕ → Bool
is_exponent [] = false
is_exponent (c ∷ rest) = if c == 43 || c == 45 then is_digits is_decimal rest else is_digits is_decimal (c ∷ rest)

abbrev pub is_e : ℕ → Bool
is_e c = c == 101 || c == 69

-- a float behind a digit of its fraction
abbrev pub ends_fraction : List ℕ → Bool
ends_fraction [] = true
ends_fraction (c ∷ rest) = if is_decimal c then ends_fraction rest else is_e c && is_exponent rest

-- a float behind its dot
abbrev pub is_fraction : List ℕ → Bool
is_fraction [] = false
is_fraction (c ∷ rest) = is_decimal c && ends_fraction rest

-- a float behind its first digit: digits, a dot, digits and maybe an exponent, or digits and an exponent
abbrev pub ends_float : List ℕ → Bool
ends_float [] = false
ends_float (c ∷ rest) =
    if is_decimal c then ends_float rest
    else (if c == 46 then is_fraction rest else is_e c && is_exponent rest)

abbrev pub integer_class : Option ℕ → Option Class
integer_class None = None
integer_class (Some n) = if nat_le n greatest_integer then Some Class.Integer else None

-- a number behind its first digit
abbrev pub number_class : ℕ → List ℕ → Option Class
number_class c rest = if ends_float rest then Some Class.Float else integer_class (integer_value c rest)

-- whether an exponent begins behind its letter
abbrev pub begins_exponent : List ℕ → Bool
begins_exponent [] = false
begins_exponent (c ∷ rest) = if c == 43 || c == 45 then begins is_decimal rest else is_decimal c

-- whether a float begins where a digit and then this stand
abbrev pub begins_float : List ℕ → Bool
begins_float [] = false
begins_float (c ∷ rest) =
    if is_decimal c then begins_float rest
    else (if c == 46 then begins is_decimal rest else is_e c && begins_exponent rest)

-- the value of the longest integer, however great, that begins where a digit and then this stand
abbrev pub longest_value : ℕ → List ℕ → ℕ
longest_value c [] = value_of 10 (c ∷ [])
longest_value c (m ∷ rest) =
    if (c == 48 && is_x m) && begins is_hexadecimal rest then value_of 16 (take (prefix_len is_hexadecimal rest) rest)
    else (if (c == 48 && is_o m) && begins is_octal rest then value_of 8 (take (prefix_len is_octal rest) rest)
    else value_of 10 (c ∷ take (prefix_len is_decimal (m ∷ rest)) (m ∷ rest)))

-- an integer begins here that is too great, and no float does
abbrev pub is_too_wide : ℕ → List ℕ → Bool
is_too_wide c rest = not (begins_float rest) && nat_lt greatest_integer (longest_value c rest)
