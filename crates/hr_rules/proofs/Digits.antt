-- A character that begins a number is a decimal digit.
use Rattle.std.proofs.Common.{◌≡◌, ℕ, Bool, true, false, cond, ◌||◌, ◌==◌, refl, sym, ap, ◌∙◌, true≢false, arith}
use Rattle.std.specs.Char.{is_ascii_digit, is_ascii_lowercase, is_ascii_uppercase}
use Rattle.std.specs.Prelude.{nat_lt}
use Rattle.ucd_category.specs.declared.GeneralCategory.{GeneralCategory}
use Rattle.ucd_category.specs.GeneralCategory.{general_category}
use Rattle.hr_rules.specs.declared.character.Kind.{Kind}
use Rattle.hr_rules.specs.Letters.{kind_of, ascii_kind, ascii_mark_kind, wide_kind, ascii_symbols, specials, among, is_ascii_blank, is_newline}
use Rattle.hr_rules.specs.Numbers.{is_decimal}

abbrev is_digit_kind : Kind → Bool
is_digit_kind Kind.Digit = true
is_digit_kind _ = false

else_digit : (b : Bool) (x y : Kind) → is_digit_kind x ≡ false → is_digit_kind (cond b x y) ≡ true → is_digit_kind y ≡ true
else_digit true x y other e = absurd (true≢false (sym e ∙ other))
else_digit false x y other e = e

no_mark : (c : ℕ) → is_digit_kind (ascii_mark_kind c) ≡ true → true ≡ false
no_mark c e =
    sym (else_digit (c == 34) Kind.DoubleQuote Kind.Other refl
    (else_digit (c == 39) Kind.Quote _ refl
    (else_digit (among specials c) Kind.Special _ refl
    (else_digit (among ascii_symbols c) Kind.Symbol _ refl e))))

digit_then : (c : ℕ) (b : Bool) → is_digit_kind (cond b Kind.Digit (ascii_mark_kind c)) ≡ true → b ≡ true
digit_then c true e = refl
digit_then c false e = absurd (true≢false (no_mark c e))

ascii_digit : (c : ℕ) → is_digit_kind (ascii_kind c) ≡ true → is_ascii_digit c ≡ true
ascii_digit c e =
    digit_then c (is_ascii_digit c)
    (else_digit (is_ascii_uppercase c) Kind.Large _ refl
    (else_digit (is_newline c) Kind.Newline _ refl
    (else_digit (is_ascii_blank c) Kind.Blank _ refl
    (else_digit (is_ascii_lowercase c || c == 95) Kind.Small _ refl e))))

no_wide : (g : GeneralCategory) → is_digit_kind (wide_kind g) ≡ false
no_wide GeneralCategory.LowercaseLetter = refl
no_wide _ = refl

decimal : (c : ℕ) → is_ascii_digit c ≡ true → is_decimal c ≡ true
decimal c e = grind arith

digit_by : (c : ℕ) (b : Bool) → is_digit_kind (cond b (ascii_kind c) (wide_kind (general_category c))) ≡ true → is_decimal c ≡ true
digit_by c true e = decimal c (ascii_digit c e)
digit_by c false e = absurd (true≢false (sym e ∙ no_wide (general_category c)))

pub digit_decimal : (c : ℕ) → kind_of c ≡ Kind.Digit → is_decimal c ≡ true
unfolding kind_of
digit_decimal c k = digit_by c (nat_lt c 128) (ap is_digit_kind k)
