-- The kinds of character: the Haskell 98 Report, section 2.2. Past ASCII the general category of Unicode
-- decides: Lu and Lt are large, Ll is small, Nd is a digit, S and P are symbols, Zs is blank.
use Rattle.std.specs.Prelude.{ℕ, Bool, true, false, ◌||◌, ◌==◌, nat_lt, if◌then◌else◌, List}
use Rattle.std.specs.List.{list_any}
use Rattle.std.specs.Char.{is_ascii_digit, is_ascii_lowercase, is_ascii_uppercase}
use lib.Chars.{codes}
use Rattle.ucd_category.specs.declared.GeneralCategory.{GeneralCategory}
use Rattle.ucd_category.specs.GeneralCategory.{general_category}
use Rattle.hr_rules.specs.declared.character.Kind.{Kind}

-- ascSymbol, and the colon
abbrev pub ascii_symbols : List ℕ
ascii_symbols = codes "!#$%&*+./<=>?@\\^|-~:"

abbrev pub specials : List ℕ
specials = codes "(),;[]`{}"

abbrev pub among : List ℕ → ℕ → Bool
among list c = list_any (λ x. x == c) list

-- linefeed, form feed, return
abbrev pub is_newline : ℕ → Bool
is_newline c = (c == 10 || c == 12) || c == 13

-- space, tab, vertical tab
abbrev pub is_ascii_blank : ℕ → Bool
is_ascii_blank c = (c == 32 || c == 9) || c == 11

abbrev pub ascii_mark_kind : ℕ → Kind
ascii_mark_kind c =
    if among ascii_symbols c then Kind.Symbol
    else (if among specials c then Kind.Special
    else (if c == 39 then Kind.Quote
    else (if c == 34 then Kind.DoubleQuote else Kind.Other)))

abbrev pub ascii_kind : ℕ → Kind
ascii_kind c =
    if is_ascii_lowercase c || c == 95 then Kind.Small
    else (if is_ascii_blank c then Kind.Blank
    else (if is_newline c then Kind.Newline
    else (if is_ascii_uppercase c then Kind.Large
    else (if is_ascii_digit c then Kind.Digit else ascii_mark_kind c))))

abbrev pub wide_kind : GeneralCategory → Kind
wide_kind GeneralCategory.LowercaseLetter = Kind.Small
wide_kind GeneralCategory.UppercaseLetter = Kind.Large
wide_kind GeneralCategory.TitlecaseLetter = Kind.Large
wide_kind GeneralCategory.DecimalNumber = Kind.WideDigit
wide_kind GeneralCategory.SpaceSeparator = Kind.Blank
wide_kind GeneralCategory.ConnectorPunctuation = Kind.Symbol
wide_kind GeneralCategory.DashPunctuation = Kind.Symbol
wide_kind GeneralCategory.OpenPunctuation = Kind.Symbol
wide_kind GeneralCategory.ClosePunctuation = Kind.Symbol
wide_kind GeneralCategory.InitialPunctuation = Kind.Symbol
wide_kind GeneralCategory.FinalPunctuation = Kind.Symbol
wide_kind GeneralCategory.OtherPunctuation = Kind.Symbol
wide_kind GeneralCategory.MathSymbol = Kind.Symbol
wide_kind GeneralCategory.CurrencySymbol = Kind.Symbol
wide_kind GeneralCategory.ModifierSymbol = Kind.Symbol
wide_kind GeneralCategory.OtherSymbol = Kind.Symbol
wide_kind _ = Kind.Other

unfoldable pub kind_of : ℕ → Kind
kind_of c = if nat_lt c 128 then ascii_kind c else wide_kind (general_category c)

-- what may stand in a name behind its first letter
abbrev pub continues_name : Kind → Bool
continues_name Kind.Small = true
continues_name Kind.Large = true
continues_name Kind.Digit = true
continues_name Kind.WideDigit = true
continues_name Kind.Quote = true
continues_name _ = false

abbrev pub is_symbol_kind : Kind → Bool
is_symbol_kind Kind.Symbol = true
is_symbol_kind _ = false

abbrev pub is_blank_kind : Kind → Bool
is_blank_kind Kind.Blank = true
is_blank_kind Kind.Newline = true
is_blank_kind _ = false

abbrev pub is_in_name : ℕ → Bool
is_in_name c = continues_name (kind_of c)

abbrev pub is_symbol : ℕ → Bool
is_symbol c = is_symbol_kind (kind_of c)

abbrev pub is_blank : ℕ → Bool
is_blank c = is_blank_kind (kind_of c)
