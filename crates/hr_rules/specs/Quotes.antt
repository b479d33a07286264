-- Characters and strings: the Haskell 98 Report, section 2.6. Both hold any character but controls, the
-- backslash and their own quote, and escapes; strings hold `\&` and gaps as well.
use Rattle.std.specs.Prelude.{ℕ, zero, suc, ◌+◌, Bool, not, ◌&&◌, ◌||◌, ◌==◌, nat_le, nat_lt, if◌then◌else◌, List, [], ◌∷◌, Option, Some, None, take, drop, length}
use Rattle.std.specs.List.{prefix_len}
use Rattle.std.specs.Option.{option_map}
use Rattle.std.specs.Char.{is_control, is_ascii_uppercase, is_digit}
use lib.Chars.{codes}
use Rattle.hr_base.specs.declared.lexeme.Class.{Class}
use Rattle.hr_rules.specs.Letters.{among, is_blank}
use Rattle.hr_rules.specs.Runs.{begins_with, begins_word}
use Rattle.hr_rules.specs.Numbers.{value_of, is_decimal}

abbrev pub backslash : ℕ
backslash = 92

abbrev pub quote : ℕ
quote = 39

abbrev pub double_quote : ℕ
double_quote = 34

-- a character that may stand for itself between these quotes
abbrev pub is_plain : ℕ → ℕ → Bool
is_plain own c = not ((is_control c || c == backslash) || c == own)

-- charesc, without `&`
abbrev pub letter_escapes : List ℕ
letter_escapes = codes "abfnrtv\\\"'"

-- what may follow `\^`
abbrev pub is_control_letter : ℕ → Bool
is_control_letter c = is_ascii_uppercase c || among (codes "@[\\]^_") c

-- the names of ASCII's controls, of which the longer stand before the shorter
abbrev pub ascii_names : List (List ℕ)
ascii_names =
    codes "NUL" ∷ codes "SOH" ∷ codes "STX" ∷ codes "ETX" ∷ codes "EOT" ∷ codes "ENQ" ∷ codes "ACK" ∷ codes "BEL"
    ∷ codes "DLE" ∷ codes "DC1" ∷ codes "DC2" ∷ codes "DC3" ∷ codes "DC4" ∷ codes "NAK" ∷ codes "SYN" ∷ codes "ETB"
    ∷ codes "CAN" ∷ codes "SUB" ∷ codes "ESC" ∷ codes "DEL" ∷ codes "BS" ∷ codes "HT" ∷ codes "LF" ∷ codes "VT"
    ∷ codes "FF" ∷ codes "CR" ∷ codes "SO" ∷ codes "SI" ∷ codes "EM" ∷ codes "FS" ∷ codes "GS" ∷ codes "RS"
    ∷ codes "US" ∷ codes "SP" ∷ []

-- the length of the first of the names that the text begins with
abbrev pub named_len : List (List ℕ) → List ℕ → Option ℕ
named_len [] text = None
named_len (name ∷ names) text = if begins_word name text then Some (length name) else named_len names text

-- a number that is the code of a character: at most 0x10FFFF, and no surrogate
abbrev pub is_code : ℕ → Bool
is_code n = nat_lt n 0xD800 || (nat_lt 0xDFFF n && nat_le n 0x10FFFF)

-- the length of the longest run of digits that the text begins with, if they are the code of a character
abbrev pub code_len : ℕ → List ℕ → Option ℕ
code_len base text =
    let n = prefix_len (λ c. is_digit c base) text in
    if n == 0 then None else (if is_code (value_of base (take n text)) then Some n else None)

-- the length of a control's escape, behind its `^`
abbrev pub control_len : List ℕ → Option ℕ
control_len [] = None
control_len (d ∷ _) = if is_control_letter d then Some 2 else None

-- the length of the longest escape, behind its backslash, that the text begins with
unfoldable pub escape_len : List ℕ → Option ℕ
escape_len [] = None
escape_len (c ∷ rest) =
    if among letter_escapes c then Some 1
    else (if is_decimal c then code_len 10 (c ∷ rest)
    else (if c == 111 then option_map (λ n. n + 1) (code_len 8 rest)
    else (if c == 120 then option_map (λ n. n + 1) (code_len 16 rest)
    else (if c == 94 then control_len rest else named_len ascii_names (c ∷ rest)))))

-- the length of a gap, behind its backslash: blanks, one at least, and a backslash
abbrev pub gap_len : List ℕ → Option ℕ
gap_len text =
    let n = prefix_len is_blank text in
    if n == 0 then None else (if begins_with backslash (drop n text) then Some (n + 1) else None)

-- the same for what a string may hold behind a backslash
abbrev pub string_escape_len : List ℕ → Option ℕ
string_escape_len [] = None
string_escape_len (c ∷ rest) =
    if c == 38 then Some 1
    else (if is_blank c then gap_len (c ∷ rest) else escape_len (c ∷ rest))

-- whether the closing quote begins a text
abbrev pub is_closed : List ℕ → Bool
is_closed text = begins_with quote text

-- the same behind a backslash, where an escape of this length follows
abbrev pub closed_behind : List ℕ → Option ℕ → Option ℕ
closed_behind rest None = None
closed_behind rest (Some n) = if is_closed (drop n rest) then Some (n + 2) else None

-- the length of a character literal behind its first quote
abbrev pub char_len : List ℕ → Option ℕ
char_len [] = None
char_len (c ∷ rest) =
    if is_plain quote c then (if is_closed rest then Some 2 else None)
    else (if c == backslash then closed_behind rest (escape_len rest) else None)

-- an escape of this length, and what is behind it
abbrev pub behind_escape : (ℕ → Option ℕ) → Option ℕ → Option ℕ
behind_escape behind None = None
behind_escape behind (Some n) = option_map suc (behind n)

-- the length of a string behind its first quote, where the first characters belong to an escape
abbrev pub string_len_past : ℕ → List ℕ → Option ℕ
string_len_past past [] = None
string_len_past (suc n) (c ∷ rest) = option_map suc (string_len_past n rest)
string_len_past zero (c ∷ rest) =
    if c == double_quote then Some 1
    else (if is_plain double_quote c then option_map suc (string_len_past 0 rest)
    else (if c == backslash then behind_escape (λ n. string_len_past n rest) (string_escape_len rest) else None))

abbrev pub string_len : List ℕ → Option ℕ
string_len text = string_len_past 0 text

-- a literal whose length is known: it has to be the whole text
abbrev pub literal_class : Class → Option ℕ → List ℕ → Option Class
literal_class class None rest = None
literal_class class (Some n) rest = if n == length rest then Some class else None
