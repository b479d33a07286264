-- What is read where a character or a string begins.
use Rattle.std.specs.Prelude.{ℕ, suc, ◌+◌, ◌==◌, if◌then◌else◌, List, [], ◌∷◌, Option, Some, None}
use Rattle.std.specs.Option.{option_map}
use Rattle.hr_base.specs.declared.lexeme.Class.{Class}
use Rattle.hr_rules.specs.Quotes.{ascii_names, char_len, code_len, control_len, named_len, string_len}
use Rattle.hr_lexer.specs.declared.taken.Taken.{Taken}

-- an escape, behind its backslash, that begins with `o`, `x` or `^`, or is the name of a control
abbrev pub marked_len : List ℕ → Option ℕ
marked_len [] = None
marked_len (c ∷ rest) =
    if c == 111 then option_map (λ n. n + 1) (code_len 8 rest)
    else (if c == 120 then option_map (λ n. n + 1) (code_len 16 rest)
    else (if c == 94 then control_len rest else named_len ascii_names (c ∷ rest)))

-- a literal whose length is known but for its first quote
abbrev pub literal : Class → Option ℕ → Option Taken
literal class None = None
literal class (Some n) = Some (record { class = class; len = suc n })

-- a character or a string, behind its first quote
abbrev pub char_at_quote : List ℕ → Option Taken
char_at_quote rest = literal Class.Char (char_len rest)

abbrev pub string_at_quote : List ℕ → Option Taken
string_at_quote rest = literal Class.Str (string_len rest)
