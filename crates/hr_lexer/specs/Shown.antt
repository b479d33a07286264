-- How a refusal of the lexer is shown.
use Rattle.std.specs.Prelude.{ℕ, Option, Some, None}
use Rattle.hr_lexer.specs.declared.error.LexError.{LexError}

-- its number: a byte that begins no character, a place where nothing fits, an open comment, an integer that is too
-- great, a text that is too long
abbrev pub refusal_number : LexError → Option ℕ
refusal_number (LexError.BadUtf8 place) = Some 1
refusal_number (LexError.BadLexeme place) = Some 2
refusal_number (LexError.OpenComment place) = Some 3
refusal_number (LexError.LiteralTooWide place) = Some 4
refusal_number LexError.TooLong = Some 5
refusal_number (LexError.Memory error) = None

-- and its place in bytes from 0, where it has one
abbrev pub refusal_place : LexError → Option ℕ
refusal_place (LexError.BadUtf8 place) = Some place
refusal_place (LexError.BadLexeme place) = Some place
refusal_place (LexError.OpenComment place) = Some place
refusal_place (LexError.LiteralTooWide place) = Some place
refusal_place LexError.TooLong = None
refusal_place (LexError.Memory error) = None
