-- What is read where a lexeme begins: its class and how many characters it has.
use Rattle.std.specs.Prelude.{ℕ, if◌then◌else◌, List, [], ◌∷◌, Option, Some, None}
use Rattle.hr_base.specs.declared.lexeme.Class.{Class}
use Rattle.hr_rules.specs.declared.character.Kind.{Kind}
use Rattle.hr_rules.specs.Letters.{kind_of}
use Rattle.hr_rules.specs.Comments.{opens}
use Rattle.hr_lexer.specs.declared.taken.Taken.{Taken}
use Rattle.hr_lexer.specs.NameReader.{word_at, conid_at, symbols_at}
use Rattle.hr_lexer.specs.NumberReader.{number_at}
use Rattle.hr_lexer.specs.QuoteReader.{char_at_quote, string_at_quote}

abbrev pub special_at : ℕ → List ℕ → Option Taken
special_at c rest = if opens c rest then None else Some (record { class = Class.Special; len = 1 })

abbrev pub lexeme_at_by : Kind → ℕ → List ℕ → Option Taken
lexeme_at_by Kind.Small c rest = Some (word_at (c ∷ rest))
lexeme_at_by Kind.Large c rest = conid_at (c ∷ rest)
lexeme_at_by Kind.Symbol c rest = symbols_at (c ∷ rest)
lexeme_at_by Kind.Special c rest = special_at c rest
lexeme_at_by Kind.Digit c rest = number_at (c ∷ rest)
lexeme_at_by Kind.Quote c rest = char_at_quote rest
lexeme_at_by Kind.DoubleQuote c rest = string_at_quote rest
lexeme_at_by _ c rest = None

abbrev pub lexeme_at : List ℕ → Option Taken
lexeme_at [] = None
lexeme_at (c ∷ rest) = lexeme_at_by (kind_of c) c rest
