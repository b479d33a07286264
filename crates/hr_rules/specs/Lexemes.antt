-- The whole lexical rules: the Haskell 98 Report, sections 2.2 to 2.6, on the characters of a text, and
-- what it is for the bytes of a text in UTF-8 to be lexed.
use Rattle.std.specs.Prelude.{ℕ, Bool, true, false, ◌&&◌, ◌≡◌, if◌then◌else◌, List, [], ◌∷◌, ◌++◌, Option, Some, None, take, drop, nat_eq}
use Rattle.std.specs.List.{starts_with}
use Rattle.std.specs.Str.{chars, is_utf8}
use Rattle.hr_base.specs.declared.lexeme.Class.{Class}
use Rattle.hr_base.specs.declared.lexeme.Item.{Item}
use Rattle.hr_base.specs.declared.lexeme.Items.{Items}
use Rattle.hr_rules.specs.declared.character.Kind.{Kind}
use Rattle.hr_rules.specs.Letters.{kind_of}
use Rattle.hr_rules.specs.Names.{small_class}
use Rattle.hr_rules.specs.Operators.{symbol_class}
use Rattle.hr_rules.specs.Qualified.{conid_class, qualifies_reserved}
use Rattle.hr_rules.specs.Numbers.{number_class, is_too_wide}
use Rattle.hr_rules.specs.Quotes.{char_len, string_len, literal_class}
use Rattle.hr_rules.specs.Comments.{begins_line_comment, is_line_comment, is_nested_comment, opens}
use Rattle.hr_rules.specs.Lexing.{Lexes, Classes, Pieces, Barriers, KeepApart, joined}

abbrev pub is_empty : List ℕ → Bool
is_empty [] = true
is_empty _ = false

-- the class of characters that are a whole lexeme, by the kind of the first one
abbrev pub spelled_class_by : Kind → ℕ → List ℕ → List ℕ → Option Class
spelled_class_by Kind.Small c rest after = small_class c rest after
spelled_class_by Kind.Large c rest after = conid_class rest after
spelled_class_by Kind.Symbol c rest after = symbol_class c rest after
spelled_class_by Kind.Special c rest after = if is_empty rest then Some Class.Special else None
spelled_class_by Kind.Digit c rest after = number_class c rest
spelled_class_by Kind.Quote c rest after = literal_class Class.Char (char_len rest) rest
spelled_class_by Kind.DoubleQuote c rest after = literal_class Class.Str (string_len rest) rest
spelled_class_by _ c rest after = None

abbrev pub spelled_class : Classes
spelled_class [] after = None
spelled_class (c ∷ rest) after = spelled_class_by (kind_of c) c rest after

-- one blank or one comment
abbrev pub spelled_piece_by : Kind → ℕ → List ℕ → List ℕ → Bool
spelled_piece_by Kind.Blank c rest after = is_empty rest
spelled_piece_by Kind.Newline c rest after = is_empty rest
spelled_piece_by Kind.Symbol c rest after = is_line_comment (c ∷ rest) after
spelled_piece_by Kind.Special c rest after = is_nested_comment (c ∷ rest)
spelled_piece_by _ c rest after = false

abbrev pub spelled_piece : Pieces
spelled_piece [] after = false
spelled_piece (c ∷ rest) after = spelled_piece_by (kind_of c) c rest after

-- no lexeme begins where a blank, a comment or `{-` does, nor where a qualified reserved word or an integer
-- that is too great does
abbrev pub spelled_bars_by : Kind → ℕ → List ℕ → Bool
spelled_bars_by Kind.Blank c rest = true
spelled_bars_by Kind.Newline c rest = true
spelled_bars_by Kind.Symbol c rest = begins_line_comment (c ∷ rest)
spelled_bars_by Kind.Special c rest = opens c rest
spelled_bars_by Kind.Large c rest = qualifies_reserved rest
spelled_bars_by Kind.Digit c rest = is_too_wide c rest
spelled_bars_by _ c rest = false

abbrev pub spelled_bars : Barriers
spelled_bars [] = false
spelled_bars (c ∷ rest) = spelled_bars_by (kind_of c) c rest

-- the three on bytes: a text has a class, and is a piece, by the characters that it spells in UTF-8
abbrev pub are_utf8 : List ℕ → List ℕ → Bool
are_utf8 text after = is_utf8 text && is_utf8 after

unfoldable pub class_of : Classes
class_of text after = if are_utf8 text after then spelled_class (chars text) (chars after) else None

unfoldable pub is_piece : Pieces
is_piece text after = are_utf8 text after && spelled_piece (chars text) (chars after)

unfoldable pub bars : Barriers
bars rest = spelled_bars (chars rest)

-- U+FEFF, which may stand at the very start of a text
abbrev pub byte_order_mark : List ℕ
byte_order_mark = 0xEF ∷ 0xBB ∷ 0xBF ∷ []

abbrev pub mark_len : List ℕ → ℕ
mark_len bytes = if starts_with nat_eq bytes byte_order_mark then 3 else 0

-- bytes put in front of the first trivia, or of the tail where there is no item
abbrev pub led_by : List ℕ → List Item → List ℕ → Items
led_by mark [] tail = record { list = []; tail = mark ++ tail }
led_by mark (item ∷ items) tail =
    record { list = record { trivia = mark ++ item.trivia; lexeme = item.lexeme } ∷ items; tail = tail }

-- the bytes of a text are lexed as these items: a byte order mark at their start counts as trivia
abbrev pub LexesText : List ℕ → Items → Type 0
LexesText bytes items =
    (list : List Item) × ((tail : List ℕ) × (Lexes class_of is_piece bars (drop (mark_len bytes) bytes) list tail
    × (items ≡ led_by (take (mark_len bytes) bytes) list tail)))

-- the rules meet what a text needs to have one list of items at most
abbrev pub RulesKeepApart : Type 0
RulesKeepApart = KeepApart class_of is_piece bars

-- a text has one list of items at most
abbrev pub OneReading : Type 0
OneReading = (bytes : List ℕ) (items others : Items) → LexesText bytes items → LexesText bytes others → items ≡ others

-- the items of a text, joined, are the text
abbrev pub ReadingsJoin : Type 0
ReadingsJoin = (bytes : List ℕ) (items : Items) → LexesText bytes items → bytes ≡ joined items.list items.tail
