-- Lexemes with one spelling (Haskell 98 Report, sections 2.2 and 2.4), by class and text.
use Rattle.std.specs.Prelude.{ℕ, ◌≡◌, List}
use lib.Chars.{codes}
use Rattle.hr_base.specs.declared.lexeme.Class.{Class}
use Rattle.hr_base.specs.declared.lexeme.Item.{Item}
use Rattle.hr_base.specs.declared.lexeme.Lexeme.{Lexeme}
use Rattle.hr_grammar.specs.Words.{IsText}
use Rattle.hr_parse_lexeme.specs.declared.mark.Mark.{Mark}

abbrev pub mark_class : Mark → Class
mark_class Mark.LeftParen = Class.Special
mark_class Mark.RightParen = Class.Special
mark_class Mark.LeftSquare = Class.Special
mark_class Mark.RightSquare = Class.Special
mark_class Mark.LeftBrace = Class.Special
mark_class Mark.Comma = Class.Special
mark_class Mark.Semicolon = Class.Special
mark_class Mark.Backquote = Class.Special
mark_class Mark.Equals = Class.ReservedOp
mark_class Mark.Bar = Class.ReservedOp
mark_class Mark.Arrow = Class.ReservedOp
mark_class Mark.BackArrow = Class.ReservedOp
mark_class Mark.DoubleColon = Class.ReservedOp
mark_class Mark.Colon = Class.ReservedOp
mark_class Mark.Dots = Class.ReservedOp
mark_class Mark.Backslash = Class.ReservedOp
mark_class Mark.At = Class.ReservedOp
mark_class Mark.Tilde = Class.ReservedOp
mark_class Mark.Minus = Class.VarSym
mark_class Mark.As = Class.VarId
mark_class Mark.Hiding = Class.VarId
mark_class Mark.Qualified = Class.VarId
mark_class _ = Class.ReservedId

abbrev pub mark_text : Mark → List ℕ
mark_text Mark.LeftParen = codes "("
mark_text Mark.RightParen = codes ")"
mark_text Mark.LeftSquare = codes "["
mark_text Mark.RightSquare = codes "]"
mark_text Mark.LeftBrace = codes "{"
mark_text Mark.Comma = codes ","
mark_text Mark.Semicolon = codes ";"
mark_text Mark.Backquote = codes "`"
mark_text Mark.Equals = codes "="
mark_text Mark.Bar = codes "|"
mark_text Mark.Arrow = codes "->"
mark_text Mark.BackArrow = codes "<-"
mark_text Mark.DoubleColon = codes "::"
mark_text Mark.Colon = codes ":"
mark_text Mark.Dots = codes ".."
mark_text Mark.Backslash = codes "\\"
mark_text Mark.At = codes "@"
mark_text Mark.Tilde = codes "~"
mark_text Mark.Wildcard = codes "_"
mark_text Mark.Case = codes "case"
mark_text Mark.Data = codes "data"
mark_text Mark.Else = codes "else"
mark_text Mark.If = codes "if"
mark_text Mark.Import = codes "import"
mark_text Mark.In = codes "in"
mark_text Mark.Let = codes "let"
mark_text Mark.Module = codes "module"
mark_text Mark.Newtype = codes "newtype"
mark_text Mark.Of = codes "of"
mark_text Mark.Then = codes "then"
mark_text Mark.Type = codes "type"
mark_text Mark.Where = codes "where"
mark_text Mark.Minus = codes "-"
mark_text Mark.As = codes "as"
mark_text Mark.Hiding = codes "hiding"
mark_text Mark.Qualified = codes "qualified"

abbrev pub IsMarked : Mark → Lexeme → Type 0
IsMarked mark lexeme = (lexeme.class ≡ mark_class mark) × (lexeme.text ≡ mark_text mark)

-- an item whose lexeme this is: of a left parenthesis it says what `IsLeftParen` says
abbrev pub IsMark : Mark → Item → Type 0
IsMark mark item = IsText (mark_class mark) (mark_text mark) item
