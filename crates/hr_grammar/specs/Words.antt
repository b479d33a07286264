-- The lexemes of the grammar (Haskell 98 Report, sections 2.2 to 2.4).
use Rattle.std.specs.Prelude.{ℕ, ◌≡◌, ◌⊎◌, List}
use lib.Chars.{codes}
use Rattle.hr_base.specs.declared.lexeme.Class.{Class}
use Rattle.hr_base.specs.declared.lexeme.Item.{Item}

-- an item of the class
abbrev pub IsOf : Class → Item → Type 0
IsOf class item = item.lexeme.class ≡ class

-- an item of the class with the text
abbrev pub IsText : Class → List ℕ → Item → Type 0
IsText class text item = IsOf class item × (item.lexeme.text ≡ text)

abbrev pub IsWord : List ℕ → Item → Type 0
IsWord = IsText Class.ReservedId

abbrev pub IsReserved : List ℕ → Item → Type 0
IsReserved = IsText Class.ReservedOp

abbrev pub IsSpecial : List ℕ → Item → Type 0
IsSpecial = IsText Class.Special

-- a word that is special in imports alone
abbrev pub IsImportWord : List ℕ → Item → Type 0
IsImportWord = IsText Class.VarId

abbrev pub IsLeftParen : Item → Type 0
IsLeftParen = IsSpecial (codes "(")

abbrev pub IsRightParen : Item → Type 0
IsRightParen = IsSpecial (codes ")")

abbrev pub IsLeftSquare : Item → Type 0
IsLeftSquare = IsSpecial (codes "[")

abbrev pub IsRightSquare : Item → Type 0
IsRightSquare = IsSpecial (codes "]")

abbrev pub IsLeftBrace : Item → Type 0
IsLeftBrace = IsSpecial (codes "{")

abbrev pub IsRightBrace : Item → Type 0
IsRightBrace = IsSpecial (codes "}")

abbrev pub IsBackquote : Item → Type 0
IsBackquote = IsSpecial (codes "`")

abbrev pub IsComma : Item → Type 0
IsComma = IsSpecial (codes ",")

abbrev pub IsSemicolon : Item → Type 0
IsSemicolon = IsSpecial (codes ";")

abbrev pub IsEquals : Item → Type 0
IsEquals = IsReserved (codes "=")

abbrev pub IsBar : Item → Type 0
IsBar = IsReserved (codes "|")

abbrev pub IsArrow : Item → Type 0
IsArrow = IsReserved (codes "->")

abbrev pub IsBackArrow : Item → Type 0
IsBackArrow = IsReserved (codes "<-")

abbrev pub IsDoubleColon : Item → Type 0
IsDoubleColon = IsReserved (codes "::")

abbrev pub IsDots : Item → Type 0
IsDots = IsReserved (codes "..")

abbrev pub IsMinus : Item → Type 0
IsMinus = IsText Class.VarSym (codes "-")

abbrev pub IsInteger : Item → Type 0
IsInteger = IsOf Class.Integer

-- literals; floats are no part of the language that is read
abbrev pub IsLiteral : Item → Type 0
IsLiteral item = IsOf Class.Integer item ⊎ (IsOf Class.Char item ⊎ IsOf Class.Str item)
