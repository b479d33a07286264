-- What lexemes are to the layout rule, by their class and spelling (Haskell 98 Report, sections 2.2 and 2.4).
use Rattle.std.specs.Prelude.{ℕ, List, [], ◌∷◌, if◌then◌else◌}
use lib.Chars.{codes}
use Rattle.hr_base.specs.declared.lexeme.Class.{Class}
use Rattle.hr_base.specs.declared.lexeme.Lexeme.{Lexeme}
use Rattle.hr_rules.specs.declared.role.Role.{Role}
use Rattle.hr_rules.specs.Names.{is_spelled, is_one_of}

abbrev pub fixity_words : List (List ℕ)
fixity_words = codes "infix" ∷ codes "infixl" ∷ codes "infixr" ∷ []

-- the words that begin a declaration of the top level alone
abbrev pub top_words : List (List ℕ)
top_words = codes "type" ∷ codes "data" ∷ codes "newtype" ∷ codes "import" ∷ []

abbrev pub open_brackets : List (List ℕ)
open_brackets = codes "(" ∷ codes "[" ∷ []

-- of a variable operator
abbrev pub symbol_role : List ℕ → Role
symbol_role text = if is_spelled (codes "-") text then Role.Minus else Role.Operator

-- of a reserved word
abbrev pub word_role : List ℕ → Role
word_role text =
    if is_spelled (codes "_") text then Role.Wildcard
    else (if is_spelled (codes "where") text then Role.Where
    else (if is_spelled (codes "of") text then Role.Of
    else (if is_one_of fixity_words text then Role.FixityWord
    else (if is_one_of top_words text then Role.TopWord
    else Role.Other))))

-- of a reserved operator: `:` is one, and a constructor operator as well
abbrev pub reserved_role : List ℕ → Role
reserved_role text =
    if is_spelled (codes ":") text then Role.Operator
    else (if is_spelled (codes "::") text then Role.DoubleColon
    else (if is_spelled (codes "|") text then Role.Bar
    else (if is_spelled (codes "->") text then Role.Arrow
    else (if is_spelled (codes "~") text then Role.Tilde
    else Role.Other))))

-- of a special
abbrev pub special_role : List ℕ → Role
special_role text =
    if is_one_of open_brackets text then Role.OpenBracket
    else (if is_spelled (codes "`") text then Role.Backquote
    else (if is_spelled (codes ",") text then Role.Comma
    else (if is_spelled (codes ";") text then Role.Semicolon
    else (if is_spelled (codes "{") text then Role.OpenBrace
    else (if is_spelled (codes "}") text then Role.CloseBrace
    else Role.Other)))))

abbrev pub role_by : Class → List ℕ → Role
role_by Class.VarId text = Role.Name
role_by Class.ConId text = Role.Name
role_by Class.QVarId text = Role.Name
role_by Class.QConId text = Role.Name
role_by Class.Integer text = Role.Literal
role_by Class.Float text = Role.Literal
role_by Class.Char text = Role.Literal
role_by Class.Str text = Role.Literal
role_by Class.VarSym text = symbol_role text
role_by Class.ConSym text = Role.Operator
role_by Class.QVarSym text = Role.Operator
role_by Class.QConSym text = Role.Operator
role_by Class.ReservedId text = word_role text
role_by Class.ReservedOp text = reserved_role text
role_by Class.Special text = special_role text

unfoldable pub role_of : Lexeme → Role
role_of lexeme = role_by lexeme.class lexeme.text
