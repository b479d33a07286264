-- Names without and with their qualifiers.
use Rattle.std.specs.Prelude.{ℕ, ◌+◌, min, Bool, true, false, ◌==◌, List, [], ◌∷◌, ◌++◌, length, take, drop, Option, Some, None, if◌then◌else◌}
use Rattle.hr_base.specs.declared.lexeme.Class.{Class}
use Rattle.hr_base.specs.declared.lexeme.Lexeme.{Lexeme}

-- the class of a name without its qualifier; none for a lexeme that is no name
abbrev pub plain_class : Class → Option Class
plain_class Class.VarId = Some Class.VarId
plain_class Class.ConId = Some Class.ConId
plain_class Class.VarSym = Some Class.VarSym
plain_class Class.ConSym = Some Class.ConSym
plain_class Class.QVarId = Some Class.VarId
plain_class Class.QConId = Some Class.ConId
plain_class Class.QVarSym = Some Class.VarSym
plain_class Class.QConSym = Some Class.ConSym
plain_class _ = None

abbrev pub is_qualified : Class → Bool
is_qualified Class.QVarId = true
is_qualified Class.QConId = true
is_qualified Class.QVarSym = true
is_qualified Class.QConSym = true
is_qualified _ = false

-- the bytes up to the first dot (46), that among them, behind so many; 0 where there is none
abbrev pub dot_from : ℕ → List ℕ → ℕ
dot_from place [] = 0
dot_from place (b ∷ bytes) = if b == 46 then place + 1 else dot_from (place + 1) bytes

-- the bytes of a name's qualifier and the dot behind it
abbrev pub qualifier_len : Lexeme → ℕ
qualifier_len lexeme = if is_qualified lexeme.class then min (dot_from 0 lexeme.text) (length lexeme.text) else 0

abbrev pub plain_text : Lexeme → List ℕ
plain_text lexeme = drop (qualifier_len lexeme) lexeme.text

-- the name with another text behind its qualifier
abbrev pub respelled : Lexeme → List ℕ → Lexeme
respelled lexeme new =
    record { class = lexeme.class; text = if is_qualified lexeme.class then take (qualifier_len lexeme) lexeme.text ++ new else new }
