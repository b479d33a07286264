-- Lexemes that are one: of one class, with one text.
use Rattle.std.specs.Prelude.{ℕ, Bool, ◌&&◌, ◌==◌, nat_eq}
use Rattle.std.specs.Cmp.Lexicographic.{pointwise}
use Rattle.hr_base.specs.declared.lexeme.Class.{Class}
use Rattle.hr_base.specs.declared.lexeme.Lexeme.{Lexeme}

-- each class has a number of its own
abbrev pub class_number : Class → ℕ
class_number Class.VarId = 0
class_number Class.ConId = 1
class_number Class.QVarId = 2
class_number Class.QConId = 3
class_number Class.VarSym = 4
class_number Class.ConSym = 5
class_number Class.QVarSym = 6
class_number Class.QConSym = 7
class_number Class.Integer = 8
class_number Class.Float = 9
class_number Class.Char = 10
class_number Class.Str = 11
class_number Class.ReservedId = 12
class_number Class.ReservedOp = 13
class_number Class.Special = 14

abbrev pub same_lexeme : Lexeme → Lexeme → Bool
same_lexeme left right = class_number left.class == class_number right.class && pointwise nat_eq left.text right.text
