-- Tests that compute: of lexemes and of lists, beside what the grammar says of them.
use Rattle.std.specs.Prelude.{ℕ, Bool, true, false, not, ◌&&◌, ◌||◌, ◌==◌, nat_lt, List, [], ◌∷◌, length, is_some}
use lib.Chars.{codes}
use Rattle.hr_base.specs.declared.lexeme.Class.{Class}
use Rattle.hr_base.specs.declared.lexeme.Item.{Item}
use Rattle.hr_rules.specs.Names.{is_spelled}
use Rattle.hr_tree.specs.declared.lists.Operand.{Operand}
use Rattle.hr_tree.specs.declared.names.Operator.{Operator}

-- the number of a class, no two have the same one
abbrev pub class_number : Class → ℕ
class_number Class.VarId = 0
class_number Class.ConId = 1
class_number Class.QVarId = 2
class_number Class.QConId = 3
class_number Class.VarSym = 4
class_number Class.ConSym = 5
class_number Class.QVarSym = 6
class_number Class.QConSym = 7
class_number Class.Integer = 8
class_number Class.Float = 9
class_number Class.Char = 10
class_number Class.Str = 11
class_number Class.ReservedId = 12
class_number Class.ReservedOp = 13
class_number Class.Special = 14

abbrev pub is_of : Class → Item → Bool
is_of class item = class_number item.lexeme.class == class_number class

abbrev pub is_text : Class → List ℕ → Item → Bool
is_text class text item = is_of class item && is_spelled text item.lexeme.text

abbrev pub is_word : List ℕ → Item → Bool
is_word = is_text Class.ReservedId

abbrev pub is_reserved : List ℕ → Item → Bool
is_reserved = is_text Class.ReservedOp

abbrev pub is_special : List ℕ → Item → Bool
is_special = is_text Class.Special

abbrev pub is_import_word : List ℕ → Item → Bool
is_import_word = is_text Class.VarId

abbrev pub is_minus : Item → Bool
is_minus = is_text Class.VarSym (codes "-")

abbrev pub is_literal : Item → Bool
is_literal item = is_of Class.Integer item || (is_of Class.Char item || is_of Class.Str item)

-- an integer of one digit
abbrev pub is_digit : Item → Bool
is_digit item = is_of Class.Integer item && (length item.lexeme.text == 1)

-- a name or an operator that may be qualified
abbrev pub is_either : Class → Class → Item → Bool
is_either first second item = is_of first item || is_of second item

abbrev pub is_constructor_symbol : Item → Bool
is_constructor_symbol item = is_of Class.ConSym item || (is_of Class.QConSym item || is_reserved (codes ":") item)

abbrev pub is_no_minus : Operator → Bool
is_no_minus (Operator.Symbol symbol) = not (is_minus symbol)
is_no_minus (Operator.Quoted left name right) = true

-- lists with one part or more, with two or more, and those of a tuple
abbrev pub has_one : {T : Type 0} → List T → Bool
has_one [] = false
has_one (x ∷ xs) = true

abbrev pub has_two : {T : Type 0} → List T → Bool
has_two [] = false
has_two (x ∷ xs) = has_one xs

-- from a number to another one, both with it
abbrev pub is_from_to : ℕ → ℕ → ℕ → Bool
is_from_to low high n = not (nat_lt n low) && not (nat_lt high n)

abbrev pub are_parts : {T : Type 0} → List T → Bool
are_parts parts = is_from_to 2 15 (length parts)

abbrev pub are_commas : List Item → Bool
are_commas commas = is_from_to 1 14 (length commas)

-- two operands or more, or one with a minus
abbrev pub is_sequence : {T : Type 0} → List (Operand T) → Bool
is_sequence [] = false
is_sequence (operand ∷ []) = is_some operand.minus
is_sequence (operand ∷ (next ∷ rest)) = true
