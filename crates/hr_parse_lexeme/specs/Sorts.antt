-- Lexemes of a class, or of one of several (Haskell 98 Report, sections 2.4 and 2.5).
use Rattle.std.specs.Prelude.{Bool, true, false, ◌⊎◌}
use Rattle.hr_base.specs.declared.lexeme.Class.{Class}
use Rattle.hr_base.specs.declared.lexeme.Item.{Item}
use Rattle.hr_grammar.specs.Words.{IsOf, IsLiteral}
use Rattle.hr_parse_lexeme.specs.declared.sort.Sort.{Sort}

abbrev pub IsSort : Sort → Item → Type 0
IsSort Sort.Variable item = IsOf Class.VarId item
IsSort Sort.Constructor item = IsOf Class.ConId item
IsSort Sort.VariableSymbol item = IsOf Class.VarSym item
IsSort Sort.ConstructorSymbol item = IsOf Class.ConSym item
IsSort Sort.NamedVariable item = IsOf Class.VarId item ⊎ IsOf Class.QVarId item
IsSort Sort.NamedConstructor item = IsOf Class.ConId item ⊎ IsOf Class.QConId item
IsSort Sort.NamedVariableSymbol item = IsOf Class.VarSym item ⊎ IsOf Class.QVarSym item
IsSort Sort.QualifiedConstructorSymbol item = IsOf Class.QConSym item
IsSort Sort.Integer item = IsOf Class.Integer item
IsSort Sort.Literal item = IsLiteral item
IsSort Sort.Word item = IsOf Class.ReservedId item

-- the same by the class, computed
abbrev pub has_sort : Sort → Class → Bool
has_sort Sort.Variable Class.VarId = true
has_sort Sort.Constructor Class.ConId = true
has_sort Sort.VariableSymbol Class.VarSym = true
has_sort Sort.ConstructorSymbol Class.ConSym = true
has_sort Sort.NamedVariable Class.VarId = true
has_sort Sort.NamedVariable Class.QVarId = true
has_sort Sort.NamedConstructor Class.ConId = true
has_sort Sort.NamedConstructor Class.QConId = true
has_sort Sort.NamedVariableSymbol Class.VarSym = true
has_sort Sort.NamedVariableSymbol Class.QVarSym = true
has_sort Sort.QualifiedConstructorSymbol Class.QConSym = true
has_sort Sort.Integer Class.Integer = true
has_sort Sort.Literal Class.Integer = true
has_sort Sort.Literal Class.Char = true
has_sort Sort.Literal Class.Str = true
has_sort Sort.Word Class.ReservedId = true
has_sort _ _ = false
