-- Names and operators as they stand in a tree (Haskell 98 Report, section 3.2).
use Rattle.std.specs.Prelude.{ℕ, ◌⊎◌, ◌≤◌, List, length, Option, Some, None}
use Rattle.std.specs.List.{AllByRecursion}
use lib.Chars.{codes}
use Rattle.hr_base.specs.declared.lexeme.Class.{Class}
use Rattle.hr_base.specs.declared.lexeme.Item.{Item}
use Rattle.hr_tree.specs.declared.names.Variable.{Variable}
use Rattle.hr_tree.specs.declared.names.Constructor.{Constructor}
use Rattle.hr_tree.specs.declared.names.Operator.{Operator}
use Rattle.hr_grammar.specs.Words.{IsOf, IsText, IsReserved, IsLeftParen, IsRightParen, IsLeftSquare, IsRightSquare, IsBackquote, IsComma, IsArrow}

-- an item that may be there
abbrev pub Maybe : (Item → Type 0) → Option Item → Type 0
Maybe Is None = Unit {0}
Maybe Is (Some item) = Is item

-- `:` is a reserved operator, and a constructor operator too
abbrev pub IsColon : Item → Type 0
IsColon = IsReserved (codes ":")

-- var: a variable that a pattern or a declaration binds
abbrev pub IsVariable : Variable → Type 0
IsVariable (Variable.Name name) = IsOf Class.VarId name
IsVariable (Variable.Symbol left symbol right) = IsLeftParen left × (IsOf Class.VarSym symbol × IsRightParen right)

-- qvar: a variable that an expression or an export names
abbrev pub IsNamedVariable : Variable → Type 0
IsNamedVariable (Variable.Name name) = IsOf Class.VarId name ⊎ IsOf Class.QVarId name
IsNamedVariable (Variable.Symbol left symbol right) = IsLeftParen left × ((IsOf Class.VarSym symbol ⊎ IsOf Class.QVarSym symbol) × IsRightParen right)

-- tuples have two to fifteen parts
abbrev pub AreParts : ℕ → Type 0
AreParts n = (2 ≤ n) × (n ≤ 15)

-- the commas of a tuple's constructor, one fewer than its parts
abbrev pub AreCommas : List Item → Type 0
AreCommas commas = AllByRecursion IsComma commas × ((1 ≤ length commas) × (length commas ≤ 14))

-- gcon: a constructor that an expression or a pattern names
abbrev pub IsConstructor : Constructor → Type 0
IsConstructor (Constructor.Name name) = IsOf Class.ConId name ⊎ IsOf Class.QConId name
IsConstructor (Constructor.Symbol left symbol right) = IsLeftParen left × ((IsOf Class.ConSym symbol ⊎ (IsOf Class.QConSym symbol ⊎ IsColon symbol)) × IsRightParen right)
IsConstructor (Constructor.Unit left right) = IsLeftParen left × IsRightParen right
IsConstructor (Constructor.EmptyList left right) = IsLeftSquare left × IsRightSquare right
IsConstructor (Constructor.Tuple left commas right) = IsLeftParen left × (AreCommas commas × IsRightParen right)

-- gtycon: a type's constructor
abbrev pub IsTypeConstructor : Constructor → Type 0
IsTypeConstructor (Constructor.Name name) = IsOf Class.ConId name ⊎ IsOf Class.QConId name
IsTypeConstructor (Constructor.Symbol left symbol right) = IsLeftParen left × (IsArrow symbol × IsRightParen right)
IsTypeConstructor (Constructor.Unit left right) = IsLeftParen left × IsRightParen right
IsTypeConstructor (Constructor.EmptyList left right) = IsLeftSquare left × IsRightSquare right
IsTypeConstructor (Constructor.Tuple left commas right) = IsLeftParen left × (AreCommas commas × IsRightParen right)

-- con: a constructor that a declaration or a list of names gives
abbrev pub IsOwnConstructor : Constructor → Type 0
IsOwnConstructor (Constructor.Name name) = IsOf Class.ConId name
IsOwnConstructor (Constructor.Symbol left symbol right) = IsLeftParen left × (IsOf Class.ConSym symbol × IsRightParen right)
IsOwnConstructor _ = ⊥

-- varop: a variable operator that an equation or a fixity declares
abbrev pub IsOwnVariableOperator : Operator → Type 0
IsOwnVariableOperator (Operator.Symbol symbol) = IsOf Class.VarSym symbol
IsOwnVariableOperator (Operator.Quoted left name right) = IsBackquote left × (IsOf Class.VarId name × IsBackquote right)

-- conop
abbrev pub IsOwnConstructorOperator : Operator → Type 0
IsOwnConstructorOperator (Operator.Symbol symbol) = IsOf Class.ConSym symbol
IsOwnConstructorOperator (Operator.Quoted left name right) = IsBackquote left × (IsOf Class.ConId name × IsBackquote right)

-- op: an operator whose fixity is declared
abbrev pub IsOwnOperator : Operator → Type 0
IsOwnOperator operator = IsOwnVariableOperator operator ⊎ IsOwnConstructorOperator operator

-- qconop: between patterns
abbrev pub IsConstructorOperator : Operator → Type 0
IsConstructorOperator (Operator.Symbol symbol) = IsOf Class.ConSym symbol ⊎ (IsOf Class.QConSym symbol ⊎ IsColon symbol)
IsConstructorOperator (Operator.Quoted left name right) = IsBackquote left × ((IsOf Class.ConId name ⊎ IsOf Class.QConId name) × IsBackquote right)

-- qvarop
abbrev pub IsVariableOperator : Operator → Type 0
IsVariableOperator (Operator.Symbol symbol) = IsOf Class.VarSym symbol ⊎ IsOf Class.QVarSym symbol
IsVariableOperator (Operator.Quoted left name right) = IsBackquote left × ((IsOf Class.VarId name ⊎ IsOf Class.QVarId name) × IsBackquote right)

-- qop: between expressions
abbrev pub IsOperator : Operator → Type 0
IsOperator operator = IsVariableOperator operator ⊎ IsConstructorOperator operator

-- what may begin a section is no minus
abbrev pub IsNoMinus : Operator → Type 0
IsNoMinus (Operator.Symbol symbol) = IsText Class.VarSym (codes "-") symbol → ⊥
IsNoMinus (Operator.Quoted left name right) = Unit {0}
