-- Operators in backquotes (Haskell 98 Report, section 3.2).
use Rattle.hr_tree.specs.declared.names.Operator.{Operator}

abbrev pub IsQuoted : Operator → Type 0
IsQuoted (Operator.Symbol symbol) = ⊥
IsQuoted (Operator.Quoted left name right) = Unit {0}
