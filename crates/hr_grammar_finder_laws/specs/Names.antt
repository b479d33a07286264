-- The ways to begin with a name or an operator.
use Rattle.std.specs.Prelude.{ℕ, Bool, List}
use lib.Chars.{codes}
use Rattle.hr_base.specs.declared.lexeme.Class.{Class}
use Rattle.hr_base.specs.declared.lexeme.Item.{Item}
use Rattle.hr_tree.specs.declared.names.Variable.{Variable}
use Rattle.hr_tree.specs.declared.names.Constructor.{Constructor}
use Rattle.hr_tree.specs.declared.names.Operator.{Operator}
use Rattle.hr_grammar_finder_laws.specs.Ways.{Finder, ◌⊕◌, passing, made_by, ◌▶◌, one, in_turn}
use Rattle.hr_grammar_finder_laws.specs.Tests.{is_of, is_reserved, is_special, is_either, is_constructor_symbol, are_commas}

-- a lexeme between two others
abbrev pub between : ℕ → List ℕ → (Item → Bool) → List ℕ → Finder (Item × (Item × Item))
between n left is right = one n (is_special left) ▶ one n is ▶ one n (is_special right)

-- a variable by its name, or by its symbol in parentheses
abbrev pub variable_by : ℕ → (Item → Bool) → (Item → Bool) → Finder Variable
variable_by n is_name is_symbol =
    made_by Variable.Name (one n is_name)
    ⊕ made_by (λ p. Variable.Symbol p.0 p.1.0 p.1.1) (between n (codes "(") is_symbol (codes ")"))

abbrev pub variables : ℕ → Finder Variable
variables n = variable_by n (is_of Class.VarId) (is_of Class.VarSym)

abbrev pub named_variables : ℕ → Finder Variable
named_variables n = variable_by n (is_either Class.VarId Class.QVarId) (is_either Class.VarSym Class.QVarSym)

-- a constructor by its name, or by its symbol in parentheses
abbrev pub constructor_by : ℕ → (Item → Bool) → (Item → Bool) → Finder Constructor
constructor_by n is_name is_symbol =
    made_by Constructor.Name (one n is_name)
    ⊕ made_by (λ p. Constructor.Symbol p.0 p.1.0 p.1.1) (between n (codes "(") is_symbol (codes ")"))

abbrev pub own_constructors : ℕ → Finder Constructor
own_constructors n = constructor_by n (is_of Class.ConId) (is_of Class.ConSym)

-- `()`, `[]`, and the commas of a tuple
abbrev pub built_in : ℕ → Finder Constructor
built_in n =
    made_by (λ p. Constructor.Unit p.0 p.1) (one n (is_special (codes "(")) ▶ one n (is_special (codes ")")))
    ⊕ made_by (λ p. Constructor.EmptyList p.0 p.1) (one n (is_special (codes "[")) ▶ one n (is_special (codes "]")))
    ⊕ made_by (λ p. Constructor.Tuple p.0 p.1.0 p.1.1)
    (one n (is_special (codes "(")) ▶ passing are_commas (in_turn (one n (is_special (codes ",")))) ▶ one n (is_special (codes ")")))

abbrev pub constructors : ℕ → Finder Constructor
constructors n = constructor_by n (is_either Class.ConId Class.QConId) is_constructor_symbol ⊕ built_in n

abbrev pub type_constructors : ℕ → Finder Constructor
type_constructors n = constructor_by n (is_either Class.ConId Class.QConId) (is_reserved (codes "->")) ⊕ built_in n

-- an operator by its symbol, or by a name in backquotes
abbrev pub operator_by : ℕ → (Item → Bool) → (Item → Bool) → Finder Operator
operator_by n is_symbol is_name =
    made_by Operator.Symbol (one n is_symbol)
    ⊕ made_by (λ p. Operator.Quoted p.0 p.1.0 p.1.1) (between n (codes "`") is_name (codes "`"))

abbrev pub own_variable_operators : ℕ → Finder Operator
own_variable_operators n = operator_by n (is_of Class.VarSym) (is_of Class.VarId)

abbrev pub own_constructor_operators : ℕ → Finder Operator
own_constructor_operators n = operator_by n (is_of Class.ConSym) (is_of Class.ConId)

abbrev pub own_operators : ℕ → Finder Operator
own_operators n = own_variable_operators n ⊕ own_constructor_operators n

abbrev pub constructor_operators : ℕ → Finder Operator
constructor_operators n = operator_by n is_constructor_symbol (is_either Class.ConId Class.QConId)

abbrev pub variable_operators : ℕ → Finder Operator
variable_operators n = operator_by n (is_either Class.VarSym Class.QVarSym) (is_either Class.VarId Class.QVarId)

abbrev pub operators : ℕ → Finder Operator
operators n = variable_operators n ⊕ constructor_operators n
