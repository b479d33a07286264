-- Operators: the Haskell 98 Report, section 2.4. An operator is a whole run of symbols: none ends where
-- it could go on. A run of two dashes or more is none, since a comment begins with it.
use Rattle.std.specs.Prelude.{ℕ, Bool, not, ◌&&◌, ◌==◌, nat_lt, length, if◌then◌else◌, List, [], ◌∷◌, Option, Some, None}
use Rattle.std.specs.List.{list_all}
use lib.Chars.{codes}
use Rattle.hr_base.specs.declared.lexeme.Class.{Class}
use Rattle.hr_rules.specs.Letters.{is_symbol}
use Rattle.hr_rules.specs.Names.{is_one_of}
use Rattle.hr_rules.specs.Runs.{is_run, begins_with}

abbrev pub reserved_operators : List (List ℕ)
reserved_operators =
    codes ".." ∷ codes ":" ∷ codes "::" ∷ codes "=" ∷ codes "\\" ∷ codes "|" ∷ codes "<-" ∷ codes "->" ∷ codes "@"
    ∷ codes "~" ∷ codes "=>" ∷ []

unfoldable pub is_reserved_operator : List ℕ → Bool
is_reserved_operator text = is_one_of reserved_operators text

abbrev pub is_dash : ℕ → Bool
is_dash c = c == 45

-- two dashes or more
abbrev pub is_dashes : List ℕ → Bool
is_dashes run = nat_lt 1 (length run) && list_all is_dash run

-- of a run of symbols: one that begins with a colon is a constructor
abbrev pub run_class : List ℕ → Class
run_class run =
    if is_reserved_operator run then Class.ReservedOp
    else (if begins_with 58 run then Class.ConSym else Class.VarSym)

-- a varsym, consym or reserved operator: a symbol, and then symbols
abbrev pub symbol_class : ℕ → List ℕ → List ℕ → Option Class
symbol_class c rest after =
    if is_run is_symbol rest after && not (is_dashes (c ∷ rest)) then Some (run_class (c ∷ rest)) else None
