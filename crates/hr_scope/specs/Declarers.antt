-- The first two lexemes that declare a name, and what a name is then bound to.
use Rattle.std.specs.Prelude.{ℕ, Option, Some, None}
use Rattle.hr_base.specs.declared.bind.Binder.{Binder}
use Rattle.hr_base.specs.declared.place.Spot.{Spot}
use Rattle.hr_scope.specs.declared.locals.Declarers.{Declarers}
use Rattle.hr_scope.specs.declared.found.Found.{Found}

-- with one more behind them
abbrev pub two_of : ℕ → ℕ → Option ℕ → Declarers
two_of first number None = record { first = first; second = Some number }
two_of first number (Some second) = record { first = first; second = Some second }

abbrev pub more_of : Option Declarers → ℕ → Declarers
more_of None number = record { first = number; second = None }
more_of (Some declarers) number = two_of declarers.first number declarers.second

abbrev pub local_binder : ℕ → ℕ → Binder
local_binder number item = Binder.Local (record { «module» = number; item = item })

abbrev pub one_or_two : ℕ → ℕ → Option ℕ → Found
one_or_two number first None = Found.One (local_binder number first)
one_or_two number first (Some second) = Found.Several (local_binder number first) (local_binder number second)

-- a name that those lexemes of the module of that number declare
abbrev pub local_found : ℕ → Option Declarers → Found
local_found number None = Found.Nothing
local_found number (Some declarers) = one_or_two number declarers.first declarers.second
