-- Positions as a walk over a text counts them: a line and a column beyond what 64 bits hold are
-- shown by the greatest number of 64 bits, which is no line and no column of a `Pos`.
use Rattle.std.specs.Prelude.{ℕ, min}
use Rattle.hr_base.specs.declared.place.Pos.{Pos}
use Rattle.hr_rules.specs.declared.positions.Reached.{Reached}

abbrev pub greatest : ℕ
greatest = 18446744073709551615

-- a position as it is counted
abbrev pub counted : Pos → Reached
counted pos = record { line = min greatest pos.line; col = min greatest pos.col }

-- the position that is counted
abbrev pub pos_of : Reached → Pos
pos_of reached = record { line = reached.line; col = reached.col }
