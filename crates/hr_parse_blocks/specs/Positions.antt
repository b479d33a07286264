-- Where the first declaration of a block stands (Haskell 98 Report, chapters 4 and 5).
use Rattle.std.specs.Prelude.{Bool, true, false}
use Rattle.hr_parse_parts.specs.declared.blocks.Position.{Position}

-- imports alone stand before the other parts of a module's body
abbrev pub first_position : Bool → Position
first_position true = Position.First
first_position false = Position.Local
