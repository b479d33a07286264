-- How a report shows places and things.
use Rattle.std.specs.Prelude.{ℕ, List, [], ◌∷◌, ◌++◌}
use Rattle.std.specs.Fmt.{decimal}
use Rattle.hr_base.specs.declared.bind.Entity.{Entity}
use Rattle.hr_base.specs.declared.place.Place.{Place}
use Rattle.hr_base.specs.declared.place.Pos.{Pos}

-- a name, a line and a column, with colons (58) between
abbrev pub at : List ℕ → Pos → List ℕ
at name pos = name ++ (58 ∷ (decimal pos.line ++ (58 ∷ decimal pos.col)))

-- a place: its module's name, its line and its column
abbrev pub place_text : Place → List ℕ
place_text place = at place.«module» place.pos

-- a top-level thing: its module and its name, with a dot (46) between
abbrev pub entity_text : Entity → List ℕ
entity_text entity = entity.«module» ++ (46 ∷ entity.text)
