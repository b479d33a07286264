-- A history, as contracts see it: what it holds, the last one last, and for how many more it has room.
use Rattle.std.specs.Prelude.{ℕ, List}

abbrev pub values : {P : Type 0} → List P × ℕ → List P
values history = history.0

abbrev pub spare : {P : Type 0} → List P × ℕ → ℕ
spare history = history.1
