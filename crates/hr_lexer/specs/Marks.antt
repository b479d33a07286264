-- A byte order mark, as a character.
use Rattle.std.specs.Prelude.{ℕ, ◌==◌, if◌then◌else◌, List, [], ◌∷◌}

-- how many characters a byte order mark at the start of a text is
abbrev pub mark_count : List ℕ → ℕ
mark_count [] = 0
mark_count (c ∷ rest) = if c == 0xFEFF then 1 else 0
