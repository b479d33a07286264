-- How long the report of a replace that failed may be.
use Rattle.std.specs.Prelude.{List, ℕ, [], ◌∷◌, ◌++◌, codes}
use Rattle.hare.specs.Report.{line, stayed_line, write_line}

-- of each of these files that it could not be replaced, and that it stayed new
abbrev pub longest_lines : List (List ℕ) → List ℕ
longest_lines [] = []
longest_lines (name ∷ names) = (write_line name ++ stayed_line name) ++ longest_lines names

-- all lines that such a report may have
abbrev pub longest : List (List ℕ) → List ℕ
longest names = line (codes "rolled back") ++ longest_lines names
