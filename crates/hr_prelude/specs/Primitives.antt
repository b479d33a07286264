-- The names of Prelude and Char that are primitives. The Report leaves open which are (Haskell 98 Report, chapter
-- 8); here they are those of Int, and what can't be written in the language.
use Rattle.std.specs.Prelude.{ℕ, if◌then◌else◌, List, [], ◌∷◌, Option, Some, None}
use Rattle.std.specs.Str.{bytes_eq}
use lib.Chars.{codes}
use Rattle.hr_prelude.specs.declared.primitives.Prim.{Prim}

abbrev pub Row : Type 0
Row = List ℕ × Prim

abbrev pub prelude_primitives : List Row
prelude_primitives =
    (codes "+", Prim.Add) ∷ (codes "-", Prim.Subtract) ∷ (codes "*", Prim.Multiply)
    ∷ (codes "quot", Prim.Quot) ∷ (codes "rem", Prim.Rem) ∷ (codes "div", Prim.Div) ∷ (codes "mod", Prim.Mod)
    ∷ (codes "max", Prim.Max) ∷ (codes "min", Prim.Min) ∷ (codes "quotRem", Prim.QuotRem) ∷ (codes "divMod", Prim.DivMod)
    ∷ (codes "negate", Prim.Negate) ∷ (codes "abs", Prim.Abs) ∷ (codes "signum", Prim.Signum)
    ∷ (codes "succ", Prim.Succ) ∷ (codes "pred", Prim.Pred) ∷ (codes "minBound", Prim.MinBound) ∷ (codes "maxBound", Prim.MaxBound)
    ∷ (codes "==", Prim.Equal) ∷ (codes "/=", Prim.NotEqual) ∷ (codes "<", Prim.Less) ∷ (codes "<=", Prim.LessOrEqual)
    ∷ (codes ">", Prim.Greater) ∷ (codes ">=", Prim.GreaterOrEqual) ∷ (codes "compare", Prim.Compare) ∷ (codes "show", Prim.Show)
    ∷ (codes "seq", Prim.Seq) ∷ (codes "error", Prim.Error) ∷ []

abbrev pub char_primitives : List Row
char_primitives = (codes "ord", Prim.Ord) ∷ (codes "chr", Prim.Chr) ∷ []

-- the primitive of the first row that has the name
abbrev pub named_in : List Row → List ℕ → Option Prim
named_in [] name = None
named_in (row ∷ rows) name = if bytes_eq row.0 name then Some row.1 else named_in rows name

abbrev pub primitive_of : List ℕ → List ℕ → Option Prim
primitive_of «module» name =
    if bytes_eq «module» (codes "Prelude") then named_in prelude_primitives name
    else if bytes_eq «module» (codes "Char") then named_in char_primitives name
    else None
