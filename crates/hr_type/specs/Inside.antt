-- What is still to be measured: types with the number of those that they stand in.
use Rattle.std.specs.Prelude.{ℕ, ◌+◌, List, [], ◌∷◌, max}
use Rattle.hr_type.specs.declared.measure.Inner.{Inner}
use Rattle.hr_type.specs.Sizes.{depth, size}

abbrev pub deepest_of : List Inner → ℕ
deepest_of [] = 0
deepest_of (i ∷ is) = max (i.above + depth i.ty.now) (deepest_of is)

abbrev pub spread : List Inner → ℕ
spread [] = 0
spread (i ∷ is) = size i.ty.now + spread is
