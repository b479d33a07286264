-- How large a type is, and how deep.
use Rattle.std.specs.Prelude.{◌+◌, ◌-◌, ◌*◌, ℕ, suc, List, [], ◌∷◌, max}
use Rattle.hr_type.specs.declared.mono.Mono.{Mono}
use Rattle.hr_type.specs.declared.mono.Mono.TheOpen.{Mono-F}
use Rattle.hr_type.specs.declared.mono.Mono.TheViews.{out-Mono}
use Rattle.hr_type.specs.Types.{value}

abbrev pub total : List ℕ → ℕ
total [] = 0
total (n ∷ ns) = n + total ns

abbrev pub greatest : List ℕ → ℕ
greatest [] = 0
greatest (n ∷ ns) = max n (greatest ns)

-- how many variables, constructors and arrows a type has
unfoldable pub size : Mono → ℕ
size = value ℕ (λ _ ns. suc (total ns)) (λ m n. suc (m + n)) (λ _. 1)

-- how many of them stand in one another, at most
unfoldable pub depth : Mono → ℕ
depth = value ℕ (λ _ ns. suc (greatest ns)) (λ m n. suc (max m n)) (λ _. 1)

-- how deep types go that stand in so many others
abbrev pub reach : ℕ → List Mono → ℕ
reach above [] = 0
reach above (t ∷ ts) = max (above + depth t) (reach above ts)

abbrev pub first_of : List ℕ → ℕ
first_of [] = 0
first_of (n ∷ ns) = n

-- how many layers stand in one another, each as the first part of the one round it
unfoldable pub lead : Mono → ℕ
lead = value ℕ (λ _ ns. suc (first_of ns)) (λ m n. suc m) (λ _. 1)

-- The steps that freeing a type takes at most, where another one hangs beside it: each layer is taken apart, passed on
-- the way back and hung into once, but for those that lead down from what hangs beside, since they are hung into already.
unfoldable pub steps_beside : Mono → Mono → ℕ
steps_beside ty rest = 3 * (size ty + size rest) - suc (lead rest)

-- the same where a variable beside it is nothing
abbrev pub layer_steps : Mono → Mono → Mono-F Mono → ℕ
layer_steps ty rest (Mono-F.Var v) = 3 * size ty - lead ty
layer_steps ty rest (Mono-F.Con e ts) = steps_beside ty rest
layer_steps ty rest (Mono-F.Fun a b) = steps_beside ty rest

unfoldable pub steps : Mono → Mono → ℕ
steps ty rest = layer_steps ty rest (out-Mono rest)
