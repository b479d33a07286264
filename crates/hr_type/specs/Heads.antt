-- A type layer by layer: its head, what stands right inside it, and the heads of all that it is made of, in the order in
-- which it is built.
use Rattle.std.specs.Prelude.{ℕ, ◌-◌, List, [], ◌∷◌, ◌++◌, length, take, drop, reverse}
use Rattle.hr_base.specs.declared.bind.Entity.{Entity}
use Rattle.hr_type.specs.declared.mono.Mono.{Mono}
use Rattle.hr_type.specs.declared.mono.Mono.TheVariants.{Var, Con, Fun}
use Rattle.hr_type.specs.declared.mono.Mono.TheOpen.{Mono-F}
use Rattle.hr_type.specs.declared.mono.Mono.TheViews.{out-Mono}
use Rattle.hr_type.specs.Types.{value}

-- a variable, a constructor with its number of arguments, or an arrow
pub data Head : Type 0 where
  variable_head : ℕ → Head
  head : Entity → ℕ → Head
  arrow_head : Head

abbrev pub layer_head : Mono-F Mono → Head
layer_head (Mono-F.Var n) = variable_head n
layer_head (Mono-F.Con e ts) = head e (length ts)
layer_head (Mono-F.Fun a b) = arrow_head

unfoldable pub head_of : Mono → Head
head_of t = layer_head (out-Mono t)

abbrev pub layer_parts : Mono-F Mono → List Mono
layer_parts (Mono-F.Var n) = []
layer_parts (Mono-F.Con e ts) = ts
layer_parts (Mono-F.Fun a b) = a ∷ b ∷ []

unfoldable pub parts : Mono → List Mono
parts t = layer_parts (out-Mono t)

abbrev pub joined : List (List Head) → List Head
joined [] = []
joined (hs ∷ rest) = hs ++ joined rest

-- the heads of a type, each behind those of its parts
unfoldable pub posts : Mono → List Head
posts = value (List Head) (λ e xs. joined xs ++ head e (length xs) ∷ []) (λ x y. x ++ (y ++ arrow_head ∷ [])) (λ n. variable_head n ∷ [])

-- the function of the two last types of a stack
abbrev pub last_function : List Mono → Mono
last_function [] = Var 0
last_function (b ∷ []) = Var 0
last_function (b ∷ a ∷ ts) = Fun a b

-- A head put on a stack of types takes its parts from the end, and leaves the type that it makes of them.
abbrev pub placed : Head → List Mono → List Mono
placed (variable_head n) ts = ts ++ Var n ∷ []
placed (head e n) ts = take (length ts - n) ts ++ Con e (drop (length ts - n) ts) ∷ []
placed arrow_head ts = take (length ts - 2) ts ++ last_function (reverse (drop (length ts - 2) ts)) ∷ []

abbrev pub built : List Head → List Mono → List Mono
built [] ts = ts
built (h ∷ hs) ts = built hs (placed h ts)
