-- Types as terms: what is computed along a type, its variables, and what becomes of it under a substitution.
use Rattle.std.specs.Prelude.{◌≡◌, ◌==◌, ℕ, Bool, true, false, ◌&&◌, nat_eq, List, [], ◌∷◌, ◌++◌, if◌then◌else◌, nat_lt, Option, Some, None}
use Rattle.std.specs.List.{concat}
use Rattle.std.specs.Cmp.Lexicographic.{pointwise}
use Rattle.hr_base.specs.declared.bind.Entity.{Entity}
use Rattle.hr_base.specs.declared.bind.Space.{Space}
use Rattle.hr_base.specs.declared.bind.Space.TheVariants.{Value, Constructor, TypeName}
use Rattle.hr_type.specs.declared.mono.Mono.{Mono}
use Rattle.hr_type.specs.declared.mono.Mono.TheVariants.{Var, Con, Fun}
use Rattle.hr_type.specs.declared.mono.Mono.TheOpen.{Mono-F}
use Rattle.hr_type.specs.declared.mono.Mono.TheFolds.{fold-Mono}
use Rattle.hr_type.specs.declared.mono.Scheme.{Scheme}

-- One layer of a type, with a value of A in place of each type inside it.
abbrev pub layer : (A : Type 0) → (ℕ → A) → (Entity → List A → A) → (A → A → A) → Mono-F A → A
layer A variable applied function (Mono-F.Var n) = variable n
layer A variable applied function (Mono-F.Con e xs) = applied e xs
layer A variable applied function (Mono-F.Fun x y) = function x y

-- A type's value in A, by what a variable, a constructor with its arguments and `->` mean there.
unfoldable pub value : (A : Type 0) → (Entity → List A → A) → (A → A → A) → (ℕ → A) → Mono → A
value A applied function variable = fold-Mono A (layer A variable applied function)

-- Substitution: each variable n is replaced by `by n`, everywhere at once.
abbrev pub replaced : (ℕ → Mono) → Mono → Mono
replaced by = value Mono Con Fun by

-- the variables of a type, from the left
abbrev pub variables : Mono → List ℕ
variables = value (List ℕ) (λ _ rest. concat rest) ◌++◌ (λ n. n ∷ [])

-- The substitution for the variables below a bound: the others stay.
abbrev pub bounded : ℕ → (ℕ → Mono) → ℕ → Mono
bounded bound by n = if nat_lt n bound then by n else Var n

-- A type is an instance of a scheme where some substitution of the bound variables gives it
-- (Haskell 98 Report, section 4.1.4).
abbrev pub IsInstance : Scheme → Mono → Type 0
IsInstance general special = (by : ℕ → Mono) × (replaced (bounded general.bound by) general.body ≡ special)

-- what a list of pairs has for a variable, by the first pair with it
abbrev pub first_for : ℕ → List (ℕ × Mono) → Option Mono
first_for n [] = None
first_for n (p ∷ ps) = if p.0 == n then Some p.1 else first_for n ps

-- whether two entities are one, as a test
abbrev pub same_space : Space → Space → Bool
same_space Value Value = true
same_space Constructor Constructor = true
same_space TypeName TypeName = true
same_space _ _ = false

abbrev pub same_entity : Entity → Entity → Bool
same_entity a b = same_space a.space b.space && (pointwise nat_eq a.text b.text && pointwise nat_eq a.«module» b.«module»)
