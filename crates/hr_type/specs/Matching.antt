-- How a list of choices for variables narrows down the substitutions that are still possible.
use Rattle.std.specs.Prelude.{◌≡◌, ℕ, Bool, true, false, List}
use Rattle.std.specs.List.{AllByRecursion}
use Rattle.hr_type.specs.declared.mono.Mono.{Mono}

abbrev pub Pairs : Type 0
Pairs = List (ℕ × Mono)

-- a substitution gives each chosen variable its type
abbrev pub Fits : (ℕ → Mono) → Pairs → Type 0
Fits by chosen = AllByRecursion (λ p. by p.0 ≡ p.1) chosen

-- the new choices leave exactly the substitutions of the old ones with the property, and some where some were left
pub record Narrows (old new : Pairs) (P : (ℕ → Mono) → Type 0) : Type 0 where
  pub kept : (by : ℕ → Mono) → Fits by new → Fits by old
  pub holds : (by : ℕ → Mono) → Fits by new → P by
  pub all : (by : ℕ → Mono) → Fits by old → P by → Fits by new
  pub some : ((by : ℕ → Mono) × Fits by old) → (by : ℕ → Mono) × Fits by new

-- where the answer is no, no substitution of the old choices has the property
abbrev pub Settles : Bool → Pairs → Pairs → ((ℕ → Mono) → Type 0) → Type 0
Settles true old new P = Narrows old new P
Settles false old new P = (by : ℕ → Mono) → Fits by old → P by → ⊥
