-- How much work types are under a substitution: each step of solving lowers it.
use Rattle.std.specs.Prelude.{ℕ, suc, ◌+◌, List, [], ◌∷◌, ◌==◌, if◌then◌else◌}
use Rattle.hr_base.specs.declared.bind.Entity.{Entity}
use Rattle.hr_type.specs.declared.mono.Mono.{Mono}
use Rattle.hr_type.specs.Types.{value}
use Rattle.hr_unify.specs.Tasks.{Task, Equation, Settled}
use Rattle.hr_unify.specs.Unifiers.{Pairs}

-- a function with another value at one number
unfoldable pub update : {A : Type 0} → ℕ → A → (ℕ → A) → ℕ → A
update n a f m = if m == n then a else f m

-- Values of variables in an algebra: each pair's variable has one step on its type's value, and a variable without a
-- pair the value that is given.
unfoldable pub solve : (A : Type 0) → (Entity → List A → A) → (A → A → A) → (A → A) → Pairs → (ℕ → A) → ℕ → A
solve A applied function step [] given = given
solve A applied function step (p ∷ ps) given =
    solve A applied function step ps (update p.0 (step (value A applied function (solve A applied function step ps given) p.1)) given)

abbrev pub total : List ℕ → ℕ
total [] = 0
total (n ∷ ns) = n + total ns

-- the size of a type with a weight for each variable
unfoldable pub mass : (ℕ → ℕ) → Mono → ℕ
mass = value ℕ (λ _ ns. suc (total ns)) (λ m n. suc (m + n))

-- the weight of a variable: two more than that of its type
unfoldable pub weight : Pairs → ℕ → ℕ
weight pairs = solve ℕ (λ _ ns. suc (total ns)) (λ m n. suc (m + n)) (λ n. n + 2) pairs (λ _. 1)

abbrev pub load : Pairs → Mono → ℕ
load pairs = mass (weight pairs)

abbrev pub item_load : Pairs → Task → ℕ
item_load pairs (Equation l r) = load pairs l + load pairs r
item_load pairs (Settled x r) = 1

abbrev pub work_load : Pairs → List Task → ℕ
work_load pairs [] = 0
work_load pairs (item ∷ items) = item_load pairs item + work_load pairs items
