-- What solving keeps between its steps.
use Rattle.std.specs.Prelude.{◌≡◌, ◌<◌, ◌⊎◌, ℕ, List, [], ◌∷◌, ◌++◌, map, length, slice_set, slice_index_or, Option, Some, None, Result, Ok, Err}
use Rattle.std.specs.List.{AllByRecursion, concat}
use Rattle.hr_base.specs.declared.bind.Entity.{Entity}
use Rattle.hr_type.specs.declared.mono.Mono.{Mono}
use Rattle.hr_type.specs.declared.mono.Mono.TheVariants.{Var, Con}
use Rattle.hr_type.specs.Types.{replaced, variables, first_for}
use Rattle.hr_unify.specs.Tasks.{Task, Equation, Settled}
use Rattle.hr_unify.specs.Unifiers.{Pairs, Equations, IsOneOf, Unifies, halves, names, Reaches, IsGood}
use Rattle.hr_unify.specs.declared.solve.UnifyError.{UnifyError}
use Rattle.hr_unify.specs.declared.solve.UnifyError.TheVariants.{Mismatch, Occurs, Memory}
use Rattle.hr_unify.specs.Refusals.{Related, Clashes, head_of, no_head, head}

abbrev pub IsKnown : Equations → Mono → Type 0
IsKnown es t = AllByRecursion (λ n. IsOneOf n (names es)) (variables t)

-- an item of work follows from the equations, and speaks of their variables
abbrev pub Follows : Equations → Task → Type 0
Follows es (Equation l r) = Related es l r × IsKnown es l × IsKnown es r
Follows es (Settled x r) = Unit {0}

abbrev pub PairFollows : Equations → ℕ × Mono → Type 0
PairFollows es p = Related es (Var p.0) p.1 × IsKnown es p.1

-- a substitution makes both sides of an item equal
abbrev pub Equals : (ℕ → Mono) → Task → Type 0
Equals by (Equation l r) = replaced by l ≡ replaced by r
Equals by (Settled x r) = Unit {0}

-- an item that waits holds once all work above it is done
abbrev pub Waits : Pairs → List Task → Type 0
Waits pairs [] = Unit {0}
Waits pairs (Equation l r ∷ above) = Waits pairs above
Waits pairs (Settled x r ∷ above) =
    ((by : ℕ → Mono) → Unifies by (halves pairs) → AllByRecursion (Equals by) above → replaced by (Var x) ≡ replaced by r) × Waits pairs above

pub record Keeps (es : Equations) (pairs : Pairs) (work : List Task) (settled : Pairs) : Type 0 where
  pub pairs_follow : AllByRecursion (PairFollows es) pairs
  pub work_follows : AllByRecursion (Follows es) work
  pub sound : (by : ℕ → Mono) → Unifies by (halves pairs) → AllByRecursion (Equals by) work → Unifies by es
  pub waits : Waits pairs work
  pub repeats : (by : ℕ → Mono) → Unifies by (halves pairs) → Unifies by (halves settled)

-- a variable is another one, and doesn't lead to it
abbrev pub Avoids : Pairs → ℕ → ℕ → Type 0
Avoids pairs x n = (n ≡ x → ⊥) × (Reaches pairs n x → ⊥)

-- what a search for a variable in a type answers: that no variable of it leads there, or a type that follows from it and
-- has the variable inside, with the same constructor where it has one
abbrev pub Finds : Pairs → ℕ → Mono → List ℕ → Option Mono → Type 0
Finds pairs x ty seen None = AllByRecursion (Avoids pairs x) (variables ty) × AllByRecursion (Avoids pairs x) seen
Finds pairs x ty seen (Some found) = Related (halves pairs) ty found × IsOneOf x (variables found) × ((head_of ty ≡ no_head → ⊥) → head_of found ≡ head_of ty)

-- the same of arguments, one of which is replaced
pub record Swaps (pairs : Pairs) (x : ℕ) (types found : List Mono) : Type 0 where
  pub place : ℕ
  pub ty : Mono
  pub within : place < length types
  pub swapped : found ≡ slice_set types place ty
  pub related : Related (halves pairs) (slice_index_or types place ty) ty
  pub inside : IsOneOf x (variables ty)

abbrev pub FindsAmong : Pairs → ℕ → List Mono → List ℕ → Option (List Mono) → Type 0
FindsAmong pairs x types seen None = AllByRecursion (Avoids pairs x) (concat (map variables types)) × AllByRecursion (Avoids pairs x) seen
FindsAmong pairs x types seen (Some found) = Swaps pairs x types found

-- a variable without a pair, and a type that is no variable with one, nor the variable itself
pub record Binds (pairs : Pairs) (x : ℕ) (ty : Mono) : Type 0 where
  pub free : first_for x pairs ≡ None
  pub other : ty ≡ Var x → ⊥
  pub loose : (n : ℕ) → ty ≡ Var n → first_for n pairs ≡ None

-- what a step answers: it keeps what is kept, stops at a variable to bind, or refuses
abbrev pub Goes : Equations → Pairs → List Task → Pairs → Result (Option (ℕ × Mono)) UnifyError → Type 0
Goes es pairs work settled (Ok None) = Keeps es pairs work settled
Goes es pairs work settled (Ok (Some b)) = Keeps es pairs (work ++ Equation (Var b.0) b.1 ∷ []) settled × Binds pairs b.0 b.1
Goes es pairs work settled (Err (Mismatch left right)) = Clashes es left right
Goes es pairs work settled (Err (Occurs x ty)) = ⊥
Goes es pairs work settled (Err (Memory e)) = Unit {0}

-- what the check before a variable is bound answers
abbrev pub MayBind : Pairs → ℕ → Mono → Result (Unit {0}) UnifyError → Type 0
MayBind pairs x ty (Ok done) = AllByRecursion (Avoids pairs x) (variables ty)
MayBind pairs x ty (Err (Occurs y found)) = (y ≡ x) × Related (halves pairs) ty found × IsOneOf x (variables found) × (found ≡ Var x → ⊥)
MayBind pairs x ty (Err (Mismatch left right)) = ⊥
MayBind pairs x ty (Err (Memory e)) = Unit {0}

-- the type of a variable put in its place, unless its equation was settled before
abbrev pub Opens : Pairs → ℕ → Mono → Mono → List Task → List Task → Type 0
Opens settled x ty other old new =
    (IsOneOf {X = ℕ × Mono} (x, other) settled × (new ≡ old)) ⊎ ((new ≡ old ++ Settled x other ∷ Equation ty other ∷ []) ⊎ (new ≡ old ++ Equation ty other ∷ []))

-- the equations of arguments in turn, the first on top
abbrev pub paired : List Mono → List Mono → List Task
paired [] us = []
paired (t ∷ ts) [] = []
paired (t ∷ ts) (u ∷ us) = paired ts us ++ Equation t u ∷ []

-- two types of constructors: their arguments in turn where the constructors and the numbers of arguments are equal
abbrev pub Splits : Entity → List Mono → Entity → List Mono → List Task → List Task → Result (Option (ℕ × Mono)) UnifyError → Type 0
Splits e ts f us old new (Ok None) = (e ≡ f) × (length ts ≡ length us) × (new ≡ old ++ paired ts us)
Splits e ts f us old new (Ok (Some b)) = ⊥
Splits e ts f us old new (Err (Mismatch left right)) = (left ≡ Con e ts) × (right ≡ Con f us) × (head e (length ts) ≡ head f (length us) → ⊥)
Splits e ts f us old new (Err (Occurs x ty)) = ⊥
Splits e ts f us old new (Err (Memory m)) = Unit {0}

-- what adding a pair answers
abbrev pub Extends : Pairs → ℕ → Mono → Pairs → Result (Unit {0}) UnifyError → Type 0
Extends old x ty new (Ok done) = (new ≡ old ++ (x, ty) ∷ []) × IsGood new
Extends old x ty new (Err e) = MayBind old x ty (Err e)

-- two types as a refusal shows them
abbrev pub IsMismatch : Mono → Mono → UnifyError → Type 0
IsMismatch left right (Mismatch l r) = (l ≡ left) × (r ≡ right)
IsMismatch left right (Occurs x ty) = ⊥
IsMismatch left right (Memory m) = Unit {0}

-- the variables that were looked into
abbrev pub keys : List (ℕ × ℕ) → List ℕ
keys = map (λ p. p.0)

-- a variable looked into: its type, where it has one, is to be looked into next
abbrev pub Looks : Pairs → ℕ → List ℕ → List ℕ → List Mono → List Mono → Type 0
Looks pairs x old new left later =
    (IsOneOf x old × (new ≡ old) × (later ≡ left))
    ⊎ (((v : ℕ) → (IsOneOf v new → (v ≡ x) ⊎ IsOneOf v old) × ((v ≡ x) ⊎ IsOneOf v old → IsOneOf v new))
    × ((first_for x pairs ≡ None) × (later ≡ left) ⊎ ((t : Mono) × (first_for x pairs ≡ Some t) × (later ≡ left ++ t ∷ []))))

-- a type that is no variable with a type, and a variable that has one
abbrev pub IsLast : Pairs → Mono → Type 0
IsLast pairs ty = (n : ℕ) → ty ≡ Var n → first_for n pairs ≡ None

abbrev pub StandsFor : Pairs → Mono → Mono → Type 0
StandsFor pairs ty its = (n : ℕ) × (ty ≡ Var n) × (first_for n pairs ≡ Some its)
