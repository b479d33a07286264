-- Unifiers of equations between types, and substitutions kept as pairs of a variable and its type
-- (Robinson 1965; Baader and Snyder, Unification Theory, sections 2.1 and 2.3).
use Rattle.std.specs.Prelude.{◌≡◌, ◌⊎◌, ℕ, nat_eq, List, [], ◌∷◌, ◌++◌, map, None}
use Rattle.std.specs.List.{AllByRecursion, IsDistinct}
use Rattle.hr_type.specs.declared.mono.Mono.{Mono}
use Rattle.hr_type.specs.declared.mono.Mono.TheVariants.{Var}
use Rattle.hr_type.specs.Types.{replaced, variables, first_for}

abbrev pub Pairs : Type 0
Pairs = List (ℕ × Mono)

abbrev pub Equations : Type 0
Equations = List (Mono × Mono)

-- x is an element of the list
abbrev pub IsOneOf : {X : Type 0} → X → List X → Type 0
IsOneOf x [] = ⊥
IsOneOf x (y ∷ ys) = (x ≡ y) ⊎ IsOneOf x ys

-- a unifier makes both sides of each equation equal
abbrev pub Unifies : (ℕ → Mono) → Equations → Type 0
Unifies by equations = AllByRecursion (λ e. replaced by e.0 ≡ replaced by e.1) equations

-- the two halves of each pair
abbrev pub halves : Pairs → Equations
halves = map (λ p. (Var p.0, p.1))

-- what a call is to solve: that two types be equal, and the halves of each pair
abbrev pub problem : Pairs → Mono → Mono → Equations
problem pairs left right = (left, right) ∷ halves pairs

-- from a variable to those of its type, in one step or more
pub data Reaches (pairs : Pairs) : ℕ → ℕ → Type 0 where
  at_once : (x y : ℕ) (t : Mono) → IsOneOf (x, t) pairs → IsOneOf y (variables t) → Reaches pairs x y
  through : (x y z : ℕ) (t : Mono) → IsOneOf (x, t) pairs → IsOneOf y (variables t) → Reaches pairs y z → Reaches pairs x z

-- no variable is first in two pairs, and none is reached from itself
pub record IsGood (pairs : Pairs) : Type 0 where
  pub distinct : IsDistinct nat_eq (map (λ p. p.0) pairs)
  pub acyclic : (x : ℕ) → Reaches pairs x x → ⊥

-- The substitution that pairs stand for: each variable that is first in a pair becomes what its type becomes, all the
-- way down; the others stay.
pub record IsMeaning (pairs : Pairs) (by : ℕ → Mono) : Type 0 where
  pub bound : AllByRecursion (λ p. by p.0 ≡ replaced by p.1) pairs
  pub free : (n : ℕ) → first_for n pairs ≡ None → by n ≡ Var n

-- a unifier of which each unifier is an instance
pub record IsMostGeneral (by : ℕ → Mono) (equations : Equations) : Type 0 where
  pub unifies : Unifies by equations
  pub general : (other : ℕ → Mono) → Unifies other equations → (rest : ℕ → Mono) × ((n : ℕ) → other n ≡ replaced rest (by n))

-- a good substitution whose meaning is a most general unifier
pub record Solves (pairs : Pairs) (equations : Equations) : Type 0 where
  pub good : IsGood pairs
  pub means : (by : ℕ → Mono) × IsMeaning pairs by × IsMostGeneral by equations

-- what unifies the pairs' halves is exactly what unifies the equations
abbrev pub HasUnifiersOf : Pairs → Equations → Type 0
HasUnifiersOf pairs equations = (by : ℕ → Mono) → (Unifies by (halves pairs) → Unifies by equations) × (Unifies by equations → Unifies by (halves pairs))

-- the variables of equations
abbrev pub names : Equations → List ℕ
names [] = []
names (e ∷ es) = variables e.0 ++ (variables e.1 ++ names es)

-- the variables of the pairs' types are among those of the equations
abbrev pub SpeaksOf : Pairs → Equations → Type 0
SpeaksOf pairs equations = AllByRecursion (λ p. AllByRecursion (λ n. IsOneOf n (names equations)) (variables p.1)) pairs

-- pairs behind those that are given solve the equations
pub record Solved (given fresh : Pairs) (equations : Equations) : Type 0 where
  pub solves : Solves (given ++ fresh) equations
  pub exact : HasUnifiersOf (given ++ fresh) equations
  pub variables : SpeaksOf (given ++ fresh) equations
