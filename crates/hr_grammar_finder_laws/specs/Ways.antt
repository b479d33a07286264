-- A plain reader by lists of successes: for the lexemes that are left, all ways in which they begin with a tree, each
-- with the lexemes that are left behind it. Beside each combinator of readings stands one of finders.
use Rattle.std.specs.Prelude.{ℕ, zero, suc, ◌≡◌, ◌⊎◌, Bool, ◌&&◌, if◌then◌else◌, List, [], ◌∷◌, ◌++◌, map, length, Option, Some, None}
use Rattle.std.specs.List.{flat_map}
use Rattle.hr_base.specs.declared.lexeme.Ending.{Ending}
use Rattle.hr_base.specs.declared.lexeme.Item.{Item}
use Rattle.hr_rules.specs.declared.block.Placed.{Placed}
use Rattle.hr_rules.specs.Blocks.{goes_on}
use Rattle.hr_tree.specs.declared.lists.Listed.{Listed}

-- x is one of the list
abbrev pub Among : {T : Type 0} → T → List T → Type 0
Among x [] = ⊥
Among x (y ∷ ys) = (x ≡ y) ⊎ Among x ys

abbrev pub Way : Type 0 → Type 0
Way T = T × List Placed

abbrev pub Finder : Type 0 → Type 0
Finder T = List Placed → List (Way T)

-- no way
abbrev pub none : {T : Type 0} → Finder T
none ts = []

-- one way, which takes nothing
abbrev pub gives : {T : Type 0} → T → Finder T
gives x ts = (x, ts) ∷ []

-- the ways of both
infixr 5 ◌⊕◌
abbrev pub ◌⊕◌ : {T : Type 0} → Finder T → Finder T → Finder T
(first ⊕ second) ts = first ts ++ second ts

-- the ways of each of a list
abbrev pub any_of : {T : Type 0} → List (Finder T) → Finder T
any_of finders ts = flat_map (λ finder. finder ts) finders

-- where the condition holds
abbrev pub on : {T : Type 0} → Bool → Finder T → Finder T
on condition finder ts = if condition then finder ts else []

-- those that pass the test
abbrev pub passing : {T : Type 0} → (T → Bool) → Finder T → Finder T
passing {T} test finder ts = flat_map (λ (way : Way T). if test way.0 then way ∷ [] else []) (finder ts)

-- what is made of each
abbrev pub made_by : {S T : Type 0} → (S → T) → Finder S → Finder T
made_by {S} make finder ts = map (λ (way : Way S). (make way.0, way.1)) (finder ts)

-- one behind another, which may depend on what was found
abbrev pub followed_by : {S T : Type 0} → Finder S → (S → Finder T) → Finder (S × T)
followed_by {S} {T} first second ts = flat_map (λ (way : Way S). map (λ (next : Way T). ((way.0, next.0), next.1)) (second way.0 way.1)) (first ts)

infixr 6 ◌▶◌
abbrev pub ◌▶◌ : {S T : Type 0} → Finder S → Finder T → Finder (S × T)
first ▶ second = followed_by first (λ x. second)

-- the next lexeme, where it goes on in the block at column n, and its item passes the test
abbrev pub one : ℕ → (Item → Bool) → Finder Item
one n is [] = []
one n is (next ∷ ts) = if is next.item && goes_on n next then (next.item, ts) ∷ [] else []

-- what may be there
abbrev pub maybe : {T : Type 0} → Finder T → Finder (Option T)
maybe of = gives None ⊕ made_by Some of

-- each of a list: of no more than so many, and with as many as there are lexemes left
abbrev pub in_turn_by : {T : Type 0} → Finder T → ℕ → Finder (List T)
in_turn_by of zero = gives []
in_turn_by of (suc fuel) = gives [] ⊕ made_by (λ p. p.0 ∷ p.1) (of ▶ in_turn_by of fuel)

abbrev pub in_turn : {T : Type 0} → Finder T → Finder (List T)
in_turn of ts = in_turn_by of (length ts) ts

-- a part of a list, and the separator behind it
abbrev pub last_listed : {T : Type 0} → T → List (Listed T)
last_listed part = record { part = part; separator = None } ∷ []

abbrev pub listed_then : {T : Type 0} → T × (Item × List (Listed T)) → List (Listed T)
listed_then p = record { part = p.0; separator = Some p.1.0 } ∷ p.1.1

-- one or more of a list, with a separator behind each but the last one
abbrev pub separated_by : {T : Type 0} → Finder Item → Finder T → ℕ → Finder (List (Listed T))
separated_by separator of zero = none
separated_by separator of (suc fuel) = made_by last_listed of ⊕ made_by listed_then (of ▶ separator ▶ separated_by separator of fuel)

abbrev pub some_separated : {T : Type 0} → Finder Item → Finder T → Finder (List (Listed T))
some_separated separator of ts = separated_by separator of (length ts) ts

-- none or more
abbrev pub separated : {T : Type 0} → Finder Item → Finder T → Finder (List (Listed T))
separated separator of = gives [] ⊕ some_separated separator of

-- without its ending
abbrev pub inside : {T : Type 0} → Finder (T × Ending) → Finder T
inside of = made_by (λ p. p.0) of

-- with an ending that follows from that of what was found
abbrev pub ends_as : {T : Type 0} → (Ending → Ending) → Finder (T × Ending) → Finder (T × Ending)
ends_as turn of = made_by (λ p. (p.0, turn p.1)) of

-- with this ending
abbrev pub ending_in : {T : Type 0} → Ending → Finder T → Finder (T × Ending)
ending_in ending of = made_by (λ x. (x, ending)) of
