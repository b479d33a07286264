-- What is read of the lexemes that are left, in suffix form: a reading is a relation between the lexemes before it
-- and the lexemes left behind it.
use Rattle.std.specs.Prelude.{ℕ, ◌≡◌, true, List, [], ◌∷◌, Option, Some, None}
use Rattle.hr_base.specs.declared.lexeme.Ending.{Ending}
use Rattle.hr_base.specs.declared.lexeme.Item.{Item}
use Rattle.hr_rules.specs.declared.block.Placed.{Placed}
use Rattle.hr_rules.specs.Blocks.{goes_on}
use Rattle.hr_tree.specs.declared.lists.Listed.{Listed}

abbrev pub Reading : Type 1
Reading = List Placed → List Placed → Type 0

-- of no tree
abbrev pub never : Reading
never ts us = ⊥

abbrev pub nothing : Reading
nothing ts us = us ≡ ts

-- the next lexeme is that of the item, and goes on in the nearest implicit block, which stands at column n (0 where
-- there is none, or a brace is nearer)
abbrev pub takes : ℕ → Item → Reading
takes n item [] us = ⊥
takes n item (next ∷ ts) us = (goes_on n next ≡ true) × (next.item ≡ item) × (us ≡ ts)

-- one reading behind another
infixr 6 ◌▷◌
abbrev pub ◌▷◌ : Reading → Reading → Reading
(first ▷ second) ts us = (vs : List Placed) × first ts vs × second vs us

-- a reading on a condition
abbrev pub given : Type 0 → Reading → Reading
given P reading ts us = P × reading ts us

-- an item of its kind
abbrev pub one : ℕ → (Item → Type 0) → Item → Reading
one n Is item = given (Is item) (takes n item)

abbrev pub take_all : ℕ → List Item → Reading
take_all n [] = nothing
take_all n (item ∷ items) = takes n item ▷ take_all n items

-- a name or an operator, by its items
abbrev pub spelled : {T : Type 0} → ℕ → (T → Type 0) → (T → List Item) → T → Reading
spelled n Is items_of x = given (Is x) (take_all n (items_of x))

-- what may be there, and what has to be
abbrev pub maybe : {T : Type 0} → (T → Reading) → Option T → Reading
maybe of None = nothing
maybe of (Some x) = of x

abbrev pub there : {T : Type 0} → (T → Reading) → Option T → Reading
there of None = never
there of (Some x) = of x

-- each of a list
abbrev pub in_turn : {T : Type 0} → (T → Reading) → List T → Reading
in_turn of [] = nothing
in_turn of (x ∷ xs) = of x ▷ in_turn of xs

-- each of a list, with a separator behind each but the last one
abbrev pub separated : {T : Type 0} → (Item → Reading) → (T → Reading) → List (Listed T) → Reading
separated separator of [] = nothing
separated separator of (listed ∷ []) = given (listed.separator ≡ None) (of listed.part)
separated separator of (listed ∷ (next ∷ rest)) = of listed.part ▷ (there separator listed.separator ▷ separated separator of (next ∷ rest))

-- a reading that has an ending, whatever that is: it stands where no block ends with it
abbrev pub inside : (Ending → Reading) → Reading
inside reading ts us = (ending : Ending) × reading ending ts us

-- an ending that follows from that of what was read
abbrev pub ends_as : (Ending → Ending) → (Ending → Reading) → Ending → Reading
ends_as turn reading ending ts us = (inner : Ending) × (ending ≡ turn inner) × reading inner ts us
