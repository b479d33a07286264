-- Which lists of parts are sequences: operands and operators take turns, with an operand first and last, a prefix
-- minus stands before an operand alone, and levels are at most 9 (the Haskell 98 Report, section 4.4.2).
use Rattle.std.specs.Prelude.{◌≡◌, ℕ, ◌<◌, ◌^◌, Bool, true, false, ◌&&◌, nat_le, List, [], ◌∷◌, length, slice_get, Option, Some, None}
use Rattle.hr_base.specs.declared.place.Place.{Place}
use Rattle.hr_fixity.specs.declared.sequence.Awaited.{Awaited}
use Rattle.hr_fixity.specs.declared.sequence.Awaited.TheVariants as after
use Rattle.hr_fixity.specs.declared.sequence.Awaited.TheVariants.{Term, Negated}
use Rattle.hr_fixity.specs.declared.sequence.Fixity.{Fixity}
use Rattle.hr_fixity.specs.declared.sequence.Part.{Part}
use Rattle.hr_fixity.specs.declared.sequence.Part.TheVariants.{Operand, Operator, Minus, PatternMinus}
use Rattle.hr_fixity.specs.declared.sequence.Infix.{Infix}

-- from a place where a part of this kind is awaited
abbrev pub take_turns : Awaited → List Part → Bool
take_turns Term (Operand ∷ ps) = take_turns after.Operator ps
take_turns Term (Minus p ∷ ps) = take_turns Negated ps
take_turns Term (PatternMinus p ∷ ps) = take_turns Negated ps
take_turns Negated (Operand ∷ ps) = take_turns after.Operator ps
take_turns after.Operator (Operator p f ∷ ps) = nat_le f.level 9 && take_turns Term ps
take_turns after.Operator [] = true
take_turns _ _ = false

-- the number is that of an infix operator
abbrev pub IsOperatorAt : List Part → ℕ → Type 0
IsOperatorAt ps n = (p : Place) × (f : Fixity) × (slice_get ps n ≡ Some (Operator p f))

-- an infix operator isn't the first part
abbrev pub IsBehindOperand : ℕ → Part → Type 0
IsBehindOperand n (Operator p f) = 0 < n
IsBehindOperand n _ = Unit {0}

abbrev pub IsRootOf : List Part → Option ℕ → Type 0
IsRootOf ps None = Unit {0}
IsRootOf ps (Some r) = IsOperatorAt ps r

pub record IsInfixSequence (seq : Infix) : Type 0 where
  pub turns : take_turns Term seq.parts ≡ true
  pub root : IsRootOf seq.parts seq.root
  pub few : length seq.parts < 2 ^ 32
