-- The trees of a sequence, and which pair of operators a refusal shows.
use Rattle.std.specs.Prelude.{◌≡◌, ℕ, suc, ◌<◌, Bool, false, nat_le, if◌then◌else◌, List, [], ◌∷◌, ◌++◌, reverse, take, slice_get, Option, Some, None}
use Rattle.std.specs.Bool.{IsTrue}
use Rattle.std.specs.List.{find}
use Rattle.std.specs.Option.{is_some, unwrap_or, option_map, option_or}
use Rattle.hr_base.specs.declared.place.Place.{Place}
use Rattle.hr_fixity.specs.declared.error.FixityError.{FixityError}
use Rattle.hr_fixity.specs.declared.error.FixityError.TheVariants.{FixityConflict, Memory}
use Rattle.hr_fixity.specs.declared.sequence.Part.{Part}
use Rattle.hr_fixity.specs.declared.sequence.Part.TheVariants.{Operand, Operator, Minus, PatternMinus}
use Rattle.hr_fixity.specs.declared.sequence.Infix.{Infix}
use Rattle.hr_fixity.specs.declared.tree.Graded.{Graded}
use Rattle.hr_fixity.specs.declared.tree.Graded.TheVariants as tree
use Rattle.hr_fixity.specs.Productions.{Grades, Any}

-- the operator that is demanded stands at the root
abbrev pub HasRoot : Option ℕ → Graded → Type 0
HasRoot None t = Unit {0}
HasRoot (Some r) t = (left right : Graded) × (t ≡ tree.Binary r left right)

-- the tree flattens to the sequence, by the graded productions from exp^0 on, with the root that is demanded
pub record IsResolved (seq : Infix) (t : Graded) : Type 0 where
  pub graded : Grades (Any 0) 0 seq.parts t
  pub rooted : HasRoot seq.root t

abbrev pub HasNoGrading : Infix → Type 0
HasNoGrading seq = (t : Graded) → IsResolved seq t → ⊥

-- a root that is cut off isn't demanded
abbrev pub root_up_to : ℕ → Option ℕ → Option ℕ
root_up_to n None = None
root_up_to n (Some r) = if nat_le r n then Some r else None

-- the sequence up to the right operand of the operator n, without a prefix minus directly behind the operator
abbrev pub up_to : Infix → ℕ → Infix
up_to seq n = record { parts = take (suc n) seq.parts ++ Operand ∷ []; root = root_up_to n seq.root }

-- the level of an operator; a prefix minus has 6
abbrev pub level_of : Part → Option ℕ
level_of Operand = None
level_of (Operator p f) = Some f.level
level_of (Minus p) = Some 6
level_of (PatternMinus p) = Some 6

abbrev pub operator_place : Part → Option Place
operator_place Operand = None
operator_place (Operator p f) = Some p
operator_place (Minus p) = Some p
operator_place (PatternMinus p) = Some p

-- an operator, a prefix minus among them
abbrev pub is_operator : Part → Bool
is_operator p = is_some (level_of p)

-- an operator whose level isn't above the limit
abbrev pub is_within : ℕ → Part → Bool
is_within limit p = unwrap_or (option_map (λ level. nat_le level limit) (level_of p)) false

-- the nearest operator before an infix operator whose level isn't above its own, or else the one directly before;
-- before a prefix minus the one directly before
abbrev pub beside : List Part → Part → Option Part
beside before (Operator p f) = option_or (find (is_within f.level) (reverse before)) (find is_operator (reverse before))
beside before _ = find is_operator (reverse before)

abbrev pub place_at : Option Part → Option Place
place_at None = None
place_at (Some p) = operator_place p

-- the places of the pair that is shown where the part behind the parts of before is the first that can't stand there
abbrev pub ShowsPair : List Part → Part → FixityError → Type 0
ShowsPair before p (FixityConflict left right) = (place_at (beside before p) ≡ Some left) × (operator_place p ≡ Some right)
ShowsPair before p (Memory e) = Unit {0}

-- right is the first operator up to whose right operand the sequence has no tree
pub record IsConflict (seq : Infix) (error : FixityError) : Type 0 where
  pub number : ℕ
  pub operator : Part
  pub stands : slice_get seq.parts number ≡ Some operator
  pub shows : ShowsPair (take number seq.parts) operator error
  pub none : HasNoGrading (up_to seq number)
  pub first : (n : ℕ) (p : Part) → n < number → slice_get seq.parts n ≡ Some p → IsTrue (is_operator p) → (t : Graded) × IsResolved (up_to seq n) t
  pub refused : HasNoGrading seq

-- a refusal that isn't for want of memory
abbrev pub IsRefused : Infix → FixityError → Type 0
IsRefused seq (FixityConflict left right) = IsConflict seq (FixityConflict left right)
IsRefused seq (Memory e) = Unit {0}

abbrev pub IsMemory : FixityError → Type 0
IsMemory (FixityConflict left right) = ⊥
IsMemory (Memory e) = Unit {0}
