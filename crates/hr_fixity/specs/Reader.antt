-- A reader of sequences with a stack of open operators, the innermost first: what `resolve` computes.
use Rattle.std.specs.Prelude.{◌≡◌, ℕ, suc, ◌-◌, ◌==◌, nat_lt, Bool, true, false, not, if◌then◌else◌, List, [], ◌∷◌, take, slice_get, Option, Some, None}
use Rattle.std.specs.Option.{option_and_then}
use Rattle.hr_fixity.specs.declared.sequence.Direction.{Direction}
use Rattle.hr_fixity.specs.declared.sequence.Direction.TheVariants.{Left, Right}
use Rattle.hr_fixity.specs.declared.sequence.Fixity.{Fixity}
use Rattle.hr_fixity.specs.declared.sequence.Infix.{Infix}
use Rattle.hr_fixity.specs.declared.sequence.Part.{Part}
use Rattle.hr_fixity.specs.declared.sequence.Part.TheVariants as part
use Rattle.hr_fixity.specs.declared.stack.Open.{Open}
use Rattle.hr_fixity.specs.declared.stack.Open.TheVariants.{Operator, Minus, PatternMinus}
use Rattle.hr_fixity.specs.declared.stack.Turn.{Turn}
use Rattle.hr_fixity.specs.declared.stack.Turn.TheVariants.{Closes, Opens, Clashes}
use Rattle.hr_fixity.specs.declared.tree.Graded.{Graded}
use Rattle.hr_fixity.specs.declared.tree.Graded.TheVariants as tree

-- the grade in which a prefix minus stands
abbrev pub minus : Fixity
minus = record { level = 6; direction = Left }

abbrev pub turn_at_one_level : Direction → Direction → Turn
turn_at_one_level Left Left = Closes
turn_at_one_level Right Right = Opens
turn_at_one_level _ _ = Clashes

-- what an operator does to an open one
abbrev pub turn_between : Fixity → Fixity → Turn
turn_between before next =
    if nat_lt next.level before.level then Closes
    else (if nat_lt before.level next.level then Opens else turn_at_one_level before.direction next.direction)

-- an operator never stands within the literal of a pattern
abbrev pub never_opens : Turn → Turn
never_opens Closes = Closes
never_opens _ = Clashes

abbrev pub turn_of : Open → Fixity → Turn
turn_of (Operator n f l) next = turn_between f next
turn_of (Minus n) next = turn_between minus next
turn_of (PatternMinus n) next = never_opens (turn_between minus next)

abbrev pub turn_at : List Open → Fixity → Turn
turn_at [] next = Opens
turn_at (o ∷ os) next = turn_of o next

-- the operator with its right operand
abbrev pub close : Open → Graded → Graded
close (Operator n f l) t = tree.Binary n l t
close (Minus n) t = tree.Negated n t
close (PatternMinus n) t = tree.Negated n t

abbrev pub close_all : List Open → Graded → Graded
close_all [] t = t
close_all (o ∷ os) t = close_all os (close o t)

abbrev pub by_turn : {X : Type 0} → Turn → X → X → X → X
by_turn Closes x y z = x
by_turn Opens x y z = y
by_turn Clashes x y z = z

-- closes what binds tighter than the next operator: what stays open, and the operator's left operand
abbrev pub with_left_operand : List Open → Graded → Fixity → Option (List Open × Graded)
with_left_operand [] t next = Some ([], t)
with_left_operand (o ∷ os) t next = by_turn (turn_of o next) (with_left_operand os (close o t) next) (Some (o ∷ os, t)) None

abbrev pub nothing_open : List Open → Bool
nothing_open [] = true
nothing_open _ = false

-- nothing is open round the demanded root, and something is round each later operator
abbrev pub keeps_root : Option ℕ → ℕ → Bool → Bool
keeps_root None n is_outermost = true
keeps_root (Some r) n is_outermost = if nat_lt n r then true else (if n == r then is_outermost else not is_outermost)

abbrev pub open_minus : List Open → Open → Option (List Open)
open_minus os o = by_turn (turn_at os minus) None (Some (o ∷ os)) None

abbrev pub open_operator : Option ℕ → ℕ → Fixity → Option (List Open × Graded) → Option (List Open)
open_operator root n f None = None
open_operator root n f (Some (os, l)) = if keeps_root root n (nothing_open os) then Some (Operator n f l ∷ os) else None

-- takes the part of this number
abbrev pub take_part : Option ℕ → ℕ → Part → List Open → Option (List Open)
take_part root n part.Operand os = Some os
take_part root n (part.Minus p) os = open_minus os (Minus n)
take_part root n (part.PatternMinus p) os = open_minus os (PatternMinus n)
take_part root n (part.Operator p f) os = open_operator root n f (with_left_operand os (tree.Operand (n - 1)) f)

-- takes the parts from this number on
abbrev pub run : Option ℕ → ℕ → List Part → List Open → Option (List Open)
run root n [] os = Some os
run root n (p ∷ ps) os = option_and_then (run root (suc n) ps) (take_part root n p os)

-- the first part that can't be taken has this number
pub record IsFirstUntaken (seq : Infix) (number : ℕ) : Type 0 where
  pub part : Part
  pub stack : List Open
  pub stands : slice_get seq.parts number ≡ Some part
  pub taken : run seq.root 0 (take number seq.parts) [] ≡ Some stack
  pub stops : take_part seq.root number part stack ≡ None
