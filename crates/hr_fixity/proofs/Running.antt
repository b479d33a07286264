-- How the reader of sequences goes on from a stack.
use Rattle.std.proofs.Common.{◌≡◌, ℕ, suc, ◌+◌, ◌-◌, List, [], ◌∷◌, ◌++◌, length, Option, Some, None, true, refl, ◌∙◌, ap, arith}
use Rattle.std.specs.Option.{option_and_then}
use Rattle.hr_fixity.specs.declared.sequence.Fixity.{Fixity}
use Rattle.hr_fixity.specs.declared.sequence.Part.{Part}
use Rattle.hr_fixity.specs.declared.sequence.Part.TheVariants as part
use Rattle.hr_fixity.specs.declared.stack.Open.{Open}
use Rattle.hr_fixity.specs.declared.stack.Open.TheVariants.{Operator}
use Rattle.hr_fixity.specs.declared.stack.Turn.TheVariants.{Closes, Opens}
use Rattle.hr_fixity.specs.declared.tree.Graded.{Graded}
use Rattle.hr_fixity.specs.declared.tree.Graded.TheVariants as tree
use Rattle.hr_fixity.specs.Reader.{run, take_part, turn_at, turn_of, close, close_all, with_left_operand, open_operator, keeps_root, nothing_open}

abbrev pub AllClose : List Open → Fixity → Type 0
AllClose [] f = Unit {0}
AllClose (o ∷ os) f = (turn_of o f ≡ Closes) × AllClose os f

run_on : (f g : List Open → Option (List Open)) (h : List Open → Option (List Open)) → ((os : List Open) → f os ≡ option_and_then h (g os))
    → (s : Option (List Open)) → option_and_then f s ≡ option_and_then h (option_and_then g s)
run_on f g h e None = refl
run_on f g h e (Some os) = e os

pub run-append : (root : Option ℕ) (n m : ℕ) (ps qs : List Part) (os : List Open) → m ≡ n + length ps
    → run root n (ps ++ qs) os ≡ option_and_then (run root m qs) (run root n ps os)
run-append root n m [] qs os e = let here : n ≡ m = omega arith in ap (λ k. run root k qs os) here
run-append root n m (p ∷ ps) qs os e =
    let e' : m ≡ suc n + length ps = omega arith in
    run_on (run root (suc n) (ps ++ qs)) (run root (suc n) ps) (run root m qs) (λ os'. run-append root (suc n) m ps qs os' e') (take_part root n p os)

pub left_of-closes : (edge os : List Open) (t : Graded) (f : Fixity) → AllClose edge f → with_left_operand (edge ++ os) t f ≡ with_left_operand os (close_all edge t) f
left_of-closes [] os t f all = refl
left_of-closes (o ∷ edge) os t f all = rw (all.0) (left_of-closes edge os (close o t) f all.1)

pub left_of-opens : (os : List Open) (t : Graded) (f : Fixity) → turn_at os f ≡ Opens → with_left_operand os t f ≡ Some (os, t)
left_of-opens [] t f h = refl
left_of-opens (o ∷ os) t f h = rw h refl

pub close_all-append : (edge : List Open) (o : Open) (t : Graded) → close_all (edge ++ (o ∷ [])) t ≡ close o (close_all edge t)
close_all-append [] o t = refl
close_all-append (p ∷ edge) o t = close_all-append edge o (close p t)

pub AllClose-append : (edge : List Open) (o : Open) (f : Fixity) → AllClose edge f → turn_of o f ≡ Closes → AllClose (edge ++ (o ∷ [])) f
AllClose-append [] o f all h = (h, tt)
AllClose-append (p ∷ edge) o f all h = (all.0, AllClose-append edge o f all.1 h)

-- an operator behind its whole left operand
pub step-operator : (root : Option ℕ) (n : ℕ) (p : _) (f : Fixity) (edge os : List Open) (l : Graded) → AllClose edge f → close_all edge (tree.Operand (n - 1)) ≡ l
    → turn_at os f ≡ Opens → keeps_root root n (nothing_open os) ≡ true → take_part root n (part.Operator p f) (edge ++ os) ≡ Some (Operator n f l ∷ os)
step-operator root n p f edge os l all whole opens keeps =
    ap (open_operator root n f) (left_of-closes edge os (tree.Operand (n - 1)) f all ∙ ap (λ t. with_left_operand os t f) whole ∙ left_of-opens os l f opens)
    ∙ rw keeps refl
