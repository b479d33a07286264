-- The demanded operator stays the outermost one on the stack, and so comes to stand at the root.
use Rattle.std.proofs.Common.{◌≡◌, ℕ, zero, suc, ◌-◌, ◌<◌, ◌≤◌, Bool, List, [], ◌∷◌, ◌++◌, length, take, drop, Option, Some, None, true, false, nat_eq, not, cond, refl, sym, ◌∙◌, ap, subst, arith}
use Rattle.std.proofs.lemmas.Bool.{le-ltb, eq-eqb}
use Rattle.std.specs.List.{slice_get}
use Rattle.std.specs.Option.{option_and_then}
use Rattle.hr_base.specs.declared.place.Place.{Place}
use Rattle.hr_fixity.specs.declared.sequence.Awaited.TheVariants as await
use Rattle.hr_fixity.specs.declared.sequence.Fixity.{Fixity}
use Rattle.hr_fixity.specs.declared.sequence.Infix.{Infix}
use Rattle.hr_fixity.specs.declared.sequence.Part.{Part}
use Rattle.hr_fixity.specs.declared.sequence.Part.TheVariants as part
use Rattle.hr_fixity.specs.declared.stack.Open.{Open}
use Rattle.hr_fixity.specs.declared.stack.Open.TheVariants as open_
use Rattle.hr_fixity.specs.declared.stack.Turn.{Turn}
use Rattle.hr_fixity.specs.declared.stack.Turn.TheVariants.{Closes, Opens, Clashes}
use Rattle.hr_fixity.specs.declared.tree.Graded.{Graded}
use Rattle.hr_fixity.specs.declared.tree.Graded.TheVariants as tree
use Rattle.hr_fixity.specs.Sequence.{take_turns, IsRootOf}
use Rattle.hr_fixity.specs.Resolved.{HasRoot, IsResolved}
use Rattle.hr_fixity.specs.Reader as reader
use Rattle.hr_fixity.specs.Reader.{run, take_part, turn_at, turn_of, by_turn, close, close_all, with_left_operand, keeps_root, nothing_open, open_operator, open_minus}
use Rattle.hr_fixity.proofs.Running.{run-append}
use Rattle.hr_fixity.proofs.Whole.{graded}

abbrev pub Outermost : ℕ → List Open → Type 0
Outermost r [] = ⊥
Outermost r (o ∷ []) = (f : Fixity) × (l : Graded) × (o ≡ open_.Operator r f l)
Outermost r (o ∷ p ∷ os) = Outermost r (p ∷ os)

outermost_under : (r : ℕ) (o : Open) (os : List Open) → Outermost r os → Outermost r (o ∷ os)
outermost_under r o [] h = absurd h
outermost_under r o (p ∷ os) h = h

pub close_all_root : (r : ℕ) (os : List Open) (t : Graded) → Outermost r os → HasRoot (Some r) (close_all os t)
close_all_root r [] t h = absurd h
close_all_root r (o ∷ []) t h = (h.1, t, ap (λ q. close q t) h.2)
close_all_root r (o ∷ p ∷ os) t h = close_all_root r (p ∷ os) (close o t) h

abbrev pub Kept : ℕ → Option (List Open × Graded) → Type 0
Kept r None = Unit {0}
Kept r (Some (os, l)) = nothing_open os ≡ false → Outermost r os

left_keeps : (r : ℕ) (os : List Open) (t : Graded) (f : Fixity) → (nothing_open os ≡ false → Outermost r os) → Kept r (with_left_operand os t f)
left_keeps r [] t f h = h
left_keeps r (o ∷ os) t f h = by (turn_of o f)
    (left_keeps r os (close o t) f (below os (h refl)))
  where
    below : (ps : List Open) → Outermost r (o ∷ ps) → nothing_open ps ≡ false → Outermost r ps
    below [] out e = absurd (cc)
    below (p ∷ ps) out e = out

    by : (u : Turn) → Kept r (with_left_operand os (close o t) f) → Kept r (by_turn u (with_left_operand os (close o t) f) (Some (o ∷ os, t)) None)
    by Closes k = k
    by Opens k = h
    by Clashes k = tt

-- behind the root something stays open
keeps_later : (r n : ℕ) (b : Bool) → r < n → keeps_root (Some r) n b ≡ not b
keeps_later r n b h = let le : r ≤ n = omega arith in let ne : nat_eq n r ≡ false = grind arith in rw (le-ltb n r le, ne) refl

-- the stack after more parts, if there is one
abbrev pub Holds : ℕ → Option (List Open) → Type 0
Holds r None = Unit {0}
Holds r (Some os) = Outermost r os

pub run_keeps : (r : ℕ) (ps : List Part) (n : ℕ) (os : List Open) → r < n → Outermost r os → Holds r (run (Some r) n ps os)
run_keeps r [] n os h out = out
run_keeps r (q ∷ ps) n os h out = then_ (take_part (Some r) n q os) (one q) (λ os' out'. run_keeps r ps (suc n) os' (omega arith) out')
  where
    then_ : (s : Option (List Open)) → Holds r s → ((os' : List Open) → Outermost r os' → Holds r (run (Some r) (suc n) ps os')) → Holds r (option_and_then (run (Some r) (suc n) ps) s)
    then_ None k next = tt
    then_ (Some os') k next = next os' k

    minus_ : (o : Open) (u : Turn) → Holds r (by_turn u None (Some (o ∷ os)) None)
    minus_ o Closes = tt
    minus_ o Opens = outermost_under r o os out
    minus_ o Clashes = tt

    infix_ : (f : Fixity) (s : Option (List Open × Graded)) → Kept r s → Holds r (open_operator (Some r) n f s)
    infix_ f None k = tt
    infix_ f (Some (os', l)) k = subst (λ b. Holds r (cond b (Some (open_.Operator n f l ∷ os')) None)) (sym (keeps_later r n (nothing_open os') h)) (by (nothing_open os') refl)
      where
        by : (b : Bool) → nothing_open os' ≡ b → Holds r (cond (not b) (Some (open_.Operator n f l ∷ os')) None)
        by true e = tt
        by false e = outermost_under r (open_.Operator n f l) os' (k e)

    one : (q : Part) → Holds r (take_part (Some r) n q os)
    one part.Operand = out
    one (part.Minus p) = minus_ (open_.Minus n) (turn_at os reader.minus)
    one (part.PatternMinus p) = minus_ (open_.PatternMinus n) (turn_at os reader.minus)
    one (part.Operator p f) = infix_ f (with_left_operand os (tree.Operand (n - 1)) f) (left_keeps r os (tree.Operand (n - 1)) f (λ e. out))

-- the parts up to a number and from it on
pub record Cut (ps : List Part) (k : ℕ) (q : Part) : Type 0 where
  pub whole : ps ≡ take k ps ++ (q ∷ drop (suc k) ps)
  pub long : length (take k ps) ≡ k
  pub more : take (suc k) ps ≡ take k ps ++ (q ∷ [])

pub cut : (ps : List Part) (k : ℕ) (q : Part) → slice_get ps k ≡ Some q → Cut ps k q
cut [] k q e = absurd (cc)
cut (p ∷ ps) zero q e = let same : p ≡ q = cc in record { whole = ap (λ r. r ∷ ps) same; long = refl; more = ap (λ r. r ∷ []) same }
cut (p ∷ ps) (suc k) q e =
    let c : Cut ps k q = cut ps k q e in
    record { whole = ap (λ r. p ∷ r) c.whole; long = let l : length (take k ps) ≡ k = c.long in omega arith; more = ap (λ r. p ∷ r) c.more }

-- where the demanded operator is taken, nothing is open round it
at_root : (r : ℕ) (p : Place) (f : Fixity) (os : List Open) → Holds r (take_part (Some r) r (part.Operator p f) os)
at_root r p f os = infix_ (with_left_operand os (tree.Operand (r - 1)) f)
  where
    keeps : (b : Bool) → keeps_root (Some r) r b ≡ b
    keeps b = let le : r ≤ r = omega arith in rw (le-ltb r r le, eq-eqb r r refl) refl

    infix_ : (s : Option (List Open × Graded)) → Holds r (open_operator (Some r) r f s)
    infix_ None = tt
    infix_ (Some ([], l)) = subst (λ b. Holds r (cond b (Some (open_.Operator r f l ∷ [])) None)) (sym (keeps true)) (f, l, refl)
    infix_ (Some (o ∷ os', l)) = subst (λ b. Holds r (cond b (Some (open_.Operator r f l ∷ o ∷ os')) None)) (sym (keeps false)) tt

pub rooted_by : (r : ℕ) (p : Place) (f : Fixity) (ps qs : List Part) (os : List Open) → length ps ≡ r → run (Some r) 0 (ps ++ (part.Operator p f ∷ qs)) [] ≡ Some os → Outermost r os
rooted_by r p f ps qs os e runs =
    subst (λ s. Holds r s) (sym (run-append (Some r) 0 r ps (part.Operator p f ∷ qs) [] (omega arith)) ∙ runs) (first (run (Some r) 0 ps []))
  where
    second : (s : Option (List Open)) → Holds r s → Holds r (option_and_then (run (Some r) (suc r) qs) s)
    second None h = tt
    second (Some os') h = run_keeps r qs (suc r) os' (omega arith) h

    first : (s : Option (List Open)) → Holds r (option_and_then (run (Some r) r (part.Operator p f ∷ qs)) s)
    first None = tt
    first (Some os') = second (take_part (Some r) r (part.Operator p f) os') (at_root r p f os')

rooted : (root : Option ℕ) (ps : List Part) (os : List Open) (t : Graded) → IsRootOf ps root → run root 0 ps [] ≡ Some os → HasRoot root (close_all os t)
rooted None ps os t h runs = tt
rooted (Some r) ps os t h runs =
    let c : Cut ps r (part.Operator h.0 h.1) = cut ps r (part.Operator h.0 h.1) h.2 in
    close_all_root r os t (rooted_by r h.0 h.1 (take r ps) (drop (suc r) ps) os c.long (subst (λ qs. run (Some r) 0 qs [] ≡ Some os) c.whole runs))

pub sound : (seq : Infix) (os : List Open) → take_turns await.Term seq.parts ≡ true → IsRootOf seq.parts seq.root → run seq.root 0 seq.parts [] ≡ Some os
    → IsResolved seq (close_all os (tree.Operand (length seq.parts - 1)))
sound seq os turns root runs = record {
  graded = graded seq.root seq.parts os turns runs;
  rooted = rooted seq.root seq.parts os (tree.Operand (length seq.parts - 1)) root runs;
}
