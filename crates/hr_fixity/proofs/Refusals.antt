-- Where the reader stops there is no tree, and up to each operator before there is one.
use Rattle.std.proofs.Common.{◌≡◌, ℕ, zero, suc, ◌+◌, ◌-◌, ◌<◌, ◌≤◌, Bool, List, [], ◌∷◌, ◌++◌, length, take, drop, Option, Some, None, true, false, nat_le, ◌&&◌, cond, refl, sym, ◌∙◌, ap, subst, arith, length-append}
use Rattle.std.proofs.lemmas.Bool.{lt-ltb, leb-true}
use Rattle.std.proofs.lemmas.List.{take-append-drop}
use Rattle.std.specs.List.{slice_get}
use Rattle.std.specs.Option.{option_and_then}
use Rattle.hr_fixity.specs.declared.error.FixityError.{FixityError}
use Rattle.hr_fixity.specs.declared.sequence.Awaited.{Awaited}
use Rattle.hr_fixity.specs.declared.sequence.Awaited.TheVariants as await
use Rattle.hr_fixity.specs.declared.sequence.Fixity.{Fixity}
use Rattle.hr_fixity.specs.declared.sequence.Infix.{Infix}
use Rattle.hr_fixity.specs.declared.sequence.Part.{Part}
use Rattle.hr_fixity.specs.declared.sequence.Part.TheVariants as part
use Rattle.hr_fixity.specs.declared.stack.Open.{Open}
use Rattle.hr_fixity.specs.declared.tree.Graded.{Graded}
use Rattle.hr_fixity.specs.declared.tree.Graded.TheVariants as tree
use Rattle.hr_fixity.specs.Sequence.{take_turns, IsRootOf, IsInfixSequence}
use Rattle.hr_fixity.specs.Resolved.{IsConflict, IsResolved, ShowsPair, is_operator, root_up_to, up_to}
use Rattle.hr_fixity.specs.Reader.{run, take_part, close_all, with_left_operand, keeps_root, nothing_open, open_operator}
use Rattle.hr_fixity.proofs.Running.{run-append}
use Rattle.hr_fixity.proofs.Complete.{Finishes, complete}
use Rattle.hr_fixity.proofs.Rooted.{Cut, cut, sound}

last_step : (s : Option (List Open)) (f : List Open → Option (List Open)) → ((os : List Open) → f os ≡ Some os) → option_and_then f s ≡ s
last_step None f e = refl
last_step (Some os) f e = e os

-- one part more
pub run_last : (root : Option ℕ) (ps : List Part) (k : ℕ) (q : Part) (os : List Open) → length ps ≡ k → run root 0 ps [] ≡ Some os → run root 0 (ps ++ (q ∷ [])) [] ≡ take_part root k q os
run_last root ps k q os long runs =
    run-append root 0 k ps (q ∷ []) [] (omega arith) ∙ ap (option_and_then (run root k (q ∷ []))) runs ∙ last_step (take_part root k q os) (run root (suc k) []) (λ o. refl)

-- a root that is cut off changes nothing before the cut
keeps_up_to : (root : Option ℕ) (k n : ℕ) (b : Bool) → n ≤ k → keeps_root (root_up_to k root) n b ≡ keeps_root root n b
keeps_up_to None k n b h = refl
keeps_up_to (Some r) k n b h = by (nat_le r k) refl
  where
    by : (c : Bool) → nat_le r k ≡ c → keeps_root (cond c (Some r) None) n b ≡ keeps_root (Some r) n b
    by true e = refl
    by false e = let before : n < r = grind arith in rw (lt-ltb n r before) refl

operator_up_to : (root : Option ℕ) (k n : ℕ) (f : Fixity) (r : Option (List Open × Graded)) → n ≤ k → open_operator (root_up_to k root) n f r ≡ open_operator root n f r
operator_up_to root k n f None h = refl
operator_up_to root k n f (Some (os, l)) h = rw (keeps_up_to root k n (nothing_open os) h) refl

step_up_to : (root : Option ℕ) (k n : ℕ) (q : Part) (os : List Open) → n ≤ k → take_part (root_up_to k root) n q os ≡ take_part root n q os
step_up_to root k n part.Operand os h = refl
step_up_to root k n (part.Minus p) os h = refl
step_up_to root k n (part.PatternMinus p) os h = refl
step_up_to root k n (part.Operator p f) os h = operator_up_to root k n f (with_left_operand os (tree.Operand (n - 1)) f) h

same_then : (s : Option (List Open)) (f h : List Open → Option (List Open)) → ((os : List Open) → f os ≡ h os) → option_and_then f s ≡ option_and_then h s
same_then None f h e = refl
same_then (Some os) f h e = e os

run_up_to : (root : Option ℕ) (k : ℕ) (ps : List Part) (n : ℕ) (os : List Open) → n + length ps ≤ suc k → run (root_up_to k root) n ps os ≡ run root n ps os
run_up_to root k [] n os h = refl
run_up_to root k (q ∷ ps) n os h =
    ap (option_and_then (run (root_up_to k root) (suc n) ps)) (step_up_to root k n q os (omega arith))
    ∙ same_then (take_part root n q os) (run (root_up_to k root) (suc n) ps) (run root (suc n) ps) (λ os'. run_up_to root k ps (suc n) os' (omega arith))

-- parts of which a front can't be taken have no tree
stuck_front : (root : Option ℕ) (front back : List Part) (t : Graded) → run root 0 front [] ≡ None → Finishes root (front ++ back) t → ⊥
stuck_front root front back t stuck f =
    let e : run root 0 (front ++ back) [] ≡ None = run-append root 0 (length front) front back [] (omega arith) ∙ ap (option_and_then (run root (length front) back)) stuck in
    let bad : None ≡ Some f.0 = sym e ∙ f.1 in
    absurd (cc)

turns_up_to : (ps : List Part) (a : Awaited) (n : ℕ) (q : Part) → slice_get ps n ≡ Some q → is_operator q ≡ true → take_turns a ps ≡ true → take_turns a (take (suc n) ps ++ (part.Operand ∷ [])) ≡ true
turns_up_to [] a n q e o turns = absurd (cc)
turns_up_to (part.Operand ∷ ps) a zero q e o turns = absurd (let same : part.Operand ≡ q = cc in let bad : true ≡ false = sym o ∙ ap is_operator (sym same) in cc)
turns_up_to (part.Minus p ∷ ps) await.Term zero q e o turns = refl
turns_up_to (part.PatternMinus p ∷ ps) await.Term zero q e o turns = refl
turns_up_to (part.Operator p f ∷ ps) await.Operator zero q e o turns = by (nat_le f.level 9) turns
  where
    by : (b : Bool) → (b && take_turns await.Term ps) ≡ true → (b && true) ≡ true
    by true h = refl
    by false h = absurd (cc)
turns_up_to (part.Operand ∷ ps) await.Term (suc n) q e o turns = turns_up_to ps await.Operator n q e o turns
turns_up_to (part.Operand ∷ ps) await.Negated (suc n) q e o turns = turns_up_to ps await.Operator n q e o turns
turns_up_to (part.Minus p ∷ ps) await.Term (suc n) q e o turns = turns_up_to ps await.Negated n q e o turns
turns_up_to (part.PatternMinus p ∷ ps) await.Term (suc n) q e o turns = turns_up_to ps await.Negated n q e o turns
turns_up_to (part.Operator p f ∷ ps) await.Operator (suc n) q e o turns = by (nat_le f.level 9) turns (λ h. turns_up_to ps await.Term n q e o h)
  where
    by : (b : Bool) → (b && take_turns await.Term ps) ≡ true → (take_turns await.Term ps ≡ true → take_turns await.Term (take (suc n) ps ++ (part.Operand ∷ [])) ≡ true)
        → (b && take_turns await.Term (take (suc n) ps ++ (part.Operand ∷ []))) ≡ true
    by true h next = next h
    by false h next = absurd (cc)
turns_up_to (part.Operand ∷ ps) await.Operator (suc n) q e o turns = absurd (cc)
turns_up_to (part.Minus p ∷ ps) await.Negated n q e o turns = absurd (cc)
turns_up_to (part.Minus p ∷ ps) await.Operator n q e o turns = absurd (cc)
turns_up_to (part.PatternMinus p ∷ ps) await.Negated n q e o turns = absurd (cc)
turns_up_to (part.PatternMinus p ∷ ps) await.Operator n q e o turns = absurd (cc)
turns_up_to (part.Operator p f ∷ ps) await.Term n q e o turns = absurd (cc)
turns_up_to (part.Operator p f ∷ ps) await.Negated n q e o turns = absurd (cc)

slice_get_front : (ps qs : List Part) (m r : ℕ) (q : Part) → r < m → slice_get ps r ≡ Some q → slice_get (take m ps ++ qs) r ≡ Some q
slice_get_front [] qs m r q h e = absurd (cc)
slice_get_front (p ∷ ps) qs zero r q h e = absurd (omega arith)
slice_get_front (p ∷ ps) qs (suc m) zero q h e = e
slice_get_front (p ∷ ps) qs (suc m) (suc r) q h e = slice_get_front ps qs m r q (omega arith) e

root_of_up_to : (root : Option ℕ) (ps : List Part) (n : ℕ) → IsRootOf ps root → IsRootOf (take (suc n) ps ++ (part.Operand ∷ [])) (root_up_to n root)
root_of_up_to None ps n h = tt
root_of_up_to (Some r) ps n h = by (nat_le r n) refl
  where
    by : (b : Bool) → nat_le r n ≡ b → IsRootOf (take (suc n) ps ++ (part.Operand ∷ [])) (cond b (Some r) None)
    by true e = let le : r ≤ n = leb-true r n e in (h.0, h.1, slice_get_front ps (part.Operand ∷ []) (suc n) r (part.Operator h.0 h.1) (omega arith) h.2)
    by false e = tt

take_within : (ps : List Part) (n k : ℕ) → n ≤ k → take k ps ≡ take n ps ++ drop n (take k ps)
take_within ps n k h = sym (take-append-drop n (take k ps)) ∙ ap (λ qs. qs ++ drop n (take k ps)) (shorter ps n k h)
  where
    shorter : (ps : List Part) (n k : ℕ) → n ≤ k → take n (take k ps) ≡ take n ps
    shorter [] zero k h = refl
    shorter [] (suc n) zero h = refl
    shorter [] (suc n) (suc k) h = refl
    shorter (p ∷ ps) zero k h = refl
    shorter (p ∷ ps) (suc n) zero h = absurd (omega arith)
    shorter (p ∷ ps) (suc n) (suc k) h = ap (λ qs. p ∷ qs) (shorter ps n k (omega arith))

-- a front of parts that are taken is taken
front_runs : (root : Option ℕ) (front back : List Part) (os : List Open) → run root 0 (front ++ back) [] ≡ Some os → (os' : List Open) × (run root 0 front [] ≡ Some os')
front_runs root front back os runs = by (run root 0 front []) refl (sym (run-append root 0 (length front) front back [] (omega arith)) ∙ runs)
  where
    by : (s : Option (List Open)) → run root 0 front [] ≡ s → option_and_then (run root (length front) back) s ≡ Some os → (os' : List Open) × (run root 0 front [] ≡ Some os')
    by None e bad = absurd (cc)
    by (Some os') e h = (os', e)

module _ (seq : Infix) (is : IsInfixSequence seq) (k : ℕ) (q : Part) (os : List Open) (here : slice_get seq.parts k ≡ Some q)
    (runs : run seq.root 0 (take k seq.parts) [] ≡ Some os) where
  tree_up_to : (n : ℕ) (p : Part) → n < k → slice_get seq.parts n ≡ Some p → is_operator p ≡ true → (t : Graded) × IsResolved (up_to seq n) t
  tree_up_to n p lt e o =
      let c : Cut seq.parts n p = cut seq.parts n p e in
      let long : length (take (suc n) seq.parts) ≡ suc n = ap length c.more ∙ length-append (take n seq.parts) (p ∷ []) ∙ (let l : length (take n seq.parts) ≡ n = c.long in omega arith) in
      let f : (os' : List Open) × (run seq.root 0 (take (suc n) seq.parts) [] ≡ Some os') =
      front_runs seq.root (take (suc n) seq.parts) (drop (suc n) (take k seq.parts)) os (subst (λ ps. run seq.root 0 ps [] ≡ Some os) (take_within seq.parts (suc n) k (omega arith)) runs) in
      let cut_off : run (root_up_to n seq.root) 0 (take (suc n) seq.parts) [] ≡ Some f.0 = run_up_to seq.root n (take (suc n) seq.parts) 0 [] (omega arith) ∙ f.1 in
      let whole : run (root_up_to n seq.root) 0 (take (suc n) seq.parts ++ (part.Operand ∷ [])) [] ≡ Some f.0 =
      run_last (root_up_to n seq.root) (take (suc n) seq.parts) (suc n) part.Operand f.0 long cut_off in (
        close_all f.0 (tree.Operand (length (take (suc n) seq.parts ++ (part.Operand ∷ [])) - 1)),
        sound (up_to seq n) f.0 (turns_up_to seq.parts await.Term n p e o is.turns) (root_of_up_to seq.root seq.parts n is.root) whole,
      )

  pub stuck : take_part seq.root k q os ≡ None → run seq.root 0 (take (suc k) seq.parts) [] ≡ None
  stuck e =
      let c : Cut seq.parts k q = cut seq.parts k q here in
      ap (λ ps. run seq.root 0 ps []) c.more ∙ run_last seq.root (take k seq.parts) k q os c.long runs ∙ e

  long_up_to : 0 + length (take (suc k) seq.parts) ≤ suc k
  long_up_to =
      let c : Cut seq.parts k q = cut seq.parts k q here in
      let long : length (take k seq.parts) ≡ k = c.long in
      omega (arith, ap length c.more, length-append (take k seq.parts) (q ∷ []))

  pub refused : (error : FixityError) → take_part seq.root k q os ≡ None → ShowsPair (take k seq.parts) q error → IsConflict seq error
  refused error e shows = record {
    number = k;
    operator = q;
    stands = here;
    shows = shows;
    none = λ t r. stuck_front (root_up_to k seq.root) (take (suc k) seq.parts) (part.Operand ∷ []) t
        (run_up_to seq.root k (take (suc k) seq.parts) 0 [] long_up_to ∙ stuck e)
        (complete (root_up_to k seq.root) (take (suc k) seq.parts ++ (part.Operand ∷ [])) t r.graded r.rooted);
    first = λ n p lt at o. tree_up_to n p lt at o;
    refused = λ t r. stuck_front seq.root (take (suc k) seq.parts) (drop (suc k) seq.parts) t (stuck e)
        (subst (λ ps. Finishes seq.root ps t) (sym (take-append-drop (suc k) seq.parts)) (complete seq.root seq.parts t r.graded r.rooted));
  }

pub run_more : (root : Option ℕ) (ps : List Part) (k : ℕ) (q : Part) (os rest : List Open) (b : Bool) → slice_get ps k ≡ Some q → run root 0 (take k ps) [] ≡ Some os
    → take_part root k q os ≡ cond b (Some rest) None → b ≡ true → run root 0 (take (k + 1) ps) [] ≡ Some rest
run_more root ps k q os rest b here runs taken is_true =
    let c : Cut ps k q = cut ps k q here in
    let e : k + 1 ≡ suc k = omega arith in
    ap (λ n. run root 0 (take n ps) []) e ∙ ap (λ qs. run root 0 qs []) c.more ∙ run_last root (take k ps) k q os c.long runs ∙ taken ∙ ap (λ a. cond a (Some rest) None) is_true
