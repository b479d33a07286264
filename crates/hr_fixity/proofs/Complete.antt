-- What a nonterminal derives, the reader reads: it puts the right edge of the tree on the stack.
use Rattle.std.proofs.Common.{◌≡◌, ℕ, suc, ◌+◌, ◌-◌, ◌<◌, ◌≤◌, ◌⊎◌, inl, inr, List, [], ◌∷◌, ◌++◌, length, Option, Some, None, true, false, nat_eq, refl, sym, ◌∙◌, ap, arith, append_assoc, append-nil, length-append}
use Rattle.std.proofs.lemmas.Bool.{lt-ltb, le-ltb, eq-eqb}
use Rattle.std.specs.Option.{option_and_then}
use Rattle.hr_fixity.specs.declared.sequence.Direction.TheVariants.{Left, Right, Neither}
use Rattle.hr_fixity.specs.declared.sequence.Fixity.{Fixity}
use Rattle.hr_fixity.specs.declared.sequence.Part.{Part}
use Rattle.hr_fixity.specs.declared.sequence.Part.TheVariants as part
use Rattle.hr_fixity.specs.declared.stack.Open.{Open}
use Rattle.hr_fixity.specs.declared.stack.Open.TheVariants as open_
use Rattle.hr_fixity.specs.declared.stack.Turn.TheVariants.{Closes, Opens}
use Rattle.hr_fixity.specs.declared.tree.Graded.{Graded}
use Rattle.hr_fixity.specs.declared.tree.Graded.TheVariants as tree
use Rattle.hr_fixity.specs.Productions.{Nonterminal, Any, LeftOnly, RightOnly, Grades, operand, higher, left, right, neither, left_left, left_any, minus, pattern_minus, any_right, right_right}
use Rattle.hr_fixity.specs.Resolved.{HasRoot}
use Rattle.hr_fixity.specs.Reader as reader
use Rattle.hr_fixity.specs.Reader.{run, take_part, turn_at, turn_of, turn_between, close, close_all, keeps_root, nothing_open}
use Rattle.hr_fixity.proofs.Turns.{Looser, Within, closes_above, opens_below, closes_left, opens_right}
use Rattle.hr_fixity.proofs.Running.{AllClose, AllClose-append, run-append, close_all-append, step-operator}

-- from the stack os the reader puts the right edge of the tree on it, which everything looser closes
pub record PutsEdge (root : Option ℕ) (x : Nonterminal) (n : ℕ) (ps : List Part) (t : Graded) (os : List Open) : Type 0 where
  pub edge : List Open
  pub runs : run root n ps os ≡ Some (edge ++ os)
  pub whole : close_all edge (tree.Operand (n + length ps - 1)) ≡ t
  pub closes : (f : Fixity) → Looser x f → AllClose edge f

-- a root that is demanded stands behind the number m, or before n with something open
abbrev pub Free : Option ℕ → ℕ → ℕ → List Open → Type 0
Free root n m os = (r : ℕ) → root ≡ Some r → (m ≤ r) ⊎ ((r < n) × (nothing_open os ≡ false))

-- the stack opens for what stands in a tree of the nonterminal
abbrev pub Takes : List Open → Nonterminal → Type 0
Takes os x = (f : Fixity) → Within x f → turn_at os f ≡ Opens

pub keeps_free : (root : Option ℕ) (n m k : ℕ) (os : List Open) → Free root n m os → n ≤ k → k < m → keeps_root root k (nothing_open os) ≡ true
keeps_free None n m k os free low high = refl
keeps_free (Some r) n m k os free low high = by (free r refl)
  where
    by : (m ≤ r) ⊎ ((r < n) × (nothing_open os ≡ false)) → keeps_root (Some r) k (nothing_open os) ≡ true
    by (inl h) = let before : k < r = omega arith in rw (lt-ltb k r before) refl
    by (inr (h, e)) = let le : r ≤ k = omega arith in let ne : nat_eq k r ≡ false = grind arith in rw (le-ltb k r le, ne, e) refl

free_left : (root : Option ℕ) (n m m' : ℕ) (os : List Open) → m' ≤ m → Free root n m os → Free root n m' os
free_left root n m m' os le free r e = by (free r e)
  where
    by : (m ≤ r) ⊎ ((r < n) × (nothing_open os ≡ false)) → (m' ≤ r) ⊎ ((r < n) × (nothing_open os ≡ false))
    by (inl h) = inl (omega arith)
    by (inr h) = inr h

free_right : (root : Option ℕ) (n n' m : ℕ) (o : Open) (os : List Open) → n ≤ n' → Free root n m os → Free root n' m (o ∷ os)
free_right root n n' m o os le free r e = by (free r e)
  where
    by : (m ≤ r) ⊎ ((r < n) × (nothing_open os ≡ false)) → (m ≤ r) ⊎ ((r < n') × (nothing_open (o ∷ os) ≡ false))
    by (inl h) = inl h
    by (inr h) = inr (omega arith, refl)

-- an operator between what its operands read
pub binary : (root : Option ℕ) (x y z : Nonterminal) (n : ℕ) (p : _) (f : Fixity) (ls rs : List Part) (l r : Graded) (os : List Open)
    → PutsEdge root y n ls l os → PutsEdge root z (suc (n + length ls)) rs r (open_.Operator (n + length ls) f l ∷ os)
    → keeps_root root (n + length ls) (nothing_open os) ≡ true → turn_at os f ≡ Opens → Looser y f
    → ((g : Fixity) → Looser x g → (turn_between f g ≡ Closes) × Looser z g)
    → PutsEdge root x n (ls ++ (part.Operator p f ∷ rs)) (tree.Binary (n + length ls) l r) os
binary root x y z n p f ls rs l r os before behind keeps opens looser down = record {
  edge = behind.edge ++ (o ∷ []);
  runs = run-append root n k ls (part.Operator p f ∷ rs) os refl ∙ ap (option_and_then (run root k (part.Operator p f ∷ rs))) before.runs
      ∙ ap (option_and_then (run root (suc k) rs)) (step-operator root k p f before.edge os l (before.closes f looser) before.whole opens keeps)
      ∙ behind.runs ∙ ap Some (sym (append_assoc behind.edge (o ∷ []) os));
  whole = ap (λ i. close_all (behind.edge ++ (o ∷ [])) (tree.Operand i)) last ∙ close_all-append behind.edge o (tree.Operand (suc k + length rs - 1)) ∙ ap (close o) behind.whole;
  closes = λ g h. AllClose-append behind.edge o g (behind.closes g (down g h).1) (down g h).0;
}
  where
    k : ℕ
    k = n + length ls

    o : Open
    o = open_.Operator k f l

    last : n + length (ls ++ (part.Operator p f ∷ rs)) - 1 ≡ suc k + length rs - 1
    last = omega (arith, length-append ls (part.Operator p f ∷ rs))

looser_than : (root : Option ℕ) (x y : Nonterminal) (n : ℕ) (ps : List Part) (t : Graded) (os : List Open) → ((f : Fixity) → Looser x f → Looser y f)
    → PutsEdge root y n ps t os → PutsEdge root x n ps t os
looser_than root x y n ps t os looser r = record { edge = r.edge; runs = r.runs; whole = r.whole; closes = λ f h. r.closes f (looser f h) }

free_minus : (root : Option ℕ) (n : ℕ) (p : Part) (ps : List Part) (o : Open) (os : List Open) → Free root n (n + length (p ∷ ps)) os → Free root (suc n) (suc n + length ps) (o ∷ os)
free_minus root n p ps o os free =
    free_left root (suc n) (n + length (p ∷ ps)) (suc n + length ps) (o ∷ os) (omega arith) (free_right root n (suc n) (n + length (p ∷ ps)) o os (omega arith) free)

-- the operands' parts of a sequence that doesn't have the root within
free_before : (root : Option ℕ) (n : ℕ) (ls rs : List Part) (q : Part) (os : List Open) → Free root n (n + length (ls ++ (q ∷ rs))) os → Free root n (n + length ls) os
free_before root n ls rs q os free = free_left root n (n + length (ls ++ (q ∷ rs))) (n + length ls) os (omega (arith, length-append ls (q ∷ rs))) free

free_behind : (root : Option ℕ) (n : ℕ) (ls rs : List Part) (q : Part) (o : Open) (os : List Open) → Free root n (n + length (ls ++ (q ∷ rs))) os
    → Free root (suc (n + length ls)) (suc (n + length ls) + length rs) (o ∷ os)
free_behind root n ls rs q o os free =
    free_left root (suc (n + length ls)) (n + length (ls ++ (q ∷ rs))) (suc (n + length ls) + length rs) (o ∷ os) (omega (arith, length-append ls (q ∷ rs)))
    (free_right root n (suc (n + length ls)) (n + length (ls ++ (q ∷ rs))) o os (omega arith) free)

keeps_between : (root : Option ℕ) (n : ℕ) (ls rs : List Part) (q : Part) (os : List Open) → Free root n (n + length (ls ++ (q ∷ rs))) os → keeps_root root (n + length ls) (nothing_open os) ≡ true
keeps_between root n ls rs q os free =
    keeps_free root n (n + length (ls ++ (q ∷ rs))) (n + length ls) os free (omega arith) (omega (arith, length-append ls (q ∷ rs)))

next_level : (i : ℕ) (g : Fixity) → Looser (LeftOnly i) g → g.level < suc i
next_level i g (inl h) = omega arith
next_level i g (inr h) = let e : g.level ≡ i = h.0 in omega arith

within_left : (i : ℕ) (f : Fixity) → Within (LeftOnly i) f → Within (Any i) f
within_left i f (inl h) = omega arith
within_left i f (inr h) = let e : f.level ≡ i = h.0 in omega arith

within_right : (i : ℕ) (f : Fixity) → Within (RightOnly i) f → Within (Any i) f
within_right i f (inl h) = omega arith
within_right i f (inr h) = let e : f.level ≡ i = h.0 in omega arith

-- a prefix minus before what its operand reads
pub negation : (root : Option ℕ) (n : ℕ) (p : _) (ps : List Part) (t : Graded) (os : List Open) → turn_at os reader.minus ≡ Opens
    → PutsEdge root (Any 7) (suc n) ps t (open_.Minus n ∷ os) → PutsEdge root (LeftOnly 6) n (part.Minus p ∷ ps) (tree.Negated n t) os
negation root n p ps t os opens r = record {
  edge = r.edge ++ (open_.Minus n ∷ []);
  runs = ap (option_and_then (run root (suc n) ps)) opened ∙ r.runs ∙ ap Some (sym (append_assoc r.edge (open_.Minus n ∷ []) os));
  whole = ap (λ i. close_all (r.edge ++ (open_.Minus n ∷ [])) (tree.Operand i)) last ∙ close_all-append r.edge (open_.Minus n) (tree.Operand (suc n + length ps - 1)) ∙ ap (tree.Negated n) r.whole;
  closes = λ g h. AllClose-append r.edge (open_.Minus n) g (r.closes g (next_level 6 g h)) (closes_left reader.minus g refl h);
}
  where
    opened : take_part root n (part.Minus p) os ≡ Some (open_.Minus n ∷ os)
    opened = rw opens refl

    last : n + length (part.Minus p ∷ ps) - 1 ≡ suc n + length ps - 1
    last = omega arith

pub pattern_negation : (root : Option ℕ) (n : ℕ) (p : _) (os : List Open) → turn_at os reader.minus ≡ Opens
    → PutsEdge root (LeftOnly 6) n (part.PatternMinus p ∷ part.Operand ∷ []) (tree.Negated n (tree.Operand (suc n))) os
pattern_negation root n p os opens = record {
  edge = open_.PatternMinus n ∷ [];
  runs = ap (option_and_then (run root (suc n) (part.Operand ∷ []))) opened;
  whole = ap (λ i. tree.Negated n (tree.Operand i)) last;
  closes = λ g h. (ap reader.never_opens (closes_left reader.minus g refl h), tt);
}
  where
    opened : take_part root n (part.PatternMinus p) os ≡ Some (open_.PatternMinus n ∷ os)
    opened = rw opens refl

    last : n + length (part.PatternMinus p ∷ part.Operand ∷ []) - 1 ≡ suc n
    last = omega arith

pub reads : (root : Option ℕ) {x : Nonterminal} {n : ℕ} {ps : List Part} {t : Graded} (os : List Open) → Grades x n ps t → Free root n (n + length ps) os → Takes os x → PutsEdge root x n ps t os
reads root os (operand n) free takes = record { edge = []; runs = refl; whole = let e : n + length (part.Operand ∷ []) - 1 ≡ n = omega arith in ap tree.Operand e; closes = λ f h. tt }
reads root os (higher i n ps t small d) free takes =
    looser_than root (Any i) (Any (suc i)) n ps t os (λ f h. omega arith) (reads root os d free (λ f h. takes f (omega arith)))
reads root os (left i n ps t d) free takes =
    looser_than root (Any i) (LeftOnly i) n ps t os (λ f h. inl h) (reads root os d free (λ f h. takes f (within_left i f h)))
reads root os (right i n ps t d) free takes =
    looser_than root (Any i) (RightOnly i) n ps t os (λ f h. h) (reads root os d free (λ f h. takes f (within_right i f h)))
reads root os (neither i n ls rs l r p dl dr) free takes =
    let f : Fixity = record { level = i; direction = Neither } in
    binary root (Any i) (Any (suc i)) (Any (suc i)) n p f ls rs l r os
    (reads root os dl (free_before root n ls rs (part.Operator p f) os free) (λ g h. takes g (omega arith)))
    (reads root (open_.Operator (n + length ls) f l ∷ os) dr (free_behind root n ls rs (part.Operator p f) (open_.Operator (n + length ls) f l) os free) (λ g h. opens_below f g h))
    (keeps_between root n ls rs (part.Operator p f) os free) (takes f (omega arith)) (omega arith) (λ g h. (closes_above f g h, omega arith))
reads root os (left_left i n ls rs l r p dl dr) free takes =
    let f : Fixity = record { level = i; direction = Left } in
    binary root (LeftOnly i) (LeftOnly i) (Any (suc i)) n p f ls rs l r os
    (reads root os dl (free_before root n ls rs (part.Operator p f) os free) takes)
    (reads root (open_.Operator (n + length ls) f l ∷ os) dr (free_behind root n ls rs (part.Operator p f) (open_.Operator (n + length ls) f l) os free) (λ g h. opens_below f g h))
    (keeps_between root n ls rs (part.Operator p f) os free) (takes f (inr (refl, refl))) (inr (refl, refl)) (λ g h. (closes_left f g refl h, next_level i g h))
reads root os (left_any i n ls rs l r p dl dr) free takes =
    let f : Fixity = record { level = i; direction = Left } in
    binary root (LeftOnly i) (Any (suc i)) (Any (suc i)) n p f ls rs l r os
    (reads root os dl (free_before root n ls rs (part.Operator p f) os free) (λ g h. takes g (inl h)))
    (reads root (open_.Operator (n + length ls) f l ∷ os) dr (free_behind root n ls rs (part.Operator p f) (open_.Operator (n + length ls) f l) os free) (λ g h. opens_below f g h))
    (keeps_between root n ls rs (part.Operator p f) os free) (takes f (inr (refl, refl))) (omega arith) (λ g h. (closes_left f g refl h, next_level i g h))
reads root os (minus n ps t p d) free takes =
    negation root n p ps t os (takes reader.minus (inr (refl, refl)))
    (reads root (open_.Minus n ∷ os) d (free_minus root n (part.Minus p) ps (open_.Minus n) os free) (λ g h. opens_below reader.minus g h))
reads root os (pattern_minus n p) free takes = pattern_negation root n p os (takes reader.minus (inr (refl, refl)))
reads root os (any_right i n ls rs l r p dl dr) free takes =
    let f : Fixity = record { level = i; direction = Right } in
    binary root (RightOnly i) (Any (suc i)) (Any (suc i)) n p f ls rs l r os
    (reads root os dl (free_before root n ls rs (part.Operator p f) os free) (λ g h. takes g (inl h)))
    (reads root (open_.Operator (n + length ls) f l ∷ os) dr (free_behind root n ls rs (part.Operator p f) (open_.Operator (n + length ls) f l) os free) (λ g h. opens_below f g h))
    (keeps_between root n ls rs (part.Operator p f) os free) (takes f (inr (refl, refl))) (omega arith) (λ g h. (closes_above f g h, omega arith))
reads root os (right_right i n ls rs l r p dl dr) free takes =
    let f : Fixity = record { level = i; direction = Right } in
    binary root (RightOnly i) (Any (suc i)) (RightOnly i) n p f ls rs l r os
    (reads root os dl (free_before root n ls rs (part.Operator p f) os free) (λ g h. takes g (inl h)))
    (reads root (open_.Operator (n + length ls) f l ∷ os) dr (free_behind root n ls rs (part.Operator p f) (open_.Operator (n + length ls) f l) os free) (λ g h. opens_right f g refl h))
    (keeps_between root n ls rs (part.Operator p f) os free) (takes f (inr (refl, refl))) (omega arith) (λ g h. (closes_above f g h, h))

free_at : (r n m : ℕ) (os : List Open) → (r < n) → nothing_open os ≡ false → Free (Some r) n m os
free_at r n m os h e k same = let is : r ≡ k = cc in inr (omega arith, e)

free_until : (r n m : ℕ) → m ≤ r → Free (Some r) n m []
free_until r n m h k same = let is : r ≡ k = cc in inl (omega arith)

-- an operator at the root that is demanded
rooted : (r : ℕ) (x y z : Nonterminal) (n : ℕ) (p : _) (f : Fixity) (ls rs : List Part) (l t : Graded) → n + length ls ≡ r
    → (Free (Some r) n (n + length ls) [] → PutsEdge (Some r) y n ls l [])
    → (Free (Some r) (suc (n + length ls)) (suc (n + length ls) + length rs) (open_.Operator (n + length ls) f l ∷ [])
    → PutsEdge (Some r) z (suc (n + length ls)) rs t (open_.Operator (n + length ls) f l ∷ []))
    → Looser y f → ((g : Fixity) → Looser x g → (turn_between f g ≡ Closes) × Looser z g)
    → PutsEdge (Some r) x n (ls ++ (part.Operator p f ∷ rs)) (tree.Binary (n + length ls) l t) []
rooted r x y z n p f ls rs l t here before behind looser down =
    binary (Some r) x y z n p f ls rs l t []
    (before (free_until r n (n + length ls) (omega arith)))
    (behind (free_at r (suc (n + length ls)) (suc (n + length ls) + length rs) (open_.Operator (n + length ls) f l ∷ []) (omega arith) refl))
    keeps refl looser down
  where
    le : r ≤ n + length ls
    le = omega arith

    keeps : keeps_root (Some r) (n + length ls) true ≡ true
    keeps = rw (le-ltb (n + length ls) r le, eq-eqb (n + length ls) r here) refl

pub reads_rooted : (r : ℕ) {x : Nonterminal} {n : ℕ} {ps : List Part} {t : Graded} (l u : Graded) → Grades x n ps t → t ≡ tree.Binary r l u → PutsEdge (Some r) x n ps t []
reads_rooted r l u (operand n) e = absurd (cc)
reads_rooted r l u (higher i n ps t small d) e =
    looser_than (Some r) (Any i) (Any (suc i)) n ps t [] (λ f h. omega arith) (reads_rooted r l u d e)
reads_rooted r l u (left i n ps t d) e =
    looser_than (Some r) (Any i) (LeftOnly i) n ps t [] (λ f h. inl h) (reads_rooted r l u d e)
reads_rooted r l u (right i n ps t d) e =
    looser_than (Some r) (Any i) (RightOnly i) n ps t [] (λ f h. h) (reads_rooted r l u d e)
reads_rooted r l u (neither i n ls rs a b p dl dr) e =
    let f : Fixity = record { level = i; direction = Neither } in
    rooted r (Any i) (Any (suc i)) (Any (suc i)) n p f ls rs a b (cc)
    (λ free. reads (Some r) [] dl free (λ g h. refl)) (λ free. reads (Some r) (open_.Operator (n + length ls) f a ∷ []) dr free (λ g h. opens_below f g h))
    (omega arith) (λ g h. (closes_above f g h, omega arith))
reads_rooted r l u (left_left i n ls rs a b p dl dr) e =
    let f : Fixity = record { level = i; direction = Left } in
    rooted r (LeftOnly i) (LeftOnly i) (Any (suc i)) n p f ls rs a b (cc)
    (λ free. reads (Some r) [] dl free (λ g h. refl)) (λ free. reads (Some r) (open_.Operator (n + length ls) f a ∷ []) dr free (λ g h. opens_below f g h))
    (inr (refl, refl)) (λ g h. (closes_left f g refl h, next_level i g h))
reads_rooted r l u (left_any i n ls rs a b p dl dr) e =
    let f : Fixity = record { level = i; direction = Left } in
    rooted r (LeftOnly i) (Any (suc i)) (Any (suc i)) n p f ls rs a b (cc)
    (λ free. reads (Some r) [] dl free (λ g h. refl)) (λ free. reads (Some r) (open_.Operator (n + length ls) f a ∷ []) dr free (λ g h. opens_below f g h))
    (omega arith) (λ g h. (closes_left f g refl h, next_level i g h))
reads_rooted r l u (minus n ps t p d) e = absurd (cc)
reads_rooted r l u (pattern_minus n p) e = absurd (cc)
reads_rooted r l u (any_right i n ls rs a b p dl dr) e =
    let f : Fixity = record { level = i; direction = Right } in
    rooted r (RightOnly i) (Any (suc i)) (Any (suc i)) n p f ls rs a b (cc)
    (λ free. reads (Some r) [] dl free (λ g h. refl)) (λ free. reads (Some r) (open_.Operator (n + length ls) f a ∷ []) dr free (λ g h. opens_below f g h))
    (omega arith) (λ g h. (closes_above f g h, omega arith))
reads_rooted r l u (right_right i n ls rs a b p dl dr) e =
    let f : Fixity = record { level = i; direction = Right } in
    rooted r (RightOnly i) (Any (suc i)) (RightOnly i) n p f ls rs a b (cc)
    (λ free. reads (Some r) [] dl free (λ g h. refl)) (λ free. reads (Some r) (open_.Operator (n + length ls) f a ∷ []) dr free (λ g h. opens_right f g refl h))
    (omega arith) (λ g h. (closes_above f g h, h))

-- the reader takes all the parts, and what then stands on the stack closes to the tree
abbrev pub Finishes : Option ℕ → List Part → Graded → Type 0
Finishes root ps t = (os : List Open) × (run root 0 ps [] ≡ Some os) × (close_all os (tree.Operand (length ps - 1)) ≡ t)

finishes : (root : Option ℕ) (x : Nonterminal) (ps : List Part) (t : Graded) → PutsEdge root x 0 ps t [] → Finishes root ps t
finishes root x ps t r =
    let e : 0 + length ps - 1 ≡ length ps - 1 = omega arith in
    (r.edge, r.runs ∙ ap Some (append-nil r.edge), ap (λ i. close_all r.edge (tree.Operand i)) (sym e) ∙ r.whole)

pub complete : (root : Option ℕ) (ps : List Part) (t : Graded) → Grades (Any 0) 0 ps t → HasRoot root t → Finishes root ps t
complete None ps t d h = finishes None (Any 0) ps t (reads None [] d (λ r e. absurd (cc)) (λ f g. refl))
complete (Some r) ps t d h = finishes (Some r) (Any 0) ps t (reads_rooted r h.0 h.1 d h.2)

pub finishes_once : (root : Option ℕ) (ps : List Part) (t u : Graded) → Finishes root ps t → Finishes root ps u → t ≡ u
finishes_once root ps t u a b =
    let same : a.0 ≡ b.0 = cc in
    sym a.2 ∙ ap (λ os. close_all os (tree.Operand (length ps - 1))) same ∙ b.2
