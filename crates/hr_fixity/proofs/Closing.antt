-- Closing the innermost operators of a stack keeps what the productions derive.
use Rattle.std.proofs.Common.{◌≡◌, ℕ, suc, ◌+◌, ◌<◌, ◌≤◌, ◌⊎◌, inl, inr, List, [], ◌∷◌, ◌++◌, length, Option, Some, None, refl, sym, ◌∙◌, ap, subst, arith, append_assoc, length-append}
use Rattle.hr_fixity.specs.declared.sequence.Direction.TheVariants.{Left, Right}
use Rattle.hr_fixity.specs.declared.sequence.Fixity.{Fixity}
use Rattle.hr_fixity.specs.declared.sequence.Part.{Part}
use Rattle.hr_fixity.specs.declared.sequence.Part.TheVariants as part
use Rattle.hr_fixity.specs.declared.stack.Open.{Open}
use Rattle.hr_fixity.specs.declared.stack.Open.TheVariants as open_
use Rattle.hr_fixity.specs.declared.stack.Turn.{Turn}
use Rattle.hr_fixity.specs.declared.stack.Turn.TheVariants.{Closes, Opens, Clashes}
use Rattle.hr_fixity.specs.declared.tree.Graded.{Graded}
use Rattle.hr_fixity.specs.declared.tree.Graded.TheVariants as tree
use Rattle.hr_fixity.specs.Productions.{Any, LeftOnly, RightOnly, Grades}
use Rattle.hr_fixity.specs.Productions as g
use Rattle.hr_fixity.specs.Reader as reader
use Rattle.hr_fixity.specs.Reader.{turn_at, turn_of, turn_between, by_turn, close, close_all, with_left_operand, never_opens}
use Rattle.hr_fixity.proofs.Sound.{LeftOperand, RightOperand, Node, Fit, Spine, bottom, operator, negation, literal, joins, lower, node_left, node_right, node_any, right_operand, opens_cases}

-- the grade of an open operator
abbrev pub fixity_of : Open → Fixity
fixity_of (open_.Operator k f l) = f
fixity_of (open_.Minus k) = reader.minus
fixity_of (open_.PatternMinus k) = reader.minus

never_opens-opens : (u : Turn) → never_opens u ≡ Opens → ⊥
never_opens-opens Closes e = absurd (cc)
never_opens-opens Opens e = absurd (cc)
never_opens-opens Clashes e = absurd (cc)

never_opens-closes : (u : Turn) → never_opens u ≡ Closes → u ≡ Closes
never_opens-closes Closes e = refl
never_opens-closes Opens e = absurd (cc)
never_opens-closes Clashes e = absurd (cc)

turn_closes : (o : Open) (f : Fixity) → turn_of o f ≡ Closes → turn_between (fixity_of o) f ≡ Closes
turn_closes (open_.Operator k h l) f e = e
turn_closes (open_.Minus k) f e = e
turn_closes (open_.PatternMinus k) f e = never_opens-closes (turn_between reader.minus f) e

-- the tree of an operator stands where the stack opened for the operator
pub fit_node : (os : List Open) (f : Fixity) (n : ℕ) (ps : List Part) (t : Graded) → f.level ≤ 9 → turn_at os f ≡ Opens → Node f.direction f.level n ps t → Fit os n ps t
fit_node [] f n ps t small e node = lower 0 f.level n ps t (omega arith) (omega arith) (node_any f.direction f.level n ps t node)
fit_node (open_.Operator k h l ∷ os) f n ps t small e node = node_right h f n ps t small e node
fit_node (open_.Minus k ∷ os) f n ps t small e node = by (opens_cases reader.minus f e)
  where
    by : (6 < f.level) ⊎ ((f.level ≡ 6) × ((Left ≡ Right) × (f.direction ≡ Right))) → Grades (Any 7) n ps t
    by (inl lt) = lower 7 f.level n ps t (omega arith) (omega arith) (node_any f.direction f.level n ps t node)
    by (inr (same, dirs)) = let bad : Left ≡ Right = dirs.0 in absurd (cc)
fit_node (open_.PatternMinus k ∷ os) f n ps t small e node = absurd (never_opens-opens (turn_between reader.minus f) e)

-- an operand stands behind every open operator
pub fit_operand : {os : List Open} {ps : List Part} (n : ℕ) → Spine os ps → Fit os n (part.Operand ∷ []) (tree.Operand n)
fit_operand n bottom = lower 0 10 n (part.Operand ∷ []) (tree.Operand n) (omega arith) (omega arith) (g.operand n)
fit_operand n (operator os ps ls p f l s opens small fit) =
    right_operand f.direction f.level n (part.Operand ∷ []) (tree.Operand n) (lower (suc f.level) 10 n (part.Operand ∷ []) (tree.Operand n) (omega arith) (omega arith) (g.operand n))
fit_operand n (negation os ps p s opens) = lower 7 10 n (part.Operand ∷ []) (tree.Operand n) (omega arith) (omega arith) (g.operand n)
fit_operand n (literal os ps p s opens) = (refl, refl)

-- the innermost operator closed over its right operand, and what stays open
pub record InnermostClosed (o : Open) (os : List Open) (ps qs : List Part) (t : Graded) : Type 0 where
  pub front : List Part
  pub back : List Part
  pub spine : Spine os front
  pub same : front ++ back ≡ ps ++ qs
  pub node : Node (fixity_of o).direction (fixity_of o).level (length front) back (close o t)
  pub opens : turn_at os (fixity_of o) ≡ Opens
  pub small : (fixity_of o).level ≤ 9

abbrev pub Closing : List Open → List Part → Type 0
Closing [] ps = Unit {0}
Closing (o ∷ os) ps = (qs : List Part) (t : Graded) → Fit (o ∷ os) (length ps) qs t → InnermostClosed o os ps qs t

length-operator : (ps ls : List Part) (q : Part) → length (ps ++ (ls ++ (q ∷ []))) ≡ suc (length ps + length ls)
length-operator ps ls q = omega (arith, length-append ps (ls ++ (q ∷ [])), length-append ls (q ∷ []))

length-one : (ps : List Part) (q : Part) → length (ps ++ (q ∷ [])) ≡ suc (length ps)
length-one ps q = omega (arith, length-append ps (q ∷ []))

pub closing : {os : List Open} {ps : List Part} → Spine os ps → Closing os ps
closing bottom = tt
closing (operator os ps ls p f l s opens small fit) = λ qs t h. record {
  front = ps;
  back = ls ++ (part.Operator p f ∷ qs);
  spine = s;
  same = sym (append_assoc ps (ls ++ (part.Operator p f ∷ [])) qs ∙ ap (λ r. ps ++ r) (append_assoc ls (part.Operator p f ∷ []) qs));
  node = joins f.direction f.level (length ps) p ls qs l t fit
      (subst (λ n. RightOperand f.direction f.level n qs t) (length-operator ps ls (part.Operator p f)) h);
  opens = opens;
  small = small;
}
closing (negation os ps p s opens) = λ qs t h. record {
  front = ps;
  back = part.Minus p ∷ qs;
  spine = s;
  same = sym (append_assoc ps (part.Minus p ∷ []) qs);
  node = g.minus (length ps) qs t p (subst (λ n. Grades (Any 7) n qs t) (length-one ps (part.Minus p)) h);
  opens = opens;
  small = omega arith;
}
closing (literal os ps p s opens) = λ qs t h. record {
  front = ps;
  back = part.PatternMinus p ∷ qs;
  spine = s;
  same = sym (append_assoc ps (part.PatternMinus p ∷ []) qs);
  node =
      let e : tree.Operand (suc (length ps)) ≡ t = ap tree.Operand (sym (length-one ps (part.PatternMinus p))) ∙ sym h.1 in
      let one : Grades (LeftOnly 6) (length ps) (part.PatternMinus p ∷ part.Operand ∷ []) (tree.Negated (length ps) (tree.Operand (suc (length ps)))) = g.pattern_minus (length ps) p in
      let two : Grades (LeftOnly 6) (length ps) (part.PatternMinus p ∷ part.Operand ∷ []) (tree.Negated (length ps) t) = subst (λ u. Grades (LeftOnly 6) (length ps) (part.PatternMinus p ∷ part.Operand ∷ []) (tree.Negated (length ps) u)) e one in
      subst (λ rs. Grades (LeftOnly 6) (length ps) (part.PatternMinus p ∷ rs) (tree.Negated (length ps) t)) (sym h.0) two;
  opens = opens;
  small = omega arith;
}

-- the left operand of an operator, and the stack that the operator opens on
pub record LeftRead (ps qs : List Part) (f : Fixity) (os : List Open) (l : Graded) : Type 0 where
  pub front : List Part
  pub back : List Part
  pub spine : Spine os front
  pub same : front ++ back ≡ ps ++ qs
  pub fit : LeftOperand f.direction f.level (length front) back l
  pub opens : turn_at os f ≡ Opens

abbrev pub LeftSound : List Part → List Part → Fixity → Option (List Open × Graded) → Type 0
LeftSound ps qs f None = Unit {0}
LeftSound ps qs f (Some (os, l)) = LeftRead ps qs f os l

left_same : (ps qs as_ bs : List Part) (f : Fixity) (r : Option (List Open × Graded)) → as_ ++ bs ≡ ps ++ qs → LeftSound as_ bs f r → LeftSound ps qs f r
left_same ps qs as_ bs f None e h = tt
left_same ps qs as_ bs f (Some (os, l)) e h = record { front = h.front; back = h.back; spine = h.spine; same = h.same ∙ e; fit = h.fit; opens = h.opens }

pub left_sound : (os : List Open) (ps qs : List Part) (t : Graded) (f : Fixity) → Spine os ps → Fit os (length ps) qs t → LeftOperand f.direction f.level (length ps) qs t
    → LeftSound ps qs f (with_left_operand os t f)
left_sound [] ps qs t f s fit l = record { front = ps; back = qs; spine = s; same = refl; fit = l; opens = refl }
left_sound (o ∷ os) ps qs t f s fit l =
    let c : InnermostClosed o os ps qs t = closing s qs t fit in
    by (turn_of o f) refl (λ e. left_same ps qs c.front c.back f (with_left_operand os (close o t) f) c.same
    (left_sound os c.front c.back (close o t) f c.spine
    (fit_node os (fixity_of o) (length c.front) c.back (close o t) c.small c.opens c.node)
    (node_left (fixity_of o) f (length c.front) c.back (close o t) c.small (turn_closes o f e) c.node)))
  where
    by : (u : Turn) → turn_of o f ≡ u → (turn_of o f ≡ Closes → LeftSound ps qs f (with_left_operand os (close o t) f)) → LeftSound ps qs f (by_turn u (with_left_operand os (close o t) f) (Some (o ∷ os, t)) None)
    by Closes e next = next e
    by Opens e next = record { front = ps; back = qs; spine = s; same = refl; fit = l; opens = e }
    by Clashes e next = tt

empty_spine : {os : List Open} {ps : List Part} → Spine os ps → os ≡ [] → ps ≡ []
empty_spine bottom e = refl
empty_spine (operator os ps ls p f l s opens small fit) e = absurd (cc)
empty_spine (negation os ps p s opens) e = absurd (cc)
empty_spine (literal os ps p s opens) e = absurd (cc)

pub close_all_sound : (os : List Open) (ps qs : List Part) (t : Graded) → Spine os ps → Fit os (length ps) qs t → Grades (Any 0) 0 (ps ++ qs) (close_all os t)
close_all_sound [] ps qs t s fit =
    let e : ps ≡ [] = empty_spine s refl in
    let one : Grades (Any 0) (length {A = Part} []) qs t = subst (λ rs. Grades (Any 0) (length rs) qs t) e fit in
    subst (λ rs. Grades (Any 0) 0 (rs ++ qs) t) (sym e) one
close_all_sound (o ∷ os) ps qs t s fit =
    let c : InnermostClosed o os ps qs t = closing s qs t fit in
    subst (λ rs. Grades (Any 0) 0 rs (close_all os (close o t))) c.same
    (close_all_sound os c.front c.back (close o t) c.spine (fit_node os (fixity_of o) (length c.front) c.back (close o t) c.small c.opens c.node))
