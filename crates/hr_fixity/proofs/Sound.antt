-- What the reader puts on the stack closes to a tree that the productions derive.
use Rattle.std.proofs.Common.{◌≡◌, ℕ, zero, suc, ◌+◌, ◌-◌, ◌<◌, ◌≤◌, ◌⊎◌, inl, inr, Bool, List, [], ◌∷◌, ◌++◌, length, true, false, nat_lt, refl, sym, subst, arith}
use Rattle.std.proofs.lemmas.Bool.{ltb-true, ltb-false}
use Rattle.hr_base.specs.declared.place.Place.{Place}
use Rattle.hr_fixity.specs.declared.sequence.Direction.{Direction}
use Rattle.hr_fixity.specs.declared.sequence.Direction.TheVariants.{Left, Right, Neither}
use Rattle.hr_fixity.specs.declared.sequence.Fixity.{Fixity}
use Rattle.hr_fixity.specs.declared.sequence.Part.{Part}
use Rattle.hr_fixity.specs.declared.sequence.Part.TheVariants as part
use Rattle.hr_fixity.specs.declared.stack.Open.{Open}
use Rattle.hr_fixity.specs.declared.stack.Open.TheVariants as open_
use Rattle.hr_fixity.specs.declared.stack.Turn.TheVariants.{Closes, Opens}
use Rattle.hr_fixity.specs.declared.tree.Graded.{Graded}
use Rattle.hr_fixity.specs.declared.tree.Graded.TheVariants as tree
use Rattle.hr_fixity.specs.Productions.{Any, LeftOnly, RightOnly, Grades}
use Rattle.hr_fixity.specs.Productions as g
use Rattle.hr_fixity.specs.Reader as reader
use Rattle.hr_fixity.specs.Reader.{run, take_part, turn_at, turn_of, turn_between, turn_at_one_level, by_turn, close, close_all, with_left_operand, keeps_root, nothing_open, open_operator, open_minus, never_opens}

-- what may be an operand of an operator with this direction and level, and the tree that the operator makes
abbrev pub LeftOperand : Direction → ℕ → ℕ → List Part → Graded → Type 0
LeftOperand Left i n ps t = Grades (LeftOnly i) n ps t ⊎ Grades (Any (suc i)) n ps t
LeftOperand Right i n ps t = Grades (Any (suc i)) n ps t
LeftOperand Neither i n ps t = Grades (Any (suc i)) n ps t

abbrev pub RightOperand : Direction → ℕ → ℕ → List Part → Graded → Type 0
RightOperand Left i n ps t = Grades (Any (suc i)) n ps t
RightOperand Right i n ps t = Grades (RightOnly i) n ps t ⊎ Grades (Any (suc i)) n ps t
RightOperand Neither i n ps t = Grades (Any (suc i)) n ps t

abbrev pub Node : Direction → ℕ → ℕ → List Part → Graded → Type 0
Node Left i n ps t = Grades (LeftOnly i) n ps t
Node Right i n ps t = Grades (RightOnly i) n ps t
Node Neither i n ps t = Grades (Any i) n ps t

pub joins : (d : Direction) (i n : ℕ) (p : Place) (ls rs : List Part) (l r : Graded) → LeftOperand d i n ls l → RightOperand d i (suc (n + length ls)) rs r
    → Node d i n (ls ++ (part.Operator p (record { level = i; direction = d }) ∷ rs)) (tree.Binary (n + length ls) l r)
joins Left i n p ls rs l r (inl a) b = g.left_left i n ls rs l r p a b
joins Left i n p ls rs l r (inr a) b = g.left_any i n ls rs l r p a b
joins Right i n p ls rs l r a (inl b) = g.right_right i n ls rs l r p a b
joins Right i n p ls rs l r a (inr b) = g.any_right i n ls rs l r p a b
joins Neither i n p ls rs l r a b = g.neither i n ls rs l r p a b

lower_by : (k i j n : ℕ) (ps : List Part) (t : Graded) → j ≡ i + k → j ≤ 10 → Grades (Any j) n ps t → Grades (Any i) n ps t
lower_by zero i j n ps t e small d = let same : j ≡ i = omega arith in subst (λ m. Grades (Any m) n ps t) same d
lower_by (suc k) i j n ps t e small d =
    let e' : j ≡ suc i + k = omega arith in
    let low : i < 10 = omega arith in
    g.higher i n ps t low (lower_by k (suc i) j n ps t e' small d)

pub lower : (i j n : ℕ) (ps : List Part) (t : Graded) → i ≤ j → j ≤ 10 → Grades (Any j) n ps t → Grades (Any i) n ps t
lower i j n ps t le small d = let e : j ≡ i + (j - i) = omega arith in lower_by (j - i) i j n ps t e small d

pub node_any : (d : Direction) (i n : ℕ) (ps : List Part) (t : Graded) → Node d i n ps t → Grades (Any i) n ps t
node_any Left i n ps t h = g.left i n ps t h
node_any Right i n ps t h = g.right i n ps t h
node_any Neither i n ps t h = h

pub left_operand : (d : Direction) (i n : ℕ) (ps : List Part) (t : Graded) → Grades (Any (suc i)) n ps t → LeftOperand d i n ps t
left_operand Left i n ps t h = inr h
left_operand Right i n ps t h = h
left_operand Neither i n ps t h = h

pub right_operand : (d : Direction) (i n : ℕ) (ps : List Part) (t : Graded) → Grades (Any (suc i)) n ps t → RightOperand d i n ps t
right_operand Left i n ps t h = h
right_operand Right i n ps t h = inr h
right_operand Neither i n ps t h = h

both_left : (a b : Direction) → turn_at_one_level a b ≡ Closes → (a ≡ Left) × (b ≡ Left)
both_left Left Left e = (refl, refl)
both_left Left Right e = absurd (cc)
both_left Left Neither e = absurd (cc)
both_left Right Left e = absurd (cc)
both_left Right Right e = absurd (cc)
both_left Right Neither e = absurd (cc)
both_left Neither b e = absurd (cc)

both_right : (a b : Direction) → turn_at_one_level a b ≡ Opens → (a ≡ Right) × (b ≡ Right)
both_right Right Right e = (refl, refl)
both_right Right Left e = absurd (cc)
both_right Right Neither e = absurd (cc)
both_right Left Left e = absurd (cc)
both_right Left Right e = absurd (cc)
both_right Left Neither e = absurd (cc)
both_right Neither b e = absurd (cc)

pub closes_cases : (f h : Fixity) → turn_between f h ≡ Closes → (h.level < f.level) ⊎ ((h.level ≡ f.level) × ((f.direction ≡ Left) × (h.direction ≡ Left)))
closes_cases f h e = by (nat_lt h.level f.level) refl (nat_lt f.level h.level) refl
  where
    by : (a : Bool) → nat_lt h.level f.level ≡ a → (b : Bool) → nat_lt f.level h.level ≡ b → (h.level < f.level) ⊎ ((h.level ≡ f.level) × ((f.direction ≡ Left) × (h.direction ≡ Left)))
    by true ea b eb = inl (ltb-true h.level f.level ea)
    by false ea true eb = let bad : Opens ≡ Closes = rw (ea, eb) at e in absurd (cc)
    by false ea false eb =
        let le : f.level ≤ h.level = ltb-false h.level f.level ea in
        let ge : h.level ≤ f.level = ltb-false f.level h.level eb in
        inr (omega arith, both_left f.direction h.direction (rw (ea, eb) at e))

pub opens_cases : (f h : Fixity) → turn_between f h ≡ Opens → (f.level < h.level) ⊎ ((h.level ≡ f.level) × ((f.direction ≡ Right) × (h.direction ≡ Right)))
opens_cases f h e = by (nat_lt h.level f.level) refl (nat_lt f.level h.level) refl
  where
    by : (a : Bool) → nat_lt h.level f.level ≡ a → (b : Bool) → nat_lt f.level h.level ≡ b → (f.level < h.level) ⊎ ((h.level ≡ f.level) × ((f.direction ≡ Right) × (h.direction ≡ Right)))
    by true ea b eb = let bad : Closes ≡ Opens = rw ea at e in absurd (cc)
    by false ea true eb = inl (ltb-true f.level h.level eb)
    by false ea false eb =
        let le : f.level ≤ h.level = ltb-false h.level f.level ea in
        let ge : h.level ≤ f.level = ltb-false f.level h.level eb in
        inr (omega arith, both_right f.direction h.direction (rw (ea, eb) at e))

-- a tree of f as the left operand of h, which closes f
pub node_left : (f h : Fixity) (n : ℕ) (ps : List Part) (t : Graded) → f.level ≤ 9 → turn_between f h ≡ Closes → Node f.direction f.level n ps t → LeftOperand h.direction h.level n ps t
node_left f h n ps t small e node = by (closes_cases f h e)
  where
    by : (h.level < f.level) ⊎ ((h.level ≡ f.level) × ((f.direction ≡ Left) × (h.direction ≡ Left))) → LeftOperand h.direction h.level n ps t
    by (inl lt) = left_operand h.direction h.level n ps t (lower (suc h.level) f.level n ps t (omega arith) (omega arith) (node_any f.direction f.level n ps t node))
    by (inr (same, dirs)) =
        let one : Node Left f.level n ps t = subst (λ d. Node d f.level n ps t) dirs.0 node in
        let two : Node Left h.level n ps t = subst (λ i. Node Left i n ps t) (sym same) one in
        let three : LeftOperand Left h.level n ps t = inl two in
        subst (λ d. LeftOperand d h.level n ps t) (sym dirs.1) three

-- a tree of h as the right operand of f, for which h opens
pub node_right : (f h : Fixity) (n : ℕ) (ps : List Part) (t : Graded) → h.level ≤ 9 → turn_between f h ≡ Opens → Node h.direction h.level n ps t → RightOperand f.direction f.level n ps t
node_right f h n ps t small e node = by (opens_cases f h e)
  where
    by : (f.level < h.level) ⊎ ((h.level ≡ f.level) × ((f.direction ≡ Right) × (h.direction ≡ Right))) → RightOperand f.direction f.level n ps t
    by (inl lt) = right_operand f.direction f.level n ps t (lower (suc f.level) h.level n ps t (omega arith) (omega arith) (node_any h.direction h.level n ps t node))
    by (inr (same, dirs)) =
        let one : Node Right h.level n ps t = subst (λ d. Node d h.level n ps t) dirs.1 node in
        let two : Node Right f.level n ps t = subst (λ i. Node Right i n ps t) same one in
        let three : RightOperand Right f.level n ps t = inl two in
        subst (λ d. RightOperand d f.level n ps t) (sym dirs.0) three

-- what may be the right operand of the innermost open operator
abbrev pub Fit : List Open → ℕ → List Part → Graded → Type 0
Fit [] n ps t = Grades (Any 0) n ps t
Fit (open_.Operator k f l ∷ os) n ps t = RightOperand f.direction f.level n ps t
Fit (open_.Minus k ∷ os) n ps t = Grades (Any 7) n ps t
Fit (open_.PatternMinus k ∷ os) n ps t = (ps ≡ part.Operand ∷ []) × (t ≡ tree.Operand n)

-- the stack is the open right edge of a tree over the parts
pub data Spine : List Open → List Part → Type 0 where
  bottom : Spine [] []
  operator : (os : List Open) (ps ls : List Part) (p : Place) (f : Fixity) (l : Graded) → Spine os ps → turn_at os f ≡ Opens → f.level ≤ 9 → LeftOperand f.direction f.level (length ps) ls l
      → Spine (open_.Operator (length ps + length ls) f l ∷ os) (ps ++ (ls ++ (part.Operator p f ∷ [])))
  negation : (os : List Open) (ps : List Part) (p : Place) → Spine os ps → turn_at os reader.minus ≡ Opens → Spine (open_.Minus (length ps) ∷ os) (ps ++ (part.Minus p ∷ []))
  literal : (os : List Open) (ps : List Part) (p : Place) → Spine os ps → turn_at os reader.minus ≡ Opens → Spine (open_.PatternMinus (length ps) ∷ os) (ps ++ (part.PatternMinus p ∷ []))
