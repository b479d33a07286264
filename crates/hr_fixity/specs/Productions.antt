-- The graded productions: the Haskell 98 Report's chapter 3 (expressions), section 3.17.1 (patterns) and
-- section 4.4.2 (fixities), with the tree of each derivation.
use Rattle.std.specs.Prelude.{ℕ, suc, ◌+◌, ◌<◌, List, [], ◌∷◌, ◌++◌, length}
use Rattle.hr_base.specs.declared.place.Place.{Place}
use Rattle.hr_fixity.specs.declared.sequence.Direction.TheVariants.{Left, Right, Neither}
use Rattle.hr_fixity.specs.declared.sequence.Part.{Part}
use Rattle.hr_fixity.specs.declared.sequence.Part.TheVariants as part
use Rattle.hr_fixity.specs.declared.tree.Graded.{Graded}
use Rattle.hr_fixity.specs.declared.tree.Graded.TheVariants as tree

-- exp^i and pat^i, lexp^i and lpat^i, rexp^i and rpat^i
pub data Nonterminal : Type 0 where
  Any : ℕ → Nonterminal
  LeftOnly : ℕ → Nonterminal
  RightOnly : ℕ → Nonterminal

-- Grades x n ps t: the nonterminal x derives the parts ps, numbered from n, with the tree t
pub data Grades : Nonterminal → ℕ → List Part → Graded → Type 0 where
  -- exp^10, of which a sequence shows only that it is an operand
  operand : (n : ℕ) → Grades (Any 10) n (part.Operand ∷ []) (tree.Operand n)
  -- exp^i → exp^(i+1)
  higher : (i n : ℕ) (ps : List Part) (t : Graded) → i < 10 → Grades (Any (suc i)) n ps t → Grades (Any i) n ps t
  -- exp^i → lexp^i | rexp^i
  left : (i n : ℕ) (ps : List Part) (t : Graded) → Grades (LeftOnly i) n ps t → Grades (Any i) n ps t
  right : (i n : ℕ) (ps : List Part) (t : Graded) → Grades (RightOnly i) n ps t → Grades (Any i) n ps t
  -- exp^i → exp^(i+1) qop^(n,i) exp^(i+1)
  neither : (i n : ℕ) (ls rs : List Part) (l r : Graded) (p : Place) → Grades (Any (suc i)) n ls l → Grades (Any (suc i)) (suc (n + length ls)) rs r
      → Grades (Any i) n (ls ++ part.Operator p (record { level = i; direction = Neither }) ∷ rs) (tree.Binary (n + length ls) l r)
  -- lexp^i → (lexp^i | exp^(i+1)) qop^(l,i) exp^(i+1)
  left_left : (i n : ℕ) (ls rs : List Part) (l r : Graded) (p : Place) → Grades (LeftOnly i) n ls l → Grades (Any (suc i)) (suc (n + length ls)) rs r
      → Grades (LeftOnly i) n (ls ++ part.Operator p (record { level = i; direction = Left }) ∷ rs) (tree.Binary (n + length ls) l r)
  left_any : (i n : ℕ) (ls rs : List Part) (l r : Graded) (p : Place) → Grades (Any (suc i)) n ls l → Grades (Any (suc i)) (suc (n + length ls)) rs r
      → Grades (LeftOnly i) n (ls ++ part.Operator p (record { level = i; direction = Left }) ∷ rs) (tree.Binary (n + length ls) l r)
  -- lexp^6 → - exp^7
  minus : (n : ℕ) (ps : List Part) (t : Graded) (p : Place) → Grades (Any 7) (suc n) ps t
      → Grades (LeftOnly 6) n (part.Minus p ∷ ps) (tree.Negated n t)
  -- lpat^6 → - integer
  pattern_minus : (n : ℕ) (p : Place) → Grades (LeftOnly 6) n (part.PatternMinus p ∷ part.Operand ∷ []) (tree.Negated n (tree.Operand (suc n)))
  -- rexp^i → exp^(i+1) qop^(r,i) (rexp^i | exp^(i+1))
  any_right : (i n : ℕ) (ls rs : List Part) (l r : Graded) (p : Place) → Grades (Any (suc i)) n ls l → Grades (Any (suc i)) (suc (n + length ls)) rs r
      → Grades (RightOnly i) n (ls ++ part.Operator p (record { level = i; direction = Right }) ∷ rs) (tree.Binary (n + length ls) l r)
  right_right : (i n : ℕ) (ls rs : List Part) (l r : Graded) (p : Place) → Grades (Any (suc i)) n ls l → Grades (RightOnly i) (suc (n + length ls)) rs r
      → Grades (RightOnly i) n (ls ++ part.Operator p (record { level = i; direction = Right }) ∷ rs) (tree.Binary (n + length ls) l r)
