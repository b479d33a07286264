-- An expression with other items in the places of its own: where they are names that are respelled, it has
-- the same form and height.
use Rattle.std.proofs.Common.{◌≡◌, ℕ, ◌+◌, suc, Bool, true, false, ◌&&◌, nat_eq, nat_lt, if◌then◌else◌, List, [], ◌∷◌, ◌++◌, length, map, refl, sym, ap, ap₂, ◌∙◌, subst, true≢false}
use Rattle.std.specs.List.{list_all, flat_map, AllByRecursion as Each}
use Rattle.std.specs.Cmp.Lexicographic.{pointwise}
use Rattle.hr_base.specs.declared.lexeme.Class.{Class}
use Rattle.hr_base.specs.declared.lexeme.Item.{Item}
use Rattle.hr_plain_tree.specs.declared.tree.Exp.{Exp}
use Rattle.hr_plain_tree.specs.declared.tree.Exp.TheVariants.{Variable, Integer, Group, Apply}
use Rattle.hr_plain_tree.specs.Yields.{greatest, height_of, yield_of}
use Rattle.hr_plain_tree.proofs.Trees.{yield_variable, yield_integer, yield_group, yield_apply}
use Rattle.hr_plain.specs.Scoping.{is_named, is_variable, is_variable_class}
use Rattle.hr_plain.specs.Form.{Shape, is_ascii_text, is_integer, is_integer_class, is_mark, is_plain_variable, is_reserved_class, shape_of}
use Rattle.hr_plain.proofs.Turned.{Turns, EachTurns, text_of_unnamed, variable_stays}
use Rattle.hr_plain.proofs.Nodes.{by_parts, shape_variable, shape_integer, shape_group, shape_apply, height_variable, height_integer, height_group, height_apply}

pub both_left : (a b : Bool) → (a && b) ≡ true → a ≡ true
both_left true b e = refl
both_left false b e = e

pub both_right : (a b : Bool) → (a && b) ≡ true → b ≡ true
both_right true b e = e
both_right false b e = absurd (true≢false (sym e))

pub both : (a b : Bool) → a ≡ true → b ≡ true → (a && b) ≡ true
both a b e f = ap₂ (λ x y. x && y) e f

pub record Kept (new old : List ℕ) (x y : Exp) : Type 0 where
  pub height : height_of y ≡ height_of x
  pub atom : (shape_of y).is_atom ≡ (shape_of x).is_atom
  pub form : is_ascii_text new ≡ true → (shape_of x).is_form ≡ true → (shape_of y).is_form ≡ true

pub record Refilled (new old : List ℕ) (x : Exp) (items : List Item) : Type 0 where
  pub exp : Exp
  pub yields : yield_of exp ≡ items
  pub kept : Kept new old x exp

pub record RefilledEach (new old : List ℕ) (xs : List Exp) (items : List Item) : Type 0 where
  pub exps : List Exp
  pub yields : flat_map yield_of exps ≡ items
  pub heights : map height_of exps ≡ map height_of xs
  pub long : length (map shape_of exps) ≡ length (map shape_of xs)
  pub form : is_ascii_text new ≡ true → list_all (λ atom. atom.is_form && atom.is_atom) (map shape_of xs) ≡ true
      → list_all (λ atom. atom.is_form && atom.is_atom) (map shape_of exps) ≡ true

pub record Only (new old : List ℕ) (sought : Bool) (x : Item) (items : List Item) : Type 0 where
  pub y : Item
  pub is : items ≡ y ∷ []
  pub turns : Turns new old sought x y

pub record Halves (new old : List ℕ) (sought : Bool) (xs zs items : List Item) : Type 0 where
  pub front : List Item
  pub back : List Item
  pub is : items ≡ front ++ back
  pub first : EachTurns new old sought xs front
  pub second : EachTurns new old sought zs back

reserved_by : (class : Class) → is_reserved_class class ≡ true → is_variable_class class ≡ false
reserved_by Class.VarId e = absurd (true≢false (sym e))
reserved_by _ e = refl

mark_unnamed : (old : List ℕ) (x : Item) (c : ℕ) → is_mark c x ≡ true → is_named old x ≡ false
unfolding is_named
mark_unnamed old x c e =
    ap (λ b. b && pointwise nat_eq x.lexeme.text old) (reserved_by x.lexeme.class (both_left (is_reserved_class x.lexeme.class) (pointwise nat_eq x.lexeme.text (c ∷ [])) e))

module _ (new old : List ℕ) where
  ascii_by : (b : Bool) (text : List ℕ) → is_ascii_text new ≡ true → is_ascii_text text ≡ true → is_ascii_text (if b then new else text) ≡ true
  ascii_by true text n t = n
  ascii_by false text n t = t

  pub plain_turned : (sought : Bool) (x y : Item) → Turns new old sought x y → is_ascii_text new ≡ true → is_plain_variable x ≡ true → is_plain_variable y ≡ true
  plain_turned sought x y r n p =
      both (is_variable y) (is_ascii_text y.lexeme.text) (variable_stays new old sought x y r ∙ both_left (is_variable x) (is_ascii_text x.lexeme.text) p)
      (ap is_ascii_text r.text ∙ ascii_by (sought && is_named old x) x.lexeme.text n (both_right (is_variable x) (is_ascii_text x.lexeme.text) p))

  pub integer_turned : (sought : Bool) (x y : Item) → Turns new old sought x y → is_integer x ≡ true → is_integer y ≡ true
  integer_turned sought x y r e = ap is_integer_class r.class ∙ e

  pub mark_turned : (sought : Bool) (x y : Item) (c : ℕ) → Turns new old sought x y → is_mark c x ≡ true → is_mark c y ≡ true
  mark_turned sought x y c r e =
      ap₂ (λ (k : Class) (t : List ℕ). is_mark c (record { trivia = []; lexeme = record { class = k; text = t } }))
      r.class (text_of_unnamed new old sought x y r (mark_unnamed old x c e)) ∙ e

  only_one : (sought : Bool) (x : Item) (items : List Item) → EachTurns new old sought (x ∷ []) items → Only new old sought x items
  only_one sought x [] r = absurd r
  only_one sought x (y ∷ []) r = record { y = y; is = refl; turns = r.0 }
  only_one sought x (y ∷ z ∷ items) r = absurd r.1

  pub halved : (sought : Bool) (xs zs items : List Item) → EachTurns new old sought (xs ++ zs) items → Halves new old sought xs zs items
  halved sought [] zs items r = record { front = []; back = items; is = refl; first = tt; second = r }
  halved sought (x ∷ xs) zs [] r = absurd r
  halved sought (x ∷ xs) zs (y ∷ items) r =
      let h = halved sought xs zs items r.1 in
      record { front = y ∷ h.front; back = h.back; is = ap (λ l. y ∷ l) h.is; first = (r.0, h.first); second = h.second }

  abbrev pub Refills : Exp → Type 0
  Refills x = (sought : Bool) (items : List Item) → EachTurns new old sought (yield_of x) items → Refilled new old x items

  refills_variable : (x : Item) → Refills (Variable x)
  refills_variable x sought items r =
      let o = only_one sought x items (subst (λ l. EachTurns new old sought l items) (yield_variable x) r) in
      record {
        exp = Variable o.y;
        yields = yield_variable o.y ∙ sym o.is;
        kept = record {
          height = height_variable o.y ∙ sym (height_variable x);
          atom = ap (λ s. s.is_atom) (shape_variable o.y) ∙ sym (ap (λ s. s.is_atom) (shape_variable x));
          form = λ n f. ap (λ s. s.is_form) (shape_variable o.y) ∙ plain_turned sought x o.y o.turns n (sym (ap (λ s. s.is_form) (shape_variable x)) ∙ f);
        };
      }

  refills_integer : (x : Item) → Refills (Integer x)
  refills_integer x sought items r =
      let o = only_one sought x items (subst (λ l. EachTurns new old sought l items) (yield_integer x) r) in
      record {
        exp = Integer o.y;
        yields = yield_integer o.y ∙ sym o.is;
        kept = record {
          height = height_integer o.y ∙ sym (height_integer x);
          atom = ap (λ s. s.is_atom) (shape_integer o.y) ∙ sym (ap (λ s. s.is_atom) (shape_integer x));
          form = λ n f. ap (λ s. s.is_form) (shape_integer o.y) ∙ integer_turned sought x o.y o.turns (sym (ap (λ s. s.is_form) (shape_integer x)) ∙ f);
        };
      }

  group_kept : (sought : Bool) (left right y z : Item) (inner exp : Exp) → Turns new old sought left y → Turns new old sought right z → Kept new old inner exp
      → is_ascii_text new ≡ true → (shape_of (Group left inner right)).is_form ≡ true → (shape_of (Group y exp z)).is_form ≡ true
  group_kept sought left right y z inner exp l r k n f =
      let whole : ((is_mark 40 left && (shape_of inner).is_form) && is_mark 41 right) ≡ true = sym (ap (λ s. s.is_form) (shape_group left inner right)) ∙ f in
      let front : (is_mark 40 left && (shape_of inner).is_form) ≡ true = both_left (is_mark 40 left && (shape_of inner).is_form) (is_mark 41 right) whole in
      ap (λ s. s.is_form) (shape_group y exp z)
      ∙ both (is_mark 40 y && (shape_of exp).is_form) (is_mark 41 z)
      (both (is_mark 40 y) (shape_of exp).is_form
      (mark_turned sought left y 40 l (both_left (is_mark 40 left) (shape_of inner).is_form front))
      (k.form n (both_right (is_mark 40 left) (shape_of inner).is_form front)))
      (mark_turned sought right z 41 r (both_right (is_mark 40 left && (shape_of inner).is_form) (is_mark 41 right) whole))

  group_refilled : (sought : Bool) (left right : Item) (inner : Exp) (items : List Item) → Refills inner
      → EachTurns new old sought (left ∷ (yield_of inner ++ right ∷ [])) items → Refilled new old (Group left inner right) items
  group_refilled sought left right inner [] p r = absurd r
  group_refilled sought left right inner (y ∷ items) p r =
      let h = halved sought (yield_of inner) (right ∷ []) items r.1 in
      let o = only_one sought right h.back h.second in
      let e = p sought h.front h.first in
      record {
        exp = Group y e.exp o.y;
        yields = yield_group y e.exp o.y ∙ ap (λ l. y ∷ l) (ap₂ (λ (a b : List Item). a ++ b) e.yields (sym o.is) ∙ sym h.is);
        kept = record {
          height = height_group y e.exp o.y ∙ ap (λ k. k + 1) e.kept.height ∙ sym (height_group left inner right);
          atom = ap (λ s. s.is_atom) (shape_group y e.exp o.y) ∙ sym (ap (λ s. s.is_atom) (shape_group left inner right));
          form = group_kept sought left right y o.y inner e.exp r.0 o.turns e.kept;
        };
      }

  refills_group : (left : Item) (inner : Exp) (right : Item) → Refills inner → Refills (Group left inner right)
  refills_group left inner right p sought items r =
      group_refilled sought left right inner items p (subst (λ l. EachTurns new old sought l items) (yield_group left inner right) r)

  atom_kept : (x y : Exp) (xs ys : List Exp) → Kept new old x y
      → (is_ascii_text new ≡ true → list_all (λ atom. atom.is_form && atom.is_atom) (map shape_of xs) ≡ true → list_all (λ atom. atom.is_form && atom.is_atom) (map shape_of ys) ≡ true)
      → is_ascii_text new ≡ true
      → list_all (λ atom. atom.is_form && atom.is_atom) (map shape_of (x ∷ xs)) ≡ true → list_all (λ atom. atom.is_form && atom.is_atom) (map shape_of (y ∷ ys)) ≡ true
  atom_kept x y xs ys k more n f =
      let all : Shape → Bool = λ atom. atom.is_form && atom.is_atom in
      let here : ((shape_of x).is_form && (shape_of x).is_atom) ≡ true = both_left (all (shape_of x)) (list_all all (map shape_of xs)) f in
      both (all (shape_of y)) (list_all all (map shape_of ys))
      (both (shape_of y).is_form (shape_of y).is_atom (k.form n (both_left (shape_of x).is_form (shape_of x).is_atom here)) (k.atom ∙ both_right (shape_of x).is_form (shape_of x).is_atom here))
      (more n (both_right (all (shape_of x)) (list_all all (map shape_of xs)) f))

  atoms_refilled : (xs : List Exp) → Each Refills xs → (sought : Bool) (items : List Item) → EachTurns new old sought (flat_map yield_of xs) items → RefilledEach new old xs items
  atoms_refilled [] p sought [] r = record { exps = []; yields = refl; heights = refl; long = refl; form = λ n f. f }
  atoms_refilled [] p sought (y ∷ items) r = absurd r
  atoms_refilled (x ∷ xs) p sought items r =
      let h = halved sought (yield_of x) (flat_map yield_of xs) items r in
      let e = p.0 sought h.front h.first in
      let es = atoms_refilled xs p.1 sought h.back h.second in
      record {
        exps = e.exp ∷ es.exps;
        yields = ap₂ (λ (a b : List Item). a ++ b) e.yields es.yields ∙ sym h.is;
        heights = ap₂ (λ (a : ℕ) (b : List ℕ). a ∷ b) e.kept.height es.heights;
        long = ap (λ k. suc k) es.long;
        form = atom_kept x e.exp xs es.exps e.kept es.form;
      }

  apply_kept : (xs : List Exp) (items : List Item) → (es : RefilledEach new old xs items) → is_ascii_text new ≡ true
      → (shape_of (Apply xs)).is_form ≡ true → (shape_of (Apply es.exps)).is_form ≡ true
  apply_kept xs items es n f =
      let all : Shape → Bool = λ atom. atom.is_form && atom.is_atom in
      let whole : (nat_lt 1 (length (map shape_of xs)) && list_all all (map shape_of xs)) ≡ true = sym (ap (λ s. s.is_form) (shape_apply xs)) ∙ f in
      ap (λ s. s.is_form) (shape_apply es.exps)
      ∙ both (nat_lt 1 (length (map shape_of es.exps))) (list_all all (map shape_of es.exps))
      (ap (nat_lt 1) es.long ∙ both_left (nat_lt 1 (length (map shape_of xs))) (list_all all (map shape_of xs)) whole)
      (es.form n (both_right (nat_lt 1 (length (map shape_of xs))) (list_all all (map shape_of xs)) whole))

  refills_apply : (xs : List Exp) → Each Refills xs → Refills (Apply xs)
  refills_apply xs p sought items r =
      let es = atoms_refilled xs p sought items (subst (λ l. EachTurns new old sought l items) (yield_apply xs) r) in
      record {
        exp = Apply es.exps;
        yields = yield_apply es.exps ∙ es.yields;
        kept = record {
          height = height_apply es.exps ∙ ap (λ l. greatest l + 1) es.heights ∙ sym (height_apply xs);
          atom = ap (λ s. s.is_atom) (shape_apply es.exps) ∙ sym (ap (λ s. s.is_atom) (shape_apply xs));
          form = apply_kept xs items es;
        };
      }

  -- every expression can be refilled so
  pub refilled : (x : Exp) → Refills x
  refilled = by_parts Refills refills_variable refills_integer refills_group refills_apply
