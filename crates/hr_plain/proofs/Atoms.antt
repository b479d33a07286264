-- An expression read item by item: what is read is of the form and yields the items, and what is of the form
-- is read.
use Rattle.std.proofs.Common.{◌≡◌, ℕ, ◌+◌, ◌≤◌, Bool, true, false, ◌&&◌, nat_eq, nat_lt, max, if◌then◌else◌, Option, Some, None, List, [], ◌∷◌, ◌++◌, length, map, refl, sym, ap, subst, ◌∙◌, suc, true≢false, append_assoc, append-nil, length-append, arith}
use Rattle.std.specs.List.{AllByRecursion, flat_map, list_all}
use Rattle.std.specs.Option.{option_and_then, option_map}
use Rattle.std.specs.Cmp.Lexicographic.{pointwise}
use Rattle.std.proofs.lemmas.Bool.{eqb-true}
use Rattle.std.proofs.lemmas.List.{length-map}
use Rattle.std.proofs.lemmas.List.Folds.{list_all-map}
use Rattle.hr_base.specs.declared.lexeme.Class.{Class}
use Rattle.hr_base.specs.declared.lexeme.Item.{Item}
use Rattle.hr_plain_tree.specs.declared.tree.Exp.{Exp}
use Rattle.hr_plain_tree.specs.declared.tree.Exp.TheVariants.{Variable, Integer, Group, Apply}
use Rattle.hr_plain_tree.specs.Yields.{greatest, height_of, yield_of}
use Rattle.hr_plain_tree.proofs.Trees.{yield_variable, yield_integer, yield_group, yield_apply}
use Rattle.hr_plain.specs.declared.expressions.Body.{Body}
use Rattle.hr_plain.specs.declared.expressions.Outer.{Outer}
use Rattle.hr_plain.specs.Form.{shape_of, greatest_height, is_integer, is_integer_class, is_mark, is_plain_variable, is_reserved_class}
use Rattle.hr_plain.specs.Scoping.{is_variable_class}
use Rattle.hr_plain.specs.Reading.{joined, split_last, with_atom, opened, grouped, closed_in, group_closed, body_with, joined_outside, body_end}
use Rattle.hr_plain.proofs.Basics.{and_false, both_left, both_right, both, if_true, if_false, all_more, all_but_last, all_last, flat_more, split_more, split_is}
use Rattle.hr_plain.proofs.Nodes.{by_parts, shape_variable, shape_integer, shape_group, shape_apply, height_group, height_apply}

-- atoms of the form

abbrev pub is_atom : Exp → Bool
is_atom exp = (shape_of exp).is_form && (shape_of exp).is_atom

abbrev pub are_atoms : List Exp → Bool
are_atoms atoms = list_all is_atom atoms

variable_atom : (item : Item) → is_plain_variable item ≡ true → is_atom (Variable item) ≡ true
variable_atom item h = ap (λ s. s.is_form && s.is_atom) (shape_variable item) ∙ both h refl

integer_atom : (item : Item) → is_integer item ≡ true → is_atom (Integer item) ≡ true
integer_atom item h = ap (λ s. s.is_form && s.is_atom) (shape_integer item) ∙ both h refl

group_atom : (left : Item) (inner : Exp) (right : Item) → is_mark 40 left ≡ true → (shape_of inner).is_form ≡ true → is_mark 41 right ≡ true
    → is_atom (Group left inner right) ≡ true
group_atom left inner right l i r = ap (λ s. s.is_form && s.is_atom) (shape_group left inner right) ∙ both (both (both l i) r) refl

form_of_atom : (exp : Exp) → is_atom exp ≡ true → (shape_of exp).is_form ≡ true
form_of_atom exp h = both_left (shape_of exp).is_form (shape_of exp).is_atom h

many : (n : ℕ) → nat_lt 1 (suc (suc n)) ≡ true
many n = grind arith

-- the expression of atoms is of the form, and yields what they do
pub joined_form : (atoms : List Exp) (exp : Exp) → are_atoms atoms ≡ true → joined atoms ≡ Some exp → (shape_of exp).is_form ≡ true
joined_form [] exp h e = absurd (cc)
joined_form (atom ∷ []) exp h e =
    let same : atom ≡ exp = cc in
    ap (λ x. (shape_of x).is_form) (sym same) ∙ form_of_atom atom (both_left (is_atom atom) true h)
joined_form (atom ∷ (other ∷ atoms)) exp h e =
    let same : Apply (atom ∷ (other ∷ atoms)) ≡ exp = cc in
    ap (λ x. (shape_of x).is_form) (sym same) ∙ ap (λ s. s.is_form) (shape_apply (atom ∷ (other ∷ atoms)))
    ∙ both (many (length (map shape_of atoms))) (list_all-map (λ s. s.is_form && s.is_atom) shape_of (atom ∷ (other ∷ atoms)) ∙ h)

pub joined_yield : (atoms : List Exp) (exp : Exp) → joined atoms ≡ Some exp → yield_of exp ≡ flat_map yield_of atoms
joined_yield [] exp e = absurd (cc)
joined_yield (atom ∷ []) exp e =
    let same : atom ≡ exp = cc in
    ap yield_of (sym same) ∙ sym (append-nil (yield_of atom))
joined_yield (atom ∷ (other ∷ atoms)) exp e =
    let same : Apply (atom ∷ (other ∷ atoms)) ≡ exp = cc in
    ap yield_of (sym same) ∙ yield_apply (atom ∷ (other ∷ atoms))

-- sound

abbrev pub is_outer : Outer → Bool
is_outer outer = are_atoms outer.atoms && is_mark 40 outer.left

pub record IsBody (body : Body) : Type 0 where
  pub atoms : are_atoms body.atoms ≡ true
  pub outer : list_all is_outer body.outer ≡ true

abbrev pub outer_items : Outer → List Item
outer_items outer = flat_map yield_of outer.atoms ++ (outer.left ∷ [])

-- what has been read
abbrev pub body_items : Body → List Item
body_items body = flat_map outer_items body.outer ++ flat_map yield_of body.atoms

pub record Longer (body longer : Body) (item : Item) : Type 0 where
  pub form : IsBody longer
  pub items : body_items longer ≡ body_items body ++ (item ∷ [])

atom_read : (body : Body) (atom : Exp) (item : Item) → IsBody body → is_atom atom ≡ true → yield_of atom ≡ item ∷ [] → Longer body (with_atom body atom) item
atom_read body atom item is h y = record {
  form = record { atoms = all_more is_atom body.atoms atom is.atoms h; outer = is.outer };
  items = ap (λ l. flat_map outer_items body.outer ++ l) (flat_more yield_of body.atoms atom ∙ ap (λ l. flat_map yield_of body.atoms ++ l) y)
      ∙ sym (append_assoc (flat_map outer_items body.outer) (flat_map yield_of body.atoms) (item ∷ []));
}

open_read : (body longer : Body) (left : Item) (room : Bool) → IsBody body → is_mark 40 left ≡ true
    → (if room then Some (record { atoms = []; outer = body.outer ++ (record { atoms = body.atoms; left = left } ∷ []) }) else None) ≡ Some longer
    → Longer body longer left
open_read body longer left false is h e = absurd (cc)
open_read body longer left true is h e =
    let last : Outer = record { atoms = body.atoms; left = left } in
    let made : Body = record { atoms = []; outer = body.outer ++ last ∷ [] } in
    let same : made ≡ longer = cc in
    subst (λ b. Longer body b left) same (record {
      form = record { atoms = refl; outer = all_more is_outer body.outer last is.outer (both is.atoms h) };
      items = append-nil (flat_map outer_items (body.outer ++ last ∷ [])) ∙ flat_more outer_items body.outer last
          ∙ sym (append_assoc (flat_map outer_items body.outer) (flat_map yield_of body.atoms) (left ∷ []));
    })

regroup : (a f : List Item) (l : Item) (i : List Item) (x : Item) → a ++ (f ++ (l ∷ (i ++ x ∷ []))) ≡ ((a ++ (f ++ l ∷ [])) ++ i) ++ x ∷ []
regroup [] [] l i x = refl
regroup [] (y ∷ f) l i x = ap (λ z. y ∷ z) (regroup [] f l i x)
regroup (y ∷ a) f l i x = ap (λ z. y ∷ z) (regroup a f l i x)

group_read : (body : Body) (right : Item) (outer : List Outer) (last : Outer) (inner : Exp) → IsBody body → is_mark 41 right ≡ true
    → body.outer ≡ outer ++ last ∷ [] → joined body.atoms ≡ Some inner → Longer body (grouped outer last right inner) right
group_read body right outer last inner is h o j =
    let outers : list_all is_outer (outer ++ last ∷ []) ≡ true = ap (list_all is_outer) (sym o) ∙ is.outer in
    let last_is : is_outer last ≡ true = all_last is_outer outer last outers in
    let group : Exp = Group last.left inner right in
    let whole : is_atom group ≡ true =
    group_atom last.left inner right (both_right (are_atoms last.atoms) (is_mark 40 last.left) last_is) (joined_form body.atoms inner is.atoms j) h in
    let inside : yield_of group ≡ last.left ∷ (flat_map yield_of body.atoms ++ right ∷ []) =
    yield_group last.left inner right ∙ ap (λ l. last.left ∷ (l ++ right ∷ [])) (joined_yield body.atoms inner j) in
    record {
      form = record {
        atoms = all_more is_atom last.atoms group (both_left (are_atoms last.atoms) (is_mark 40 last.left) last_is) whole;
        outer = all_but_last is_outer outer last outers;
      };
      items = ap (λ l. flat_map outer_items outer ++ l) (flat_more yield_of last.atoms group ∙ ap (λ l. flat_map yield_of last.atoms ++ l) inside)
          ∙ regroup (flat_map outer_items outer) (flat_map yield_of last.atoms) last.left (flat_map yield_of body.atoms) right
          ∙ ap (λ l. (l ++ flat_map yield_of body.atoms) ++ right ∷ []) (sym (flat_more outer_items outer last) ∙ ap (flat_map outer_items) (sym o));
    }

close_joined : (body longer : Body) (right : Item) (outer : List Outer) (last : Outer) (o : Option Exp) → IsBody body → is_mark 41 right ≡ true
    → body.outer ≡ outer ++ last ∷ [] → joined body.atoms ≡ o → option_map (grouped outer last right) o ≡ Some longer → Longer body longer right
close_joined body longer right outer last None is h out j e = absurd (cc)
close_joined body longer right outer last (Some inner) is h out j e =
    let same : grouped outer last right inner ≡ longer = cc in
    subst (λ b. Longer body b right) same (group_read body right outer last inner is h out j)

close_read : (body longer : Body) (right : Item) (o : Option (List Outer × Outer)) → IsBody body → is_mark 41 right ≡ true
    → split_last body.outer ≡ o → option_and_then (closed_in body.atoms right) o ≡ Some longer → Longer body longer right
close_read body longer right None is h s e = absurd (cc)
close_read body longer right (Some (outer, last)) is h s e =
    close_joined body longer right outer last (joined body.atoms) is h (split_is body.outer outer last s) refl e

-- an item more has been read
pub body_longer : (body longer : Body) (item : Item) → IsBody body → body_with body item ≡ Some longer → Longer body longer item
body_longer body longer item is e =
    by (is_plain_variable item) (is_integer item) (is_mark 40 item) (is_mark 41 item) refl refl refl refl e where
      by : (v i l r : Bool) → is_plain_variable item ≡ v → is_integer item ≡ i → is_mark 40 item ≡ l → is_mark 41 item ≡ r
          → (if v then Some (with_atom body (Variable item)) else (if i then Some (with_atom body (Integer item))
          else (if l then opened body item else (if r then group_closed body item else None)))) ≡ Some longer → Longer body longer item
      by true i l r hv hi hl hr h =
          let same : with_atom body (Variable item) ≡ longer = cc in
          subst (λ b. Longer body b item) same (atom_read body (Variable item) item is (variable_atom item hv) (yield_variable item))
      by false true l r hv hi hl hr h =
          let same : with_atom body (Integer item) ≡ longer = cc in
          subst (λ b. Longer body b item) same (atom_read body (Integer item) item is (integer_atom item hi) (yield_integer item))
      by false false true r hv hi hl hr h = open_read body longer item (nat_lt (length body.outer) greatest_height) is hl h
      by false false false true hv hi hl hr h = close_read body longer item (split_last body.outer) is hr refl h
      by false false false false hv hi hl hr h = absurd (cc)

-- an expression that has been read
pub record Ended (body : Body) (exp : Exp) : Type 0 where
  pub form : (shape_of exp).is_form ≡ true
  pub items : yield_of exp ≡ body_items body

pub body_ended : (body : Body) (exp : Exp) → IsBody body → body_end body ≡ Some exp → Ended body exp
body_ended body exp is e = by body.outer refl e where
  by : (outer : List Outer) → body.outer ≡ outer → joined_outside outer body.atoms ≡ Some exp → Ended body exp
  by (outer ∷ more) o h = absurd (cc)
  by [] o h = record {
    form = joined_form body.atoms exp is.atoms h;
    items = joined_yield body.atoms exp h ∙ ap (λ l. flat_map outer_items l ++ flat_map yield_of body.atoms) (sym o);
  }

-- complete

-- with items more
abbrev pub body_after : Body → List Item → Option Body
body_after body [] = Some body
body_after body (item ∷ items) = option_and_then (λ longer. body_after longer items) (body_with body item)

after_append : (body : Body) (items others : List Item) → body_after body (items ++ others) ≡ option_and_then (λ longer. body_after longer others) (body_after body items)
after_append body [] others = refl
after_append body (item ∷ items) others = by (body_with body item) (λ longer. after_append longer items others) where
  by : (o : Option Body) → ((longer : Body) → body_after longer (items ++ others) ≡ option_and_then (λ b. body_after b others) (body_after longer items))
      → option_and_then (λ longer. body_after longer (items ++ others)) o
      ≡ option_and_then (λ longer. body_after longer others) (option_and_then (λ longer. body_after longer items) o)
  by None more_is = refl
  by (Some longer) more_is = more_is longer

-- the lexemes that begin the cases are of one of them each
reserved_no_variable : (class : Class) → is_reserved_class class ≡ true → is_variable_class class ≡ false
reserved_no_variable Class.VarId e = absurd (true≢false (sym e))
reserved_no_variable Class.ConId e = refl
reserved_no_variable Class.QVarId e = refl
reserved_no_variable Class.QConId e = refl
reserved_no_variable Class.VarSym e = refl
reserved_no_variable Class.ConSym e = refl
reserved_no_variable Class.QVarSym e = refl
reserved_no_variable Class.QConSym e = refl
reserved_no_variable Class.Integer e = refl
reserved_no_variable Class.Float e = refl
reserved_no_variable Class.Char e = refl
reserved_no_variable Class.Str e = refl
reserved_no_variable Class.ReservedId e = refl
reserved_no_variable Class.ReservedOp e = refl
reserved_no_variable Class.Special e = refl

reserved_no_integer : (class : Class) → is_reserved_class class ≡ true → is_integer_class class ≡ false
reserved_no_integer Class.VarId e = refl
reserved_no_integer Class.ConId e = refl
reserved_no_integer Class.QVarId e = refl
reserved_no_integer Class.QConId e = refl
reserved_no_integer Class.VarSym e = refl
reserved_no_integer Class.ConSym e = refl
reserved_no_integer Class.QVarSym e = refl
reserved_no_integer Class.QConSym e = refl
reserved_no_integer Class.Integer e = absurd (true≢false (sym e))
reserved_no_integer Class.Float e = refl
reserved_no_integer Class.Char e = refl
reserved_no_integer Class.Str e = refl
reserved_no_integer Class.ReservedId e = refl
reserved_no_integer Class.ReservedOp e = refl
reserved_no_integer Class.Special e = refl

integer_no_variable : (class : Class) → is_integer_class class ≡ true → is_variable_class class ≡ false
integer_no_variable Class.VarId e = absurd (true≢false (sym e))
integer_no_variable Class.ConId e = refl
integer_no_variable Class.QVarId e = refl
integer_no_variable Class.QConId e = refl
integer_no_variable Class.VarSym e = refl
integer_no_variable Class.ConSym e = refl
integer_no_variable Class.QVarSym e = refl
integer_no_variable Class.QConSym e = refl
integer_no_variable Class.Integer e = refl
integer_no_variable Class.Float e = refl
integer_no_variable Class.Char e = refl
integer_no_variable Class.Str e = refl
integer_no_variable Class.ReservedId e = refl
integer_no_variable Class.ReservedOp e = refl
integer_no_variable Class.Special e = refl

class_of_mark : (c : ℕ) (item : Item) → is_mark c item ≡ true → is_reserved_class item.lexeme.class ≡ true
class_of_mark c item h = both_left (is_reserved_class item.lexeme.class) (pointwise nat_eq item.lexeme.text (c ∷ [])) h

pub mark_no_variable : (c : ℕ) (item : Item) → is_mark c item ≡ true → is_plain_variable item ≡ false
mark_no_variable c item h = ap (λ b. b && list_all (λ x. nat_lt x 128) item.lexeme.text) (reserved_no_variable item.lexeme.class (class_of_mark c item h))

pub mark_no_integer : (c : ℕ) (item : Item) → is_mark c item ≡ true → is_integer item ≡ false
mark_no_integer c item h = reserved_no_integer item.lexeme.class (class_of_mark c item h)

integer_is_no_variable : (item : Item) → is_integer item ≡ true → is_plain_variable item ≡ false
integer_is_no_variable item h = ap (λ b. b && list_all (λ x. nat_lt x 128) item.lexeme.text) (integer_no_variable item.lexeme.class h)

other_text : (text : List ℕ) → pointwise nat_eq text (41 ∷ []) ≡ true → pointwise nat_eq text (40 ∷ []) ≡ false
other_text [] e = absurd (true≢false (sym e))
other_text (c ∷ []) e = ap (λ x. nat_eq x 40 && true) (eqb-true c 41 (both_left (nat_eq c 41) true e))
other_text (c ∷ (d ∷ text)) e = absurd (true≢false (sym (both_right (nat_eq c 41) false e)))

right_no_left : (item : Item) → is_mark 41 item ≡ true → is_mark 40 item ≡ false
right_no_left item h =
    ap (λ b. is_reserved_class item.lexeme.class && b) (other_text item.lexeme.text (both_right (is_reserved_class item.lexeme.class) (pointwise nat_eq item.lexeme.text (41 ∷ [])) h))
    ∙ and_false (is_reserved_class item.lexeme.class)

with_variable : (body : Body) (item : Item) → is_plain_variable item ≡ true → body_with body item ≡ Some (with_atom body (Variable item))
with_variable body item h = if_true (is_plain_variable item) _ _ h

with_integer : (body : Body) (item : Item) → is_integer item ≡ true → body_with body item ≡ Some (with_atom body (Integer item))
with_integer body item h = if_false (is_plain_variable item) _ _ (integer_is_no_variable item h) ∙ if_true (is_integer item) _ _ h

with_left : (body : Body) (item : Item) → is_mark 40 item ≡ true → body_with body item ≡ opened body item
with_left body item h =
    if_false (is_plain_variable item) _ _ (mark_no_variable 40 item h) ∙ if_false (is_integer item) _ _ (mark_no_integer 40 item h) ∙ if_true (is_mark 40 item) _ _ h

with_right : (body : Body) (item : Item) → is_mark 41 item ≡ true → body_with body item ≡ group_closed body item
with_right body item h =
    if_false (is_plain_variable item) _ _ (mark_no_variable 41 item h) ∙ if_false (is_integer item) _ _ (mark_no_integer 41 item h)
    ∙ if_false (is_mark 40 item) _ _ (right_no_left item h) ∙ if_true (is_mark 41 item) _ _ h

abbrev body_of : List Exp → List Outer → Body
body_of atoms outer = record { atoms = atoms; outer = outer }

-- inside of these open parentheses an expression is read: as one atom more, and as all that is there
pub record IsRead (outer : List Outer) (exp : Exp) : Type 0 where
  pub one : (shape_of exp).is_atom ≡ true → (atoms : List Exp) → body_after (body_of atoms outer) (yield_of exp) ≡ Some (body_of (atoms ++ (exp ∷ [])) outer)
  pub whole : (atoms : List Exp) × ((joined atoms ≡ Some exp) × (body_after (body_of [] outer) (yield_of exp) ≡ Some (body_of atoms outer)))

abbrev pub IsAlwaysRead : Exp → Type 0
IsAlwaysRead exp = (outer : List Outer) → (shape_of exp).is_form ≡ true → length outer + height_of exp ≤ greatest_height → IsRead outer exp

-- an atom is read as the one that is there
one_read : (outer : List Outer) (exp : Exp) → ((atoms : List Exp) → body_after (body_of atoms outer) (yield_of exp) ≡ Some (body_of (atoms ++ (exp ∷ [])) outer)) → IsRead outer exp
one_read outer exp h = record { one = λ is atoms. h atoms; whole = (exp ∷ [], (refl, h [])) }

after_one : (body longer : Body) (item : Item) (exp : Exp) → yield_of exp ≡ item ∷ [] → body_with body item ≡ Some longer → body_after body (yield_of exp) ≡ Some longer
after_one body longer item exp y h = ap (body_after body) y ∙ ap (option_and_then (λ b. body_after b [])) h

variable_read : (item : Item) → IsAlwaysRead (Variable item)
variable_read item outer form fits =
    let is : is_plain_variable item ≡ true = sym (ap (λ s. s.is_form) (shape_variable item)) ∙ form in
    one_read outer (Variable item) (λ atoms.
    after_one (body_of atoms outer) (body_of (atoms ++ Variable item ∷ []) outer) item (Variable item) (yield_variable item) (with_variable (body_of atoms outer) item is))

integer_read : (item : Item) → IsAlwaysRead (Integer item)
integer_read item outer form fits =
    let is : is_integer item ≡ true = sym (ap (λ s. s.is_form) (shape_integer item)) ∙ form in
    one_read outer (Integer item) (λ atoms.
    after_one (body_of atoms outer) (body_of (atoms ++ Integer item ∷ []) outer) item (Integer item) (yield_integer item) (with_integer (body_of atoms outer) item is))

-- there is room for a parenthesis
room : (outer : List Outer) (height : ℕ) → length outer + (height + 1) ≤ greatest_height → nat_lt (length outer) greatest_height ≡ true
room outer height h = grind arith

deeper : (outer : List Outer) (last : Outer) (height : ℕ) → length outer + (height + 1) ≤ greatest_height → length (outer ++ last ∷ []) + height ≤ greatest_height
deeper outer last height h = omega (arith, length-append outer (last ∷ []))

close_with : (atoms : List Exp) (outer : List Outer) (last : Outer) (right : Item) (inner : Exp) → is_mark 41 right ≡ true → joined atoms ≡ Some inner
    → body_with (body_of atoms (outer ++ last ∷ [])) right ≡ Some (grouped outer last right inner)
close_with atoms outer last right inner h j =
    with_right (body_of atoms (outer ++ last ∷ [])) right h ∙ ap (option_and_then (closed_in atoms right)) (split_more outer last)
    ∙ ap (option_map (grouped outer last right)) j

group_read_again : (left : Item) (inner : Exp) (right : Item) → IsAlwaysRead inner → IsAlwaysRead (Group left inner right)
group_read_again left inner right reads outer form fits =
    let shape : ((is_mark 40 left && (shape_of inner).is_form) && is_mark 41 right) ≡ true = sym (ap (λ s. s.is_form) (shape_group left inner right)) ∙ form in
    let front : (is_mark 40 left && (shape_of inner).is_form) ≡ true = both_left (is_mark 40 left && (shape_of inner).is_form) (is_mark 41 right) shape in
    let height : length outer + (height_of inner + 1) ≤ greatest_height = subst (λ n. length outer + n ≤ greatest_height) (height_group left inner right) fits in
    one_read outer (Group left inner right) (λ atoms.
    let last : Outer = record { atoms = atoms; left = left } in
    let is : IsRead (outer ++ last ∷ []) inner = reads (outer ++ last ∷ []) (both_right (is_mark 40 left) (shape_of inner).is_form front) (deeper outer last (height_of inner) height) in
    let found = is.whole in
    let begin : body_with (body_of atoms outer) left ≡ Some (body_of [] (outer ++ last ∷ [])) =
    with_left (body_of atoms outer) left (both_left (is_mark 40 left) (shape_of inner).is_form front) ∙ if_true (nat_lt (length outer) greatest_height) _ _ (room outer (height_of inner) height) in
    let end : body_with (body_of found.0 (outer ++ last ∷ [])) right ≡ Some (grouped outer last right inner) =
    close_with found.0 outer last right inner (both_right (is_mark 40 left && (shape_of inner).is_form) (is_mark 41 right) shape) found.1.0 in
    ap (body_after (body_of atoms outer)) (yield_group left inner right)
    ∙ ap (option_and_then (λ b. body_after b (yield_of inner ++ right ∷ []))) begin
    ∙ after_append (body_of [] (outer ++ last ∷ [])) (yield_of inner) (right ∷ [])
    ∙ ap (option_and_then (λ b. body_after b (right ∷ []))) found.1.1
    ∙ ap (option_and_then (λ b. body_after b [])) end)

first_fits : (outer : List Outer) (m n : ℕ) → length outer + (max m n + 1) ≤ greatest_height → length outer + m ≤ greatest_height
first_fits outer m n h = omega arith

rest_fits : (outer : List Outer) (m n : ℕ) → length outer + (max m n + 1) ≤ greatest_height → length outer + (n + 1) ≤ greatest_height
rest_fits outer m n h = omega arith

atoms_read : (atoms front : List Exp) (outer : List Outer) → AllByRecursion IsAlwaysRead atoms → are_atoms atoms ≡ true → length outer + (greatest (map height_of atoms) + 1) ≤ greatest_height
    → body_after (body_of front outer) (flat_map yield_of atoms) ≡ Some (body_of (front ++ atoms) outer)
atoms_read [] front outer reads are fits = ap (λ l. Some (body_of l outer)) (sym (append-nil front))
atoms_read (atom ∷ atoms) front outer reads are fits =
    let m : ℕ = height_of atom in
    let n : ℕ = greatest (map height_of atoms) in
    let is : is_atom atom ≡ true = both_left (is_atom atom) (are_atoms atoms) are in
    let one : IsRead outer atom = reads.0 outer (both_left (shape_of atom).is_form (shape_of atom).is_atom is) (first_fits outer m n fits) in
    after_append (body_of front outer) (yield_of atom) (flat_map yield_of atoms)
    ∙ ap (option_and_then (λ b. body_after b (flat_map yield_of atoms))) (one.one (both_right (shape_of atom).is_form (shape_of atom).is_atom is) front)
    ∙ atoms_read atoms (front ++ atom ∷ []) outer reads.1 (both_right (is_atom atom) (are_atoms atoms) are) (rest_fits outer m n fits)
    ∙ ap (λ l. Some (body_of l outer)) (append_assoc front (atom ∷ []) atoms)

joined_many : (atoms : List Exp) → nat_lt 1 (length atoms) ≡ true → joined atoms ≡ Some (Apply atoms)
joined_many [] e = absurd (true≢false (sym e))
joined_many (atom ∷ []) e = absurd (true≢false (sym e))
joined_many (atom ∷ (other ∷ atoms)) e = refl

apply_read : (atoms : List Exp) → AllByRecursion IsAlwaysRead atoms → IsAlwaysRead (Apply atoms)
apply_read atoms reads outer form fits =
    let shape : (nat_lt 1 (length (map shape_of atoms)) && list_all (λ s. s.is_form && s.is_atom) (map shape_of atoms)) ≡ true = sym (ap (λ s. s.is_form) (shape_apply atoms)) ∙ form in
    let many_are : nat_lt 1 (length atoms) ≡ true =
    ap (nat_lt 1) (sym (length-map atoms shape_of)) ∙ both_left (nat_lt 1 (length (map shape_of atoms))) (list_all (λ s. s.is_form && s.is_atom) (map shape_of atoms)) shape in
    let are : are_atoms atoms ≡ true =
    sym (list_all-map (λ s. s.is_form && s.is_atom) shape_of atoms) ∙ both_right (nat_lt 1 (length (map shape_of atoms))) (list_all (λ s. s.is_form && s.is_atom) (map shape_of atoms)) shape in
    let height : length outer + (greatest (map height_of atoms) + 1) ≤ greatest_height = subst (λ n. length outer + n ≤ greatest_height) (height_apply atoms) fits in
    record {
      one = λ is. absurd (true≢false (sym is ∙ ap (λ s. s.is_atom) (shape_apply atoms)));
      whole = (atoms, (joined_many atoms many_are, ap (body_after (body_of [] outer)) (yield_apply atoms) ∙ atoms_read atoms [] outer reads are height));
    }

-- every expression of the form is read
pub all_read : (exp : Exp) → IsAlwaysRead exp
all_read = by_parts IsAlwaysRead variable_read integer_read group_read_again apply_read
