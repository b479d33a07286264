-- What the nodes of a tree yield.
use Rattle.std.proofs.Common.{◌≡◌, ℕ, ◌≤◌, List, [], ◌∷◌, ◌++◌, length, drop, sym, ap, ◌∙◌, append_assoc, append-nil, drop_of_length-le}
use Rattle.std.specs.List.{flat_map}
use Rattle.std.proofs.lemmas.List.Folds.{flat_map-map}
use Rattle.hr_base.specs.declared.lexeme.Item.{Item}
use Rattle.hr_plain_tree.specs.declared.tree.Exp.{Exp}
use Rattle.hr_plain_tree.specs.declared.tree.Exp.TheOpen.{Exp-F}
use Rattle.hr_plain_tree.specs.declared.tree.Exp.TheVariants.{Variable, Integer, Group, Apply}
use Rattle.hr_plain_tree.specs.declared.tree.Exp.TheFolds.{fold-roll-Exp}
use Rattle.hr_plain_tree.specs.declared.tree.Exp.TheViews.{rolls-Variable, rolls-Integer, rolls-Group, rolls-Apply}
use Rattle.hr_plain_tree.specs.declared.tree.Equation.{Equation}
use Rattle.hr_plain_tree.specs.declared.search.Search.{Search}
use Rattle.hr_plain_tree.specs.Search.{passed}
use Rattle.hr_plain_tree.specs.Yields.{yield_layer, yield_of, equation_items}

pub yield_variable : (item : Item) → yield_of (Variable item) ≡ item ∷ []
yield_variable item = ap yield_of (sym (rolls-Variable item)) ∙ fold-roll-Exp (List Item) yield_layer (Exp-F.Variable item)

pub yield_integer : (item : Item) → yield_of (Integer item) ≡ item ∷ []
yield_integer item = ap yield_of (sym (rolls-Integer item)) ∙ fold-roll-Exp (List Item) yield_layer (Exp-F.Integer item)

pub yield_group : (left : Item) (inner : Exp) (right : Item) → yield_of (Group left inner right) ≡ left ∷ (yield_of inner ++ right ∷ [])
yield_group left inner right = ap yield_of (sym (rolls-Group left inner right)) ∙ fold-roll-Exp (List Item) yield_layer (Exp-F.Group left inner right)

pub yield_apply : (atoms : List Exp) → yield_of (Apply atoms) ≡ flat_map yield_of atoms
yield_apply atoms =
    ap yield_of (sym (rolls-Apply atoms)) ∙ fold-roll-Exp (List Item) yield_layer (Exp-F.Apply atoms) ∙ flat_map-map (λ items. items) yield_of atoms

-- a left one, what is inside, and a right one are put behind what was there
pub group_pushed : (before opened full after : List Item) (left right : Item) (inner : Exp) → opened ≡ before ++ left ∷ [] → full ≡ opened ++ yield_of inner → after ≡ full ++ right ∷ []
    → after ≡ before ++ yield_of (Group left inner right)
group_pushed before opened full after left right inner o f a =
    a ∙ ap (λ l. l ++ right ∷ []) (f ∙ ap (λ l. l ++ yield_of inner) o ∙ append_assoc before (left ∷ []) (yield_of inner))
    ∙ append_assoc before (left ∷ yield_of inner) (right ∷ [])
    ∙ ap (λ l. before ++ l) (sym (yield_group left inner right))

-- no atom is left
pub atoms_end : (before after : List Item) (items atoms : List Exp) (place : ℕ) → length items ≤ place → items ≡ atoms
    → after ++ flat_map yield_of (drop place items) ≡ before ++ flat_map yield_of items → after ≡ before ++ yield_of (Apply atoms)
atoms_end before after items atoms place h same e =
    sym (append-nil after) ∙ ap (λ l. after ++ flat_map yield_of l) (sym (drop_of_length-le items h)) ∙ e
    ∙ ap (λ l. before ++ l) (ap (flat_map yield_of) same ∙ sym (yield_apply atoms))

-- a search behind the last atom
pub atoms_passed : (before after : Search) (items atoms : List Exp) (place : ℕ) → length items ≤ place → items ≡ atoms
    → passed after (flat_map yield_of (drop place items)) ≡ passed before (flat_map yield_of items) → after ≡ passed before (yield_of (Apply atoms))
atoms_passed before after items atoms place h same e =
    ap (λ l. passed after (flat_map yield_of l)) (sym (drop_of_length-le items h)) ∙ e
    ∙ ap (passed before) (ap (flat_map yield_of) same ∙ sym (yield_apply atoms))

-- and behind the last equation
pub equations_passed : (before after : Search) (items : List Equation) (place : ℕ) → length items ≤ place
    → passed after (flat_map equation_items (drop place items)) ≡ passed before (flat_map equation_items items) → after ≡ passed before (flat_map equation_items items)
equations_passed before after items place h e = ap (λ l. passed after (flat_map equation_items l)) (sym (drop_of_length-le items h)) ∙ e
