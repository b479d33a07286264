-- Induction over expressions, and what of a node is made from its parts.
use Rattle.std.proofs.Common.{◌≡◌, ℕ, List, [], ◌∷◌, map, subst, sym, ap, ◌∙◌}
use Rattle.std.specs.List.{AllByRecursion}
use Rattle.hr_base.specs.declared.lexeme.Item.{Item}
use Rattle.hr_plain_tree.specs.declared.tree.Exp.{Exp}
use Rattle.hr_plain_tree.specs.declared.tree.Exp.TheOpen.{Exp-F}
use Rattle.hr_plain_tree.specs.declared.tree.Exp.TheVariants.{Variable, Integer, Group, Apply}
use Rattle.hr_plain_tree.specs.declared.tree.Exp.TheViews.{roll-Exp, rolls-Variable, rolls-Integer, rolls-Group, rolls-Apply}
use Rattle.hr_plain_tree.specs.declared.tree.Exp.TheFolds.{fold-roll-Exp, ind-Exp, map-Exp}
use Rattle.hr_plain_tree.specs.Yields.{height_layer, height_of}
use Rattle.hr_plain.specs.Form.{Shape, shape_layer, shape_of}

pub shape_variable : (item : Item) → shape_of (Variable item) ≡ shape_layer (Exp-F.Variable item)
shape_variable item = ap shape_of (sym (rolls-Variable item)) ∙ fold-roll-Exp Shape shape_layer (Exp-F.Variable item)

pub shape_integer : (item : Item) → shape_of (Integer item) ≡ shape_layer (Exp-F.Integer item)
shape_integer item = ap shape_of (sym (rolls-Integer item)) ∙ fold-roll-Exp Shape shape_layer (Exp-F.Integer item)

pub shape_group : (left : Item) (inner : Exp) (right : Item) → shape_of (Group left inner right) ≡ shape_layer (Exp-F.Group left (shape_of inner) right)
shape_group left inner right = ap shape_of (sym (rolls-Group left inner right)) ∙ fold-roll-Exp Shape shape_layer (Exp-F.Group left inner right)

pub shape_apply : (atoms : List Exp) → shape_of (Apply atoms) ≡ shape_layer (Exp-F.Apply (map shape_of atoms))
shape_apply atoms = ap shape_of (sym (rolls-Apply atoms)) ∙ fold-roll-Exp Shape shape_layer (Exp-F.Apply atoms)

pub height_variable : (item : Item) → height_of (Variable item) ≡ height_layer (Exp-F.Variable item)
height_variable item = ap height_of (sym (rolls-Variable item)) ∙ fold-roll-Exp ℕ height_layer (Exp-F.Variable item)

pub height_integer : (item : Item) → height_of (Integer item) ≡ height_layer (Exp-F.Integer item)
height_integer item = ap height_of (sym (rolls-Integer item)) ∙ fold-roll-Exp ℕ height_layer (Exp-F.Integer item)

pub height_group : (left : Item) (inner : Exp) (right : Item) → height_of (Group left inner right) ≡ height_layer (Exp-F.Group left (height_of inner) right)
height_group left inner right = ap height_of (sym (rolls-Group left inner right)) ∙ fold-roll-Exp ℕ height_layer (Exp-F.Group left inner right)

pub height_apply : (atoms : List Exp) → height_of (Apply atoms) ≡ height_layer (Exp-F.Apply (map height_of atoms))
height_apply atoms = ap height_of (sym (rolls-Apply atoms)) ∙ fold-roll-Exp ℕ height_layer (Exp-F.Apply atoms)

firsts_hold : (P : Exp → Type 0) (parts : List ((e : Exp) × P e)) → AllByRecursion P (map (λ e. e.0) parts)
firsts_hold P [] = tt
firsts_hold P (part ∷ parts) = (part.1, firsts_hold P parts)

layer_holds : (P : Exp → Type 0) → ((item : Item) → P (Variable item)) → ((item : Item) → P (Integer item))
    → ((left : Item) (inner : Exp) (right : Item) → P inner → P (Group left inner right))
    → ((atoms : List Exp) → AllByRecursion P atoms → P (Apply atoms))
    → (y : Exp-F ((e : Exp) × P e)) → P (roll-Exp (map-Exp ((e : Exp) × P e) Exp (λ e. e.0) y))
layer_holds P v i g a (Exp-F.Variable item) = subst P (sym (rolls-Variable item)) (v item)
layer_holds P v i g a (Exp-F.Integer item) = subst P (sym (rolls-Integer item)) (i item)
layer_holds P v i g a (Exp-F.Group left inner right) = subst P (sym (rolls-Group left inner.0 right)) (g left inner.0 right inner.1)
layer_holds P v i g a (Exp-F.Apply atoms) = subst P (sym (rolls-Apply (map (λ e. e.0) atoms))) (a (map (λ e. e.0) atoms) (firsts_hold P atoms))

-- a fact of each layer, once it is one of its parts, is one of every expression
pub by_parts : (P : Exp → Type 0) → ((item : Item) → P (Variable item)) → ((item : Item) → P (Integer item))
    → ((left : Item) (inner : Exp) (right : Item) → P inner → P (Group left inner right))
    → ((atoms : List Exp) → AllByRecursion P atoms → P (Apply atoms)) → (exp : Exp) → P exp
by_parts P v i g a = ind-Exp P (λ x y is. subst (λ z. P (roll-Exp z)) is (layer_holds P v i g a y))
