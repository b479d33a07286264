-- Marks of the lexemes of a tree, put one behind another.
use Rattle.std.proofs.Common.{◌≡◌, ℕ, ◌≤◌, Bool, List, [], ◌∷◌, ◌++◌, map, length, drop, sym, ap, refl, ◌∙◌, append_assoc, append-nil, drop_of_length-le, ◌+◌, ◌<◌, get_or, add-one, drop-cons}
use Rattle.std.specs.List.{flat_map}
use Rattle.std.proofs.lemmas.List.{map-append}
use Rattle.hr_base.specs.declared.lexeme.Item.{Item}
use Rattle.hr_plain_tree.specs.declared.tree.Exp.{Exp}
use Rattle.hr_plain_tree.specs.declared.tree.Exp.TheVariants.{Group, Apply}
use Rattle.hr_plain_tree.specs.Yields.{yield_of}
use Rattle.hr_plain_tree.proofs.Trees.{yield_group, yield_apply}

pub marks_apart : (f : Item → Bool) (atoms : List Exp) → map f (flat_map yield_of atoms) ≡ flat_map (λ e. map f (yield_of e)) atoms
marks_apart f [] = refl
marks_apart f (atom ∷ atoms) = map-append f (yield_of atom) (flat_map yield_of atoms) ∙ ap (λ l. map f (yield_of atom) ++ l) (marks_apart f atoms)

pub group_marked : (f : Item → Bool) (before opened full after : List Bool) (left right : Item) (inner : Exp) → opened ≡ before ++ f left ∷ [] → full ≡ opened ++ map f (yield_of inner) → after ≡ full ++ f right ∷ []
    → after ≡ before ++ map f (yield_of (Group left inner right))
group_marked f before opened full after left right inner o m a =
    a ∙ ap (λ l. l ++ f right ∷ []) (m ∙ ap (λ l. l ++ map f (yield_of inner)) o ∙ append_assoc before (f left ∷ []) (map f (yield_of inner)))
    ∙ append_assoc before (f left ∷ map f (yield_of inner)) (f right ∷ [])
    ∙ ap (λ l. before ++ l) (ap (λ l. f left ∷ l) (sym (map-append f (yield_of inner) (right ∷ []))) ∙ ap (map f) (sym (yield_group left inner right)))

pub atoms_marked : (f : Item → Bool) (before after : List Bool) (items atoms : List Exp) (place : ℕ) → length items ≤ place → items ≡ atoms
    → after ++ flat_map (λ e. map f (yield_of e)) (drop place items) ≡ before ++ flat_map (λ e. map f (yield_of e)) items → after ≡ before ++ map f (yield_of (Apply atoms))
atoms_marked f before after items atoms place h same e =
    sym (append-nil after) ∙ ap (λ l. after ++ flat_map (λ x. map f (yield_of x)) l) (sym (drop_of_length-le items h)) ∙ e
    ∙ ap (λ l. before ++ l) (ap (flat_map (λ x. map f (yield_of x))) same ∙ sym (marks_apart f atoms) ∙ ap (map f) (sym (yield_apply atoms)))

-- one atom more
pub atom_marked : (f : Item → Bool) (marks after whole : List Bool) (items : List Exp) (place : ℕ) (atom : Exp) → place < length items → atom ≡ get_or items place atom
    → after ≡ marks ++ map f (yield_of atom)
    → marks ++ flat_map (λ e. map f (yield_of e)) (drop place items) ≡ whole → after ++ flat_map (λ e. map f (yield_of e)) (drop (place + 1) items) ≡ whole
atom_marked f marks after whole items place atom within is a e =
    let here : drop place items ≡ get_or items place atom ∷ drop (place + 1) items = rw (add-one, drop-cons items place atom) refl in
    let there : drop place items ≡ atom ∷ drop (place + 1) items = here ∙ ap (λ x. x ∷ drop (place + 1) items) (sym is) in
    ap (λ l. l ++ flat_map (λ x. map f (yield_of x)) (drop (place + 1) items)) a
    ∙ append_assoc marks (map f (yield_of atom)) (flat_map (λ x. map f (yield_of x)) (drop (place + 1) items))
    ∙ ap (λ l. marks ++ flat_map (λ x. map f (yield_of x)) l) (sym there) ∙ e
