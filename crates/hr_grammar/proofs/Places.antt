-- What may not stand at a place of the grammar.
use Rattle.std.proofs.Common.{◌≡◌, ℕ, zero, suc, Bool, true, false, List, ◌∷◌, sym, ap, ◌∙◌, subst, refl}
use Rattle.hr_base.specs.declared.lexeme.Item.{Item}
use Rattle.hr_tree.specs.declared.lists.Operand.{Operand}
use Rattle.hr_tree.specs.declared.types.Ty.{Ty}
use Rattle.hr_tree.specs.declared.expressions.Exp.{Exp, out-Exp}
use Rattle.hr_tree.specs.declared.expressions.Decl.{Decl}
use Rattle.hr_tree.specs.declared.expressions.Alt.{Alt}
use Rattle.hr_tree.specs.declared.expressions.Qualifier.{Qualifier}
use Rattle.hr_tree.specs.declared.expressions.Exp.TheVariants.{Infix, Annotated}
use Rattle.hr_tree.specs.declared.expressions.Decl.TheOpen.{Exp-F}
use Rattle.hr_tree.specs.declared.expressions.Decl.TheViews.{rolls-Infix, rolls-Annotated, out-roll-Exp}
use Rattle.hr_grammar.specs.Nodes.{Nodes, Colons, ExpPlace}
use Rattle.hr_grammar.specs.Expressions.{ExpProduction, takes_open}
use Rattle.hr_grammar.specs.Yields.{nodes}
use Rattle.hr_grammar.specs.Laws.{IsOpen, is_open, OpenIsLast, OpenIsUnannotated, OneAnnotation, NoAnnotatedGuard}

out_infix : (operands : List (Operand Exp)) → out-Exp (Infix operands) ≡ Exp-F.Infix operands
out_infix operands = ap out-Exp (sym (rolls-Infix operands)) ∙ out-roll-Exp (Exp-F.Infix operands)

out_annotated : (part : Exp) (colons : Item) (ty : Ty) → out-Exp (Annotated part colons ty) ≡ Exp-F.Annotated part colons ty
out_annotated part colons ty = ap out-Exp (sym (rolls-Annotated part colons ty)) ∙ out-roll-Exp (Exp-F.Annotated part colons ty)

not_both : (b : Bool) → b ≡ true → b ≡ false → ⊥
not_both b t f = let e : true ≡ false = sym t ∙ f in cc

open_takes : (below : Nodes) (free : Colons) (place : ExpPlace) (exp : Exp-F Decl Exp Qualifier Alt) → ExpProduction below free place exp → is_open exp ≡ true → takes_open place ≡ true
open_takes below free place (Exp-F.Lambda mark patterns arrow body) h o = h.0
open_takes below free place (Exp-F.Let word block in_word body) h o = h.0
open_takes below free place (Exp-F.If word test then_word first else_word second) h o = h.0
open_takes below free place _ h o = let e : ⊥ = cc in elim e [ ]

-- at a place that takes no open expression none stands
no_open : (levels : ℕ) (free : Colons) (place : ExpPlace) (exp : Exp) → takes_open place ≡ false → (nodes levels).exp free place exp → IsOpen exp → ⊥
no_open zero free place exp t h o = h
no_open (suc levels) free place exp t h o = not_both (takes_open place) (open_takes (nodes levels) free place (out-Exp exp) h o) t

pub open_is_last_lem : OpenIsLast
open_is_last_lem zero free place first second rest h o = h
open_is_last_lem (suc levels) free place first second rest h o =
    let inside = subst (ExpProduction (nodes levels) free place) (out_infix (first ∷ (second ∷ rest))) h in
    no_open levels free ExpPlace.Operand first.part refl inside.2.1 o

-- what an annotated expression says of its part
annotated_part : (levels : ℕ) (free : Colons) (place : ExpPlace) (part : Exp) (colons : Item) (ty : Ty) → (nodes (suc levels)).exp free place (Annotated part colons ty)
    → (free ≡ Colons.Allowed) × (nodes levels).exp Colons.Allowed ExpPlace.Annotated part
annotated_part levels free place part colons ty h =
    let inside = subst (ExpProduction (nodes levels) free place) (out_annotated part colons ty) h in (inside.1, inside.2)

pub open_is_unannotated_lem : OpenIsUnannotated
open_is_unannotated_lem zero free place part colons ty h o = h
open_is_unannotated_lem (suc levels) free place part colons ty h o =
    no_open levels Colons.Allowed ExpPlace.Annotated part refl (annotated_part levels free place part colons ty h).1 o

-- where an annotated expression stands
annotated_place : (levels : ℕ) (free : Colons) (part : Exp) (colons : Item) (ty : Ty) → (nodes levels).exp free ExpPlace.Annotated (Annotated part colons ty) → ⊥
annotated_place zero free part colons ty h = h
annotated_place (suc levels) free part colons ty h =
    let inside = subst (ExpProduction (nodes levels) free ExpPlace.Annotated) (out_annotated part colons ty) h in not_both false inside.0 refl

pub one_annotation_lem : OneAnnotation
one_annotation_lem zero free place part colons others ty other h = h
one_annotation_lem (suc levels) free place part colons others ty other h =
    annotated_place levels Colons.Allowed part colons ty (annotated_part levels free place (Annotated part colons ty) others other h).1

barred : Colons.Barred ≡ Colons.Allowed → ⊥
barred e = let h : ⊥ = cc in h

pub no_annotated_guard_lem : NoAnnotatedGuard
no_annotated_guard_lem zero place part colons ty h = h
no_annotated_guard_lem (suc levels) place part colons ty h = barred (annotated_part levels Colons.Barred place part colons ty h).0
