use Rattle.std.proofs.Common.{◌++◌, ◌∷◌, [], map, ap, sym, ◌∙◌, append-nil}
use Rattle.hr_type.proofs.Reading.{on_ok, no_parts, arguments, both}
use Rattle.hr_type.proofs.parts.push_parts.Goals as goal

pub returns-in-Var : goal.returns-in-Var
returns-in-Var c = sym (ap (λ ts. map (λ t. t.now) c.args.stack.now.items ++ ts) (no_parts _ _ c.in-Var.is) ∙ append-nil _)

pub returns-in-Con : goal.returns-in-Con
returns-in-Con c = on_ok c.push_all.result _ _ (λ h. h ∙ ap (λ ts. map (λ t. t.now) c.args.stack.now.items ++ ts) (c.as_slice.ensures ∙ sym (arguments _ _ _ c.in-Con.is))) c.push_all.ensures

pub returns-in-Fun : goal.returns-in-Fun
returns-in-Fun c =
    on_ok c.push_two.result _ _
    (λ h. h ∙ (λ i. map (λ t. t.now) c.args.stack.now.items ++ c.get.ensures i ∷ c.get-in-Fun.ensures i ∷ []) ∙ ap (λ ts. map (λ t. t.now) c.args.stack.now.items ++ ts) (sym (both _ _ _ c.in-Fun.is))) c.push_two.ensures
