use Rattle.std.proofs.Common.{◌+◌, map, max, ap, sym, ◌∙◌}
use Rattle.hr_type.specs.Sizes.{size, total, reach}
use Rattle.hr_type.specs.Inside.{deepest_of, spread}
use Rattle.hr_type.proofs.Reading.{on_ok, no_parts, arguments, both, no_deeper, no_wider, two_deeper, two_wider}
use Rattle.hr_type.proofs.measure.push_inner.Goals as goal

pub returns-in-Var-clause-deep : goal.returns-in-Var-clause-deep
returns-in-Var-clause-deep c = no_deeper c.args.stack.now.items c.args.above _ (no_parts _ _ c.in-Var.is)

pub returns-in-Var-clause-wide : goal.returns-in-Var-clause-wide
returns-in-Var-clause-wide c = no_wider c.args.stack.now.items _ (no_parts _ _ c.in-Var.is)

pub returns-in-Con-clause-deep : goal.returns-in-Con-clause-deep
returns-in-Con-clause-deep c =
    on_ok c.push_each.result _ _ (λ h. h ∙ ap (λ ts. max (deepest_of c.args.stack.now.items) (reach c.args.above ts)) (c.as_slice.ensures ∙ sym (arguments _ _ _ c.in-Con.is))) c.push_each.ensures.deep

pub returns-in-Con-clause-wide : goal.returns-in-Con-clause-wide
returns-in-Con-clause-wide c =
    on_ok c.push_each.result _ _ (λ h. h ∙ ap (λ ts. spread c.args.stack.now.items + total (map size ts)) (c.as_slice.ensures ∙ sym (arguments _ _ _ c.in-Con.is))) c.push_each.ensures.wide

pub returns-in_ok-push_one-in-Fun-clause-deep : goal.returns-in_ok-push_one-in-Fun-clause-deep
returns-in_ok-push_one-in-Fun-clause-deep c =
    on_ok c.push_one-in-Fun.result _ _ (λ h. two_deeper _ _ _ c.args.above _ _ _ _ _ (both _ _ _ c.in-Fun.is) c.get.ensures c.get-in-Fun.ensures c.in_ok-push_one-in-Fun.ensures.deep h) c.push_one-in-Fun.ensures.deep

pub returns-in_ok-push_one-in-Fun-clause-wide : goal.returns-in_ok-push_one-in-Fun-clause-wide
returns-in_ok-push_one-in-Fun-clause-wide c =
    on_ok c.push_one-in-Fun.result _ _ (λ h. two_wider _ _ _ _ _ _ _ _ (both _ _ _ c.in-Fun.is) c.get.ensures c.get-in-Fun.ensures c.in_ok-push_one-in-Fun.ensures.wide h) c.push_one-in-Fun.ensures.wide
