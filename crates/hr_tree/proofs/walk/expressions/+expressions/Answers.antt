use Rattle.std.proofs.Common.{◌≡◌, List, ◌++◌, fold, ap, sym, ◌∙◌}
use Rattle.std.proofs.lemmas.List.Sums.{fold-append}
use Rattle.hr_tree.specs.Yields.{pat_items, left_side_items, exp_items, decl_items}
use Rattle.hr_tree.specs.Lists.{body_items, where_items}
use Rattle.hr_tree.proofs.ExpressionYields.{decl_equation, decl_binding}
use Rattle.hr_tree.proofs.walk.expressions.+expressions.Goals as goal

-- what is behind three stretches, one after another
behind_three : {S I : Type 0} (f : S → I → S) (begun first second third : S) (a b c whole : List I) → whole ≡ a ++ (b ++ c)
    → first ≡ fold f begun a → second ≡ fold f first b → third ≡ fold f second c → third ≡ fold f begun whole
behind_three f begun first second third a b c whole w x y z =
    z ∙ ap (λ s. fold f s c) (y ∙ ap (λ s. fold f s b) x)
    ∙ sym (ap (fold f begun) w ∙ fold-append f begun a (b ++ c) ∙ fold-append f (fold f begun a) b c)

pub walk_decl-returns-in_ok-walk_where-in-Equation : goal.walk_decl-returns-in_ok-walk_where-in-Equation
walk_decl-returns-in_ok-walk_where-in-Equation g t c =
    behind_three g.V.Visitor.behind c.args.visitor.now c.walk_left_side.new.visitor c.walk_body.new.visitor c.walk_where.new.visitor
    (left_side_items c.in-Equation.left) (body_items exp_items c.in-Equation.body) (where_items decl_items c.in-Equation.locals) (decl_items c.args.decl.now)
    (ap decl_items c.in-Equation.is ∙ decl_equation c.in-Equation.left c.in-Equation.body c.in-Equation.locals)
    c.in_ok-walk_left_side-in-Equation.ensures c.in_ok-walk_body-in-Equation.ensures c.in_ok-walk_where-in-Equation.ensures

pub walk_decl-returns-in_ok-walk_where-in-Binding : goal.walk_decl-returns-in_ok-walk_where-in-Binding
walk_decl-returns-in_ok-walk_where-in-Binding g t c =
    behind_three g.V.Visitor.behind c.args.visitor.now c.walk_pat.new.visitor c.walk_body-in-Binding.new.visitor c.walk_where-in-Binding.new.visitor
    (pat_items c.in-Binding.pattern) (body_items exp_items c.in-Binding.body) (where_items decl_items c.in-Binding.locals) (decl_items c.args.decl.now)
    (ap decl_items c.in-Binding.is ∙ decl_binding c.in-Binding.pattern c.in-Binding.body c.in-Binding.locals)
    c.in_ok-walk_pat-in-Binding.ensures c.in_ok-walk_body-in-Binding.ensures c.in_ok-walk_where-in-Binding.ensures
