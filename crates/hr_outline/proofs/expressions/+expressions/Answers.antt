use Rattle.std.proofs.Common.{◌≡◌, [], ◌∷◌, ap, ◌∙◌}
use Rattle.hr_tree.specs.declared.expressions.Decl.{Decl}
use Rattle.hr_scope_rules.specs.declared.naming.Naming.{Naming}
use Rattle.hr_scope_rules.specs.Events.{Event, after}
use Rattle.hr_scope_rules.specs.Phrases.{pat_events}
use Rattle.hr_scope_rules.specs.Outline.{left_side_events, where_entered, body_events, where_events, exp_events, declared_of}
use Rattle.hr_outline.specs.Seen.{seen}
use Rattle.hr_outline.proofs.Behind.{behind_rest}
use Rattle.hr_outline.proofs.ExpressionEvents.{decl_equation, decl_binding}
use Rattle.hr_outline.proofs.expressions.+expressions.Goals as goal

pub read_decl-returns-in_ok-read_where-in-Equation : goal.read_decl-returns-in_ok-read_where-in-Equation
read_decl-returns-in_ok-read_where-in-Equation t c =
    behind_rest after (seen c.args.out.now) (seen c.read_left_side.new.out) (seen c.enter_where.new.out) (seen c.read_body.new.out) (seen c.read_where.new.out) (seen c.close_region.new.out)
    (Event.Begin ∷ left_side_events (Naming.Defined c.args.goes_on) c.in-Equation.left) (where_entered c.in-Equation.locals) (body_events exp_events c.in-Equation.body) (where_events declared_of c.in-Equation.locals) (Event.Leave ∷ Event.End ∷ [])
    ((declared_of c.args.decl.now).events c.args.goes_on)
    (ap (λ (d : Decl). (declared_of d).events c.args.goes_on) c.in-Equation.is ∙ decl_equation c.in-Equation.left c.in-Equation.body c.in-Equation.locals c.args.goes_on)
    c.in_ok-read_left_side-in-Equation.ensures c.in_ok-enter_where-in-Equation.ensures c.in_ok-read_body-in-Equation.ensures c.in_ok-read_where-in-Equation.ensures c.close_region.ensures

pub read_decl-returns-in_ok-read_where-in-Binding : goal.read_decl-returns-in_ok-read_where-in-Binding
read_decl-returns-in_ok-read_where-in-Binding t c =
    behind_rest after (seen c.args.out.now) (seen c.read_first_pat.new.out) (seen c.enter_where-in-Binding.new.out) (seen c.read_body-in-Binding.new.out) (seen c.read_where-in-Binding.new.out) (seen c.end_construct.new.out)
    (Event.Begin ∷ pat_events c.in-Binding.pattern) (where_entered c.in-Binding.locals) (body_events exp_events c.in-Binding.body) (where_events declared_of c.in-Binding.locals) (Event.End ∷ [])
    ((declared_of c.args.decl.now).events c.args.goes_on)
    (ap (λ (d : Decl). (declared_of d).events c.args.goes_on) c.in-Binding.is ∙ decl_binding c.in-Binding.pattern c.in-Binding.body c.in-Binding.locals c.args.goes_on)
    c.in_ok-read_first_pat-in-Binding.ensures c.in_ok-enter_where-in-Binding.ensures c.in_ok-read_body-in-Binding.ensures c.in_ok-read_where-in-Binding.ensures c.end_construct.ensures
