use Rattle.std.proofs.Common.{◌∙◌, ◌<◌, [], length, map, get_or, subst, sym, ap}
use Rattle.std.specs.Prelude.{All, IfSome, IfNone}
use Rattle.hr_graph.specs.Cycle.{IsFirstOn, IsNumbered}
use Rattle.hr_graph.proofs.WholeOrder.{cycle_within, cycle_shown}
use Rattle.hr_graph.proofs.module_order.cycle_names.Goals as goal

pub least_cycle-requires-clause-first : goal.least_cycle-requires-clause-first
least_cycle-requires-clause-first c = subst (λ o. IfSome o (IsFirstOn c.args.edges.now)) c.in-Some.is c.in_ok-first.ensures.some

pub shown-requires : goal.shown-requires
shown-requires c = subst (All (λ v. v < length c.args.names.now)) (sym c.deref.ensures.value) (cycle_within (length c.args.names.now) c.args.edges.now c.in-Some.first c.in_ok-cycle.cycle.items c.requires c.in_ok-cycle.ensures)

pub returns-in_default-clause-none : goal.returns-in_default-clause-none
returns-in_default-clause-none c = subst (λ o. IfNone o (IsNumbered c.args.edges.now)) c.in_default.is c.in_ok-first.ensures.none

pub returns-clause-some : goal.returns-clause-some
returns-clause-some c = cycle_shown c.args.names.now c.args.edges.now c.in-Some.first c.in_ok-cycle.cycle.items c.in_ok-shown.shown c.in_ok-cycle.ensures (c.in_ok-shown.ensures ∙ ap (map (λ place. get_or c.args.names.now place [])) c.deref.ensures.value)
