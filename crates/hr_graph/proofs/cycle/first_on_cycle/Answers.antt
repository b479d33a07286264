use Rattle.std.proofs.Common.{◌∙◌, subst, sym, ap, length}
use Rattle.hr_graph.specs.Graph.{IsWithin}
use Rattle.hr_graph.specs.Cycle.{IsFirstEqual}
use Rattle.hr_graph.proofs.CycleSteps.{found_none, found_some}
use Rattle.hr_graph.proofs.cycle.first_on_cycle.Goals as goal

pub first_equal-requires : goal.first_equal-requires
first_equal-requires c = subst (λ n. IsWithin n c.args.edges.now) (sym (ap length c.deref.ensures.value ∙ c.in_ok-labels.ensures.long)) c.requires

pub returns-clause-none : goal.returns-clause-none
returns-clause-none c = found_none c.args.nodes c.args.edges.now c.in_ok-labels.labels.items c.first_equal.result c.in_ok-labels.ensures
    (subst (λ labels. IsFirstEqual labels c.args.edges.now c.first_equal.result) c.deref.ensures.value c.first_equal.ensures)

pub returns-clause-some : goal.returns-clause-some
returns-clause-some c = found_some c.args.nodes c.args.edges.now c.in_ok-labels.labels.items c.first_equal.result c.requires c.in_ok-labels.ensures
    (subst (λ labels. IsFirstEqual labels c.args.edges.now c.first_equal.result) c.deref.ensures.value c.first_equal.ensures)
