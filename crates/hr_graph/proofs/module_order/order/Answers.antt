use Rattle.std.proofs.Common.{length, subst, sym}
use Rattle.hr_graph.specs.Graph.{IsWithin}
use Rattle.hr_graph.proofs.WholeOrder.{edges_within, reading_order}
use Rattle.hr_graph.proofs.module_order.order.Goals as goal

pub cycle_names-requires : goal.cycle_names-requires
cycle_names-requires c = subst (IsWithin (length c.args.names.now)) (sym c.deref.ensures.value)
    (edges_within c.args.names.now c.args.imports.now c.in_ok-edges.edges.items c.requires c.in_ok-edges.ensures.edges)

pub first_ready-requires : goal.first_ready-requires
first_ready-requires c = subst (IsWithin (length c.args.names.now)) (sym c.deref-2.ensures.value)
    (edges_within c.args.names.now c.args.imports.now c.in_ok-edges.edges.items c.requires c.in_ok-edges.ensures.edges)

pub returns-clause-order : goal.returns-clause-order
returns-clause-order c =
    reading_order c.args.names.now c.args.imports.now c.in_ok-edges.edges.items c.deref.result.now c.deref-2.result.now c.in-Ok.cycle c.in-Ok-first_ready.order.items
    c.in_ok-places.ensures.distinct c.requires c.in_ok-edges.ensures.edges c.deref.ensures.value c.deref-2.ensures.value
    c.in-Ok.ensures.none c.in_default-cycle.is c.in-Ok-first_ready.ensures.order c.in-Ok-first_ready.ensures.all
