-- The parts of the search fit together.
use Rattle.std.proofs.Common.{◌≡◌, ◌∙◌, sym, ap, length, subst}
use Rattle.std.proofs.lemmas.Result.{IfOk-weaker}
use Rattle.hr_graph.specs.Graph.{IsWithin, AreComponents}
use Rattle.hr_graph.specs.Strong.{AreLabels}
use Rattle.hr_graph.specs.Groups.{groups_of}
use Rattle.hr_graph.proofs.ComponentOrder.{IsCondensed, labels_small, leasts_small, order_small, ends_within, condensed, whole_links, links_below}
use Rattle.hr_graph.proofs.groups.components.Goals as goal

pub leasts-requires : goal.leasts-requires
leasts-requires c = labels_small c.args.nodes c.args.edges.now c.in_ok-labels.labels.items c.deref.result.now c.in_ok-labels.ensures c.deref.ensures.value

pub between-requires : goal.between-requires
between-requires c = ends_within c.args.nodes c.args.edges.now c.deref.result.now c.in_ok-leasts.leasts.items c.deref-2.result.now c.requires
    (subst (AreLabels c.args.nodes c.args.edges.now) (sym c.deref.ensures.value) c.in_ok-labels.ensures) c.in_ok-leasts.ensures c.deref-2.ensures.value

pub first_ready-requires : goal.first_ready-requires
first_ready-requires c = subst (IsWithin c.args.nodes) (sym c.deref-3.ensures.value)
    (links_below c.args.nodes c.args.edges.now c.in_ok-labels.labels.items c.deref.result.now c.in_ok-leasts.leasts.items c.deref-2.result.now c.in_ok-links.links.items
    c.requires c.in_ok-labels.ensures c.deref.ensures.value c.in_ok-leasts.ensures c.deref-2.ensures.value c.in_ok-links.ensures)

pub members-requires : goal.members-requires
members-requires c = leasts_small c.args.nodes c.args.edges.now c.deref.result.now c.in_ok-leasts.leasts.items c.deref-4.result.now
    (subst (AreLabels c.args.nodes c.args.edges.now) (sym c.deref.ensures.value) c.in_ok-labels.ensures) c.in_ok-leasts.ensures c.deref-4.ensures.value

pub filled_rows-requires : goal.filled_rows-requires
filled_rows-requires c = order_small c.args.nodes c.deref-3.result.now c.in_ok-order.order.items c.deref-6.result.now (length c.deref-5.result.now) c.in_ok-order.ensures.order c.deref-6.ensures.value
    (c.deref-5.ensures.len ∙ c.in_ok-rows.ensures.length ∙ ap length c.deref-4.ensures.value ∙ c.in_ok-leasts.ensures.long ∙ ap length c.deref.ensures.value ∙ c.in_ok-labels.ensures.long)

pub returns : goal.returns
returns c =
    let g : IsCondensed c.args.nodes c.args.edges.now c.in_ok-labels.labels.items c.in_ok-leasts.leasts.items c.in_ok-links.links.items c.in_ok-rows.rows.items
    = condensed c.args.nodes c.args.edges.now c.in_ok-labels.labels.items c.deref.result.now c.in_ok-leasts.leasts.items c.deref-2.result.now c.deref-4.result.now c.in_ok-links.links.items c.in_ok-rows.rows.items
    c.requires c.in_ok-labels.ensures c.deref.ensures.value c.in_ok-leasts.ensures c.deref-2.ensures.value c.in_ok-links.ensures c.deref-4.ensures.value c.in_ok-rows.ensures.members in
    IfOk-weaker c.filled_rows.result (λ groups. groups ≡ groups_of c.deref-5.result.now c.deref-6.result.now) (AreComponents c.args.nodes c.args.edges.now)
    (λ groups is. subst (AreComponents c.args.nodes c.args.edges.now) (sym (is ∙ ap (λ rows. groups_of rows c.deref-6.result.now) c.deref-5.ensures.value ∙ ap (groups_of c.in_ok-rows.rows.items) c.deref-6.ensures.value))
    (whole_links c.args.nodes c.args.edges.now c.in_ok-labels.labels.items c.in_ok-leasts.leasts.items c.in_ok-links.links.items c.deref-3.result.now c.in_ok-rows.rows.items c.in_ok-order.order.items
    g c.deref-3.ensures.value c.in_ok-order.ensures.order c.in_ok-order.ensures.all))
    c.filled_rows.ensures
