use Rattle.std.proofs.Common.{◌≡◌, ◌<◌, ◌≤◌, ℕ, [], drop}
use Rattle.std.specs.Prelude.{Contains}
use Rattle.hr_graph.proofs.AgendaSteps.{IsAgenda, undone}
use Rattle.hr_graph.proofs.ready.first_ready.Given as goal

abbrev pub invariant-loop-node : goal.invariant-loop-node
invariant-loop-node l = IsAgenda (λ u. l.node ≤ u) l.nodes l.edges l.agenda.left.items l.agenda.waiting.items l.agenda.done.items l.agenda.ready.keys []

abbrev pub invariant-loop-waiter : goal.invariant-loop-waiter
invariant-loop-waiter l = record {
  keeps : IsAgenda (λ u. Contains (drop l.waiter-index l.waiter-items) u) l.nodes l.edges l.agenda.left.items l.agenda.waiting.items l.agenda.done.items l.agenda.ready.keys l.order.items;
  same : l.agenda.done.items ≡ l.initial.agenda.done.items;
  fresh : (u : ℕ) → Contains l.waiter-items u → (u < l.nodes) × (Contains l.order.items u → ⊥);
}

abbrev pub invariant-loop-next : goal.invariant-loop-next
invariant-loop-next l = IsAgenda (λ _. ⊥) l.nodes l.edges l.agenda.left.items l.agenda.waiting.items l.agenda.done.items l.agenda.ready.keys l.order.items

abbrev pub decreases-loop-next : goal.decreases-loop-next
decreases-loop-next l = undone l.agenda.done.items
