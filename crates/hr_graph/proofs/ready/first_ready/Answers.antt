-- The agenda's invariant, over the first round and then over the nodes in order.
use Rattle.std.proofs.Common.{◌≡◌, ◌+◌, ◌<◌, ◌≤◌, [], length, drop, get_or, subst, sym, ◌∙◌, refl, inl, inr, arith}
use Rattle.std.specs.Prelude.{Contains}
use Rattle.std.proofs.lemmas.Bool.{cases_eq}
use Rattle.std.proofs.lemmas.List.{get_or_read}
use Rattle.std.proofs.lemmas.List.Elements.{Contains-get_or}
use Rattle.hr_graph.proofs.Members.{contains_none}
use Rattle.hr_graph.proofs.AgendaSteps.{agenda_targets, settled, settled_done, same_order, fresh_agenda, next_left, agenda_weaker, nothing_ready, ready_undone, undone, first_ready_in, released_known, put_next, none_left, empty_by}
use Rattle.hr_graph.proofs.ready.first_ready.Goals as goal

pub loop-node-init : goal.loop-node-init
loop-node-init c = fresh_agenda _ _ _ _ _ _ c.in_ok-agenda.ensures.left c.in_ok-agenda.ensures.waiting c.in_ok-agenda.ensures.done c.in_ok-agenda.ensures.ready

pub settle-requires-clause-within : goal.settle-requires-clause-within
settle-requires-clause-within c = omega (arith, c.loop-node.invariant.left_long)

pub settle-requires-clause-targets : goal.settle-requires-clause-targets
settle-requires-clause-targets c = λ v h.
    let keeps = c.loop-node.invariant in
    let lt : v < c.args.nodes = agenda_targets _ _ _ _ _ _ _ c.loop-node.node v c.requires keeps h in
    (omega (arith, keeps.done_long), omega (arith, keeps.waiting_long))

pub loop-node-preserved : goal.loop-node-preserved
loop-node-preserved c =
    let keeps = c.loop-node.invariant in
    settled_done _ _ _ _ _ _ _ _ _ c.settle.ensures.done
    (settled (λ u. c.loop-node.node ≤ u) (λ u. c.loop-node.node + 1 ≤ u) _ _ _ _ _ _ _ _ _ _ c.loop-node.node c.requires keeps c.in_ok-settle.ensures.settled c.loop-node-test.true
    (λ h. contains_none c.loop-node.node h)
    (λ u le. elim (cases_eq u c.loop-node.node) [ inl e ↦ inr e | inr ne ↦ inl (omega arith) ]))

pub loop-next-init : goal.loop-next-init
loop-next-init c =
    same_order _ _ _ _ _ _ _ _ _ c.new-order.ensures.items
    (agenda_weaker (λ u. c.loop-node.node ≤ u) (λ _. ⊥) _ _ _ _ _ _ _ (λ u lt le. omega (arith, c.loop-node-test.false)) c.loop-node.invariant)

pub index_mut-requires : goal.index_mut-requires
index_mut-requires c =
    let keeps = c.loop-next.invariant in
    let r = keeps.ready_is c.in-Some.next (first_ready_in _ _ c.in-Some.next c.in-Some.ensures.removal) in
    omega (arith, r.below, keeps.done_long)

pub index_mut-requires-in-Some : goal.index_mut-requires-in-Some
index_mut-requires-in-Some c =
    let keeps = c.loop-next.invariant in
    let r = keeps.ready_is c.in-Some.next (first_ready_in _ _ c.in-Some.next c.in-Some.ensures.removal) in
    omega (arith, r.below, keeps.waiting_long)

pub loop-waiter-init : goal.loop-waiter-init
loop-waiter-init c =
    let keeps = c.loop-next.invariant in
    let waiting = c.loop-next.agenda.waiting.items in
    let next = c.in-Some.next in
    let r = keeps.ready_is next (first_ready_in _ _ next c.in-Some.ensures.removal) in
    let within : next < length waiting = omega (arith, r.below, keeps.waiting_long) in
    let row : c.as_slice-waiter-items.result.now ≡ get_or waiting next []
    = c.as_slice-waiter-items.ensures ∙ c.replace-released.ensures.value ∙ get_or_read waiting next c.index_mut-in-Some.result.now within c.index_mut-in-Some.ensures.value [] in
    record {
      keeps = put_next _ _ _ _ _ _ _ _ _ _ _ next keeps c.in-Some.ensures.removal c.in-Some.ensures.all_above row c.in_ok-push.ensures.items (c.replace-released.ensures.after ∙ c.new-in-Some.ensures.items);
      same = refl;
      fresh = released_known _ _ _ _ _ _ _ _ _ _ next c.requires keeps c.in-Some.ensures.removal row c.in_ok-push.ensures.items;
    }

pub settle-requires-in-loop-waiter-clause-within : goal.settle-requires-in-loop-waiter-clause-within
settle-requires-in-loop-waiter-clause-within c =
    let i = c.loop-waiter.invariant in
    let lt = (i.fresh (get_or c.as_slice-waiter-items.result.now c.loop-waiter.waiter-index 0) (Contains-get_or c.as_slice-waiter-items.result.now c.loop-waiter.waiter-index 0 c.loop-waiter-test.true)).0 in
    omega (arith, i.keeps.left_long, lt)

pub settle-requires-in-loop-waiter-clause-targets : goal.settle-requires-in-loop-waiter-clause-targets
settle-requires-in-loop-waiter-clause-targets c = λ v h.
    let keeps = c.loop-waiter.invariant.keeps in
    let lt : v < c.args.nodes = agenda_targets _ _ _ _ _ _ _ _ v c.requires keeps h in
    (omega (arith, keeps.done_long), omega (arith, keeps.waiting_long))

pub loop-waiter-preserved : goal.loop-waiter-preserved
loop-waiter-preserved c =
    let i = c.loop-waiter.invariant in
    let items = c.as_slice-waiter-items.result.now in
    let node = get_or items c.loop-waiter.waiter-index 0 in
    let known = i.fresh node (Contains-get_or items c.loop-waiter.waiter-index 0 c.loop-waiter-test.true) in
    record {
      keeps = settled_done _ _ _ _ _ _ _ _ _ c.settle-in-loop-waiter.ensures.done
          (settled (λ u. Contains (drop c.loop-waiter.waiter-index items) u) (λ u. Contains (drop (c.loop-waiter.waiter-index + 1) items) u) _ _ _ _ _ _ _ _ _ _ node c.requires i.keeps c.in_ok-settle-2.ensures.settled known.0 known.1
          (λ u h. next_left items c.loop-waiter.waiter-index u c.loop-waiter-test.true h));
      same = c.settle-in-loop-waiter.ensures.done ∙ i.same;
      fresh = i.fresh;
    }

pub loop-next-smaller : goal.loop-next-smaller
loop-next-smaller c =
    let keeps = c.loop-next.invariant in
    subst (λ done. undone done < undone c.loop-next.agenda.done.items) (sym c.loop-waiter.invariant.same)
    (ready_undone _ _ _ _ _ _ _ c.in-Some.next keeps (first_ready_in _ _ c.in-Some.next c.in-Some.ensures.removal))

pub loop-next-preserved : goal.loop-next-preserved
loop-next-preserved c =
    agenda_weaker _ (λ _. ⊥) _ _ _ _ _ _ _ (λ u lt h. none_left c.as_slice-waiter-items.result.now c.loop-waiter.waiter-index u c.loop-waiter-test.false h) c.loop-waiter.invariant.keeps

pub returns-clause-order : goal.returns-clause-order
returns-clause-order c = c.loop-next.invariant.in_order

pub returns-clause-all : goal.returns-clause-all
returns-clause-all c = nothing_ready _ _ _ _ _ _ _ c.loop-next.invariant (empty_by c.loop-next.agenda.ready.keys c.in_default.ensures.variant.1)
