-- From each node to the nearest of those to which it points, until the first comes again.
use Rattle.std.proofs.Common.{◌∙◌, ◌<◌, Some, length, subst, sym, ap}
use Rattle.hr_graph.specs.Cycle.{IsNearest}
use Rattle.hr_graph.proofs.ShortestCycle.{IsComing, left_of, begin_cycle, more_cycle, less_left, end_cycle, row_within, row_at, coming_at, coming_within, first_within}
use Rattle.hr_graph.proofs.cycle.least_cycle.Goals as goal

pub nearest-best-requires : goal.nearest-best-requires
nearest-best-requires c =
    let rows = c.in_ok-rows.rows.items in
    let first = c.args.first in
    let row = row_at c.args.nodes c.args.edges.now rows c.as_slice.result.now c.index.result.now first c.in_ok-rows.ensures (first_within c.args.nodes c.args.edges.now first c.requires.within c.requires.first) c.index.ensures c.as_slice.ensures in
    row_within c.args.nodes c.args.edges.now rows c.as_slice.result.now first (length c.deref.result.now) c.requires.within c.in_ok-rows.ensures row (ap length c.deref.ensures.value ∙ c.in_ok-steps.ensures.long)

pub loop-best-init : goal.loop-best-init
loop-best-init c =
    let rows = c.in_ok-rows.rows.items in
    let first = c.args.first in
    let row = row_at c.args.nodes c.args.edges.now rows c.as_slice.result.now c.index.result.now first c.in_ok-rows.ensures (first_within c.args.nodes c.args.edges.now first c.requires.within c.requires.first) c.index.ensures c.as_slice.ensures in
    let near : IsNearest c.as_slice.result.now c.in_ok-steps.steps.items c.nearest-best.result = subst (λ steps. IsNearest c.as_slice.result.now steps c.nearest-best.result) c.deref.ensures.value c.nearest-best.ensures in
    begin_cycle c.args.nodes c.args.edges.now rows c.in_ok-steps.steps.items first c.as_slice.result.now _ _ c.requires.first c.in_ok-rows.ensures c.in_ok-steps.ensures row near c.in_ok-cycle.ensures.items

pub returns-then-node-first : goal.returns-then-node-first
returns-then-node-first c =
    end_cycle c.args.nodes c.args.edges.now c.in_ok-steps.steps.items c.args.first c.loop-best.cycle.items c.in-Some.field-0-0 c.in-Some.node c.requires.first c.in_ok-steps.ensures
    (coming_at _ _ _ _ c.loop-best.best (c.in-Some.field-0-0, c.in-Some.node) c.in-Some.is c.loop-best.invariant) c.if-node-first.true

pub nearest-best-requires-in-Some : goal.nearest-best-requires-in-Some
nearest-best-requires-in-Some c =
    let rows = c.in_ok-rows.rows.items in
    let node = c.in-Some.node in
    let coming : IsComing c.args.edges.now c.in_ok-steps.steps.items c.args.first c.loop-best.cycle.items (Some (c.in-Some.field-0-0, node)) = coming_at _ _ _ _ c.loop-best.best (c.in-Some.field-0-0, node) c.in-Some.is c.loop-best.invariant in
    let row = row_at c.args.nodes c.args.edges.now rows c.as_slice-in-Some.result.now c.index-in-Some.result.now node c.in_ok-rows.ensures
    (coming_within c.args.nodes c.args.edges.now c.in_ok-steps.steps.items c.args.first c.loop-best.cycle.items c.in-Some.field-0-0 node c.in_ok-steps.ensures coming) c.index-in-Some.ensures c.as_slice-in-Some.ensures in
    row_within c.args.nodes c.args.edges.now rows c.as_slice-in-Some.result.now node (length c.deref-in-Some.result.now) c.requires.within c.in_ok-rows.ensures row (ap length c.deref-in-Some.ensures.value ∙ c.in_ok-steps.ensures.long)

pub loop-best-smaller : goal.loop-best-smaller
loop-best-smaller c =
    let rows = c.in_ok-rows.rows.items in
    let node = c.in-Some.node in
    let coming : IsComing c.args.edges.now c.in_ok-steps.steps.items c.args.first c.loop-best.cycle.items (Some (c.in-Some.field-0-0, node)) = coming_at _ _ _ _ c.loop-best.best (c.in-Some.field-0-0, node) c.in-Some.is c.loop-best.invariant in
    let row = row_at c.args.nodes c.args.edges.now rows c.as_slice-in-Some.result.now c.index-in-Some.result.now node c.in_ok-rows.ensures
    (coming_within c.args.nodes c.args.edges.now c.in_ok-steps.steps.items c.args.first c.loop-best.cycle.items c.in-Some.field-0-0 node c.in_ok-steps.ensures coming) c.index-in-Some.ensures c.as_slice-in-Some.ensures in
    let near : IsNearest c.as_slice-in-Some.result.now c.in_ok-steps.steps.items c.nearest-best-in-Some.result = subst (λ steps. IsNearest c.as_slice-in-Some.result.now steps c.nearest-best-in-Some.result) c.deref-in-Some.ensures.value c.nearest-best-in-Some.ensures in
    subst (λ b. left_of c.nearest-best-in-Some.result < left_of b) (sym c.in-Some.is)
    (less_left c.args.nodes c.args.edges.now rows c.in_ok-steps.steps.items c.args.first c.loop-best.cycle.items c.as_slice-in-Some.result.now c.in-Some.field-0-0 node c.nearest-best-in-Some.result c.in_ok-rows.ensures c.in_ok-steps.ensures coming c.if-node-first.false row near)

pub loop-best-preserved : goal.loop-best-preserved
loop-best-preserved c =
    let rows = c.in_ok-rows.rows.items in
    let node = c.in-Some.node in
    let coming : IsComing c.args.edges.now c.in_ok-steps.steps.items c.args.first c.loop-best.cycle.items (Some (c.in-Some.field-0-0, node)) = coming_at _ _ _ _ c.loop-best.best (c.in-Some.field-0-0, node) c.in-Some.is c.loop-best.invariant in
    let row = row_at c.args.nodes c.args.edges.now rows c.as_slice-in-Some.result.now c.index-in-Some.result.now node c.in_ok-rows.ensures
    (coming_within c.args.nodes c.args.edges.now c.in_ok-steps.steps.items c.args.first c.loop-best.cycle.items c.in-Some.field-0-0 node c.in_ok-steps.ensures coming) c.index-in-Some.ensures c.as_slice-in-Some.ensures in
    let near : IsNearest c.as_slice-in-Some.result.now c.in_ok-steps.steps.items c.nearest-best-in-Some.result = subst (λ steps. IsNearest c.as_slice-in-Some.result.now steps c.nearest-best-in-Some.result) c.deref-in-Some.ensures.value c.nearest-best-in-Some.ensures in
    more_cycle c.args.nodes c.args.edges.now rows c.in_ok-steps.steps.items c.args.first c.loop-best.cycle.items _ c.as_slice-in-Some.result.now c.in-Some.field-0-0 node c.nearest-best-in-Some.result c.in_ok-rows.ensures c.in_ok-steps.ensures coming c.if-node-first.false row near c.in_ok-push.ensures.items
