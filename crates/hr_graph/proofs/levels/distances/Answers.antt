-- The search goes against the edges, so by the rows of the graph that is turned round.
use Rattle.std.proofs.Common.{get_or, subst, sym, ◌∙◌, arith}
use Rattle.std.proofs.lemmas.List.Elements.{Contains-get_or}
use Rattle.hr_graph.specs.Graph.{IsWithin}
use Rattle.hr_graph.proofs.LevelSteps.{turned_within, start_levels, levels_done, some_within, ends_below, row_edge, edge_row, begin_looking, look, end_looking, row_of}
use Rattle.hr_graph.proofs.levels.distances.Goals as goal

pub successors-requires : goal.successors-requires
successors-requires c = subst (IsWithin c.args.nodes) (sym (c.deref.ensures.value ∙ c.in_ok-turned.ensures)) (turned_within c.args.nodes c.args.edges.now c.requires.within)

pub loop-next-init : goal.loop-next-init
loop-next-init c =
    let start = start_levels c.args.nodes c.args.edges.now c.args.goal _ _ _ _ c.requires.goal c.in_ok-levels.ensures.steps c.in_ok-levels.ensures.queue c.in_ok-reach.ensures in
    record { levels = start.0; long = start.1; past = omega arith }

pub index-requires-in-loop-next : goal.index-requires-in-loop-next
index-requires-in-loop-next c =
    let i = c.loop-next.invariant in
    let l = begin_looking _ _ _ _ _ _ c.index.result.now i.levels i.long (omega arith) c.index.ensures in
    let lt = some_within c.loop-next.levels.steps.items c.index.result.now.0 c.index.result.now.1 l.at in
    omega (arith, lt, i.long, c.in_ok-rows.ensures.length_is)

pub loop-before-init : goal.loop-before-init
loop-before-init c =
    let i = c.loop-next.invariant in
    begin_looking _ _ _ _ _ _ c.index.result.now i.levels i.long (omega arith) c.index.ensures

pub reach-requires-in-loop-before : goal.reach-requires-in-loop-before
reach-requires-in-loop-before c =
    let l = c.loop-before.invariant in
    let u = get_or c.as_slice-before-items.result.now c.loop-before.before-index 0 in
    let r = row_of c.args.nodes c.args.edges.now _ _ _ c.as_slice-before-items.result.now c.index-in-loop-next.result.now c.index.result.now.0 _ c.index.result.now.1
    c.in_ok-rows.ensures c.deref.ensures.value c.in_ok-turned.ensures l.at l.long c.index-in-loop-next.ensures c.as_slice-before-items.ensures in
    let edge = row_edge c.args.nodes c.args.edges.now c.in_ok-rows.rows.items c.as_slice-before-items.result.now u c.index.result.now.0 r.0 r.1 (Contains-get_or c.as_slice-before-items.result.now c.loop-before.before-index 0 c.loop-before-test.true) in
    let lt = (ends_below c.args.nodes c.args.edges.now u c.index.result.now.0 c.requires.within edge).0 in
    omega (arith, lt, l.long)

pub loop-before-preserved : goal.loop-before-preserved
loop-before-preserved c =
    let l = c.loop-before.invariant in
    let u = get_or c.as_slice-before-items.result.now c.loop-before.before-index 0 in
    let r = row_of c.args.nodes c.args.edges.now _ _ _ c.as_slice-before-items.result.now c.index-in-loop-next.result.now c.index.result.now.0 _ c.index.result.now.1
    c.in_ok-rows.ensures c.deref.ensures.value c.in_ok-turned.ensures l.at l.long c.index-in-loop-next.ensures c.as_slice-before-items.ensures in
    let edge = row_edge c.args.nodes c.args.edges.now c.in_ok-rows.rows.items c.as_slice-before-items.result.now u c.index.result.now.0 r.0 r.1 (Contains-get_or c.as_slice-before-items.result.now c.loop-before.before-index 0 c.loop-before-test.true) in
    look _ _ _ _ _ _ _ _ _ _ _ c.loop-before.before-index c.as_slice-before-items.result.now l c.loop-before-test.true edge
    (ends_below c.args.nodes c.args.edges.now u c.index.result.now.0 c.requires.within edge).0 c.in_ok-reach-2.ensures

pub loop-next-preserved : goal.loop-next-preserved
loop-next-preserved c =
    let l = c.loop-before.invariant in
    let r = row_of c.args.nodes c.args.edges.now _ _ _ c.as_slice-before-items.result.now c.index-in-loop-next.result.now c.index.result.now.0 _ c.index.result.now.1
    c.in_ok-rows.ensures c.deref.ensures.value c.in_ok-turned.ensures l.at l.long c.index-in-loop-next.ensures c.as_slice-before-items.ensures in
    record {
      levels = end_looking _ _ _ _ _ _ _ _ _ c.loop-before.before-index c.as_slice-before-items.result.now l c.loop-before-test.false (λ u edge. edge_row c.args.nodes c.args.edges.now c.in_ok-rows.rows.items c.as_slice-before-items.result.now u c.index.result.now.0 r.0 r.1 edge);
      long = l.long;
      past = omega (arith, l.within);
    }

pub returns : goal.returns
returns c = let i = c.loop-next.invariant in levels_done c.args.nodes c.args.edges.now c.args.goal _ _ _ _ i.levels (omega arith) i.long
