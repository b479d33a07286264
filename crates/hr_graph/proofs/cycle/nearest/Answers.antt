use Rattle.std.proofs.Common.{◌++◌, ◌∷◌, [], take, get_or, subst, sym}
use Rattle.std.proofs.lemmas.List.{take_more, take_all}
use Rattle.hr_graph.specs.Cycle.{IsNearest}
use Rattle.hr_graph.proofs.CycleSteps.{nearest_some, nearest_none}
use Rattle.hr_graph.proofs.cycle.nearest.Goals as goal
use Rattle.hr_graph.proofs.cycle.nearest.Goals.{in-Some, in_default}

pub loop-node-preserved : goal.loop-node-preserved
loop-node-preserved c =
    let row = c.args.row.now in
    let steps = c.args.steps.now in
    let i = c.loop-node.node-index in
    let v = get_or row i 0 in
    subst (λ xs. IsNearest xs steps c.match-steps-node.best) (sym (take_more row i 0 c.loop-node-test.true))
    (elim c.match-steps-node.branch [
      | in-Some w ↦ subst (λ b. IsNearest (take i row ++ v ∷ []) steps b) (sym w.best-is) (nearest_some (take i row) steps c.loop-node.best v w.in-Some.count w.nearer.result c.loop-node.invariant w.in-Some.is w.nearer.ensures)
      | in_default w ↦ subst (λ b. IsNearest (take i row ++ v ∷ []) steps b) (sym w.best-is) (nearest_none (take i row) steps c.loop-node.best v c.loop-node.invariant w.in_default.is)
    ])

pub returns : goal.returns
returns c = subst (λ xs. IsNearest xs c.args.steps.now c.loop-node.best) (take_all c.loop-node.node-index c.args.row.now c.loop-node-test.false) c.loop-node.invariant
