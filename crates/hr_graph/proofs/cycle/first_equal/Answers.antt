use Rattle.std.proofs.Common.{◌++◌, ◌∷◌, Some, [], take, get_or, subst, sym, ◌∙◌, ap}
use Rattle.std.proofs.lemmas.List.{take_more, take_all}
use Rattle.hr_graph.specs.Cycle.{IsFirstEqual}
use Rattle.hr_graph.proofs.CycleSteps.{equal_yes, equal_no}
use Rattle.hr_graph.proofs.cycle.first_equal.Goals as goal
use Rattle.hr_graph.proofs.cycle.first_equal.Goals.{then-numbers-from, else-numbers-from}

pub loop-from-preserved : goal.loop-from-preserved
loop-from-preserved c =
    let numbers = c.args.numbers.now in
    let edges = c.args.edges.now in
    let i = c.loop-from.from-index in
    let e = get_or edges i (0, 0) in
    subst (λ es. IsFirstEqual numbers es c.if-numbers-from.first) (sym (take_more edges i (0, 0) c.loop-from-test.true))
    (elim c.if-numbers-from.branch [
      | then-numbers-from w ↦ subst (λ f. IsFirstEqual numbers (take i edges ++ e ∷ []) f) (sym (w.first-is ∙ ap Some w.earlier.ensures)) (equal_yes numbers (take i edges) c.loop-from.first e w.if-numbers-from.true c.loop-from.invariant)
      | else-numbers-from w ↦ subst (λ f. IsFirstEqual numbers (take i edges ++ e ∷ []) f) (sym w.first-is) (equal_no numbers (take i edges) c.loop-from.first e w.if-numbers-from.false c.loop-from.invariant)
    ])

pub returns : goal.returns
returns c = subst (λ es. IsFirstEqual c.args.numbers.now es c.loop-from.first) (take_all c.loop-from.from-index c.args.edges.now c.loop-from-test.false) c.loop-from.invariant
