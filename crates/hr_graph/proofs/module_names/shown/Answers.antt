use Rattle.std.proofs.Common.{◌∙◌, ◌++◌, ◌∷◌, [], ap}
use Rattle.hr_graph.proofs.NameSteps.{shown_more}
use Rattle.hr_graph.proofs.module_names.shown.Goals as goal

pub loop-place-preserved : goal.loop-place-preserved
loop-place-preserved c =
    c.in_ok-push.ensures.items ∙ ap (λ l. l ++ c.in_ok-copy_of.field-0 ∷ []) c.loop-place.invariant
    ∙ shown_more c.args.names.now c.args.places.now c.loop-place.place-index c.index-names-place.result c.in_ok-copy_of.field-0 c.loop-place-test.true c.index-names-place.is
    (c.requires c.loop-place.place-index 0 c.loop-place-test.true) c.in_ok-copy_of.ensures
