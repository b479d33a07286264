use Rattle.std.proofs.Common.{◌∙◌, sym, refl}
use Rattle.hr_graph.proofs.NameSteps.{repeat_refused, places_more, distinct_more, unseen_name}
use Rattle.hr_graph.proofs.module_names.places.Goals as goal

pub returns-then-contains_key-clause-refused : goal.returns-then-contains_key-clause-refused
returns-then-contains_key-clause-refused c =
    repeat_refused c.args.names.now c.loop-place.place c.index-names-place.result c.loop-place.places c.duplicate.result
    c.loop-place.invariant.places c.loop-place.invariant.distinct c.loop-place-test.true c.index-names-place.is (sym c.contains_key.ensures ∙ c.if-contains_key.true) c.duplicate.ensures

pub loop-place-preserved : goal.loop-place-preserved
loop-place-preserved c =
    let i = c.loop-place.invariant in
    let name = c.index-names-place.result in
    let fresh = unseen_name _ name c.loop-place.places i.places (sym c.contains_key.ensures ∙ c.if-contains_key.false) in
    record {
      places = places_more c.args.names.now c.loop-place.place name name c.loop-place.places _ i.places c.loop-place-test.true c.index-names-place.is refl c.in-Ok.ensures;
      distinct = distinct_more c.args.names.now c.loop-place.place name i.distinct c.loop-place-test.true c.index-names-place.is fresh;
    }
