use Rattle.std.proofs.Common.{◌∙◌, ◌+◌, sym, subst, take}
use Rattle.hr_graph.specs.Modules.{AreEdges}
use Rattle.hr_graph.proofs.NameSteps.{edges_more, unknown_refused}
use Rattle.hr_graph.proofs.module_names.edges.Goals as goal

pub returns-in_default-clause-refused : goal.returns-in_default-clause-refused
returns-in_default-clause-refused c =
    unknown_refused c.args.names.now c.args.imports.now c.loop-import.import-index c.import-item.result c.loop-import.edges.items c.args.places.now c.unknown.result
    c.loop-import.invariant c.loop-import-test.true c.import-item.is c.requires (sym c.get.ensures.value ∙ sym c.copied.ensures ∙ c.in_default.is) c.unknown.ensures

pub loop-import-preserved : goal.loop-import-preserved
loop-import-preserved c =
    subst (AreEdges c.args.names.now (take (c.loop-import.import-index + 1) c.args.imports.now)) (sym c.in-Ok.ensures.items)
    (edges_more c.args.names.now c.args.imports.now c.loop-import.import-index c.import-item.result c.in-Some.to c.loop-import.edges.items c.args.places.now
    c.loop-import.invariant c.loop-import-test.true c.import-item.is c.requires (sym (c.in-Some.ensures ∙ c.get.ensures.value)))
