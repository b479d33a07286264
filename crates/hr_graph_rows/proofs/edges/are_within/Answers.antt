use Rattle.std.proofs.Common.{◌<◌, ℕ, subst, arith}
use Rattle.std.proofs.lemmas.List.{take_all}
use Rattle.std.proofs.lemmas.List.Elements.{All-more}
use Rattle.hr_graph.specs.Graph.{IsWithin}
use Rattle.hr_graph_rows.proofs.edges.are_within.Goals as goal

pub loop-from-preserved : goal.loop-from-preserved
loop-from-preserved c =
    All-more (λ (e : ℕ × ℕ). (e.0 < c.args.nodes) × (e.1 < c.args.nodes)) c.args.edges.now c.loop-from.from-index (0, 0) c.loop-from-test.true c.loop-from.invariant (omega arith, omega arith)

pub returns : goal.returns
returns c = λ _. subst (IsWithin c.args.nodes) (take_all c.loop-from.from-index c.args.edges.now c.loop-from-test.false) c.loop-from.invariant
