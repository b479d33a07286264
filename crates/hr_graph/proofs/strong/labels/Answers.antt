use Rattle.std.proofs.Common.{◌≡◌, ◌∙◌, ap, subst, sym, arith, map}
use Rattle.std.proofs.lemmas.Result.{IfOk-weaker}
use Rattle.hr_graph.specs.Strong.{HasTargets, AreLabels, label_in}
use Rattle.hr_graph.proofs.LabelSteps.{fresh_sound, targets_within, labels_done}
use Rattle.hr_graph.proofs.strong.labels.Goals as goal

pub loop-root-init : goal.loop-root-init
loop-root-init c = record {
  sound = fresh_sound c.in_ok-rows.rows.items c.args.nodes _ _ _ _ _ c.in_ok-rows.ensures.length_is c.in_ok-search.ensures;
  empty = c.in_ok-search.ensures.starts_are;
  seen = λ v lt. absurd (omega (arith, lt));
}

pub visit-requires-clause-targets : goal.visit-requires-clause-targets
visit-requires-clause-targets c = subst HasTargets (sym c.deref.ensures.value) (targets_within c.args.nodes c.args.edges.now c.in_ok-rows.rows.items c.in_ok-rows.ensures c.requires)

pub returns : goal.returns
returns c =
    let i = c.loop-root.invariant in
    IfOk-weaker c.labels_in.result (λ labels. labels.items ≡ map label_in c.deref-2.result.now) (λ labels. AreLabels c.args.nodes c.args.edges.now labels.items)
    (λ labels is. subst (λ xs. AreLabels c.args.nodes c.args.edges.now xs) (sym (is ∙ ap (map label_in) c.deref-2.ensures.value))
    (labels_done c.args.nodes c.args.edges.now c.in_ok-rows.rows.items _ _ _ _ _ c.in_ok-rows.ensures c.requires i.sound i.empty (λ v lt. i.seen v (omega arith))))
    c.labels_in.ensures
