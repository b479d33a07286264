use Rattle.std.proofs.Common.{◌++◌, ◌∷◌, [], subst, sym, take, get_or}
use Rattle.std.proofs.lemmas.List.{take_more, take_all}
use Rattle.hr_graph.specs.Groups.{AreLinks}
use Rattle.hr_graph.proofs.GroupSteps.{links_none, links_yes, links_no}
use Rattle.hr_graph.proofs.groups.between.Goals as goal
use Rattle.hr_graph.proofs.groups.between.Goals.{then-leasts-from+in_ok-push, else-leasts-from}

pub loop-from-init : goal.loop-from-init
loop-from-init c = links_none c.args.leasts.now _ c.new-links.ensures.items

pub loop-from-preserved : goal.loop-from-preserved
loop-from-preserved c =
    let leasts = c.args.leasts.now in
    let edges = c.args.edges.now in
    let i = c.loop-from.from-index in
    let e = get_or edges i (0, 0) in
    subst (λ es. AreLinks es leasts c.if-leasts-from.links.items) (sym (take_more edges i (0, 0) c.loop-from-test.true))
    (elim c.if-leasts-from.branch [
      | then-leasts-from+in_ok-push w ↦ subst (λ l. AreLinks (take i edges ++ e ∷ []) leasts l.items) (sym w.links-is)
          (subst (AreLinks (take i edges ++ e ∷ []) leasts) (sym w.in_ok-push.ensures.items) (links_yes (take i edges) leasts c.loop-from.links.items e c.loop-from.invariant w.if-leasts-from.true))
      | else-leasts-from w ↦ subst (λ l. AreLinks (take i edges ++ e ∷ []) leasts l.items) (sym w.links-is) (links_no (take i edges) leasts c.loop-from.links.items e c.loop-from.invariant w.if-leasts-from.false)
    ])

pub returns : goal.returns
returns c = subst (λ es. AreLinks es c.args.leasts.now c.loop-from.links.items) (take_all c.loop-from.from-index c.args.edges.now c.loop-from-test.false) c.loop-from.invariant
