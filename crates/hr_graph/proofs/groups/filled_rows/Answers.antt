use Rattle.std.proofs.Common.{◌≡◌, ◌∙◌, ◌++◌, ◌∷◌, [], length, take, get_or, ap, sym}
use Rattle.std.proofs.lemmas.List.{take_all, get_or_read}
use Rattle.hr_graph.specs.Groups.{groups_of}
use Rattle.hr_graph.proofs.ComponentOrder.{groups_none, groups_some, is_zero, not_zero}
use Rattle.hr_graph.proofs.groups.filled_rows.Goals as goal
use Rattle.hr_graph.proofs.groups.filled_rows.Goals.{then-not-is_empty+in_ok-from_slice+in_ok-push, else-not-is_empty}

pub loop-node-init : goal.loop-node-init
unfolding groups_of
loop-node-init c = c.new-list.ensures.items

pub loop-node-preserved : goal.loop-node-preserved
loop-node-preserved c =
    let rows = c.args.rows.now in
    let order = c.args.order.now in
    let i = c.loop-node.node-index in
    let row = c.as_slice-row.result.now in
    let is : row ≡ get_or rows (get_or order i 0) [] = c.as_slice-row.ensures ∙ get_or_read rows (get_or order i 0) c.index-rows-node.result (c.requires i 0 c.loop-node-test.true) c.index-rows-node.is [] in
    elim c.if-not-is_empty.branch [
      | then-not-is_empty+in_ok-from_slice+in_ok-push w ↦
          ap (λ l. l.items) w.list-is ∙ w.in_ok-push.ensures.items
          ∙ ap (λ l. l ++ w.in_ok-from_slice.field-0.items ∷ []) c.loop-node.invariant
          ∙ ap (λ r. groups_of rows (take i order) ++ r ∷ []) (w.in_ok-from_slice.ensures.items ∙ is)
          ∙ groups_some rows order i c.loop-node-test.true (λ none. not_zero (length row) w.if-not-is_empty.ensures (ap length is ∙ none))
      | else-not-is_empty w ↦
          ap (λ l. l.items) w.list-is ∙ c.loop-node.invariant ∙ groups_none rows order i c.loop-node-test.true (ap length (sym is) ∙ is_zero (length row) w.if-not-is_empty.ensures)
    ]

pub returns : goal.returns
returns c = c.loop-node.invariant ∙ ap (groups_of c.args.rows.now) (take_all c.loop-node.node-index c.args.order.now c.loop-node-test.false)
