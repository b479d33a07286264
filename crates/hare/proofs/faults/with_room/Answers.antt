use Rattle.std.proofs.Common.{◌++◌, ◌∙◌, ◌+◌, append_assoc, ap, drop, map, sym}
use Rattle.std.proofs.lemmas.List.{at_drop_more}
use Rattle.std.specs.Prelude.{codes}
use Rattle.std.specs.String.{string_bytes}
use Rattle.hr_files.specs.Replaced.{name_of}
use Rattle.hare.specs.Report.{line, stayed_line, write_line}
use Rattle.hare.specs.Rooms.{longest_lines}
use Rattle.hare.proofs.faults.with_room.Goals as goal

pub loop-change-init : goal.loop-change-init
loop-change-init c =
    let rest = longest_lines (map (λ change. name_of (map string_bytes c.args.files.now) change) c.args.changes.now) in
    ap (λ front. front ++ rest) (c.in_ok-extend_line.ensures ∙ ap (λ front. front ++ line (codes "rolled back")) c.in_ok-text.ensures.items)
    ∙ append_assoc c.args.told.now (line (codes "rolled back")) rest

pub loop-change-preserved : goal.loop-change-preserved
loop-change-preserved c =
    let names = map string_bytes c.args.files.now in
    let text = c.loop-change.text.items in
    let name = c.name_at-name.result.now in
    let rest = longest_lines (map (λ change. name_of names change) (drop (c.loop-change.change-index + 1) c.args.changes.now)) in
    let step = at_drop_more (λ left. text ++ longest_lines (map (λ change. name_of names change) left)) c.args.changes.now c.loop-change.change-index c.change-item.result c.loop-change-test.true in
    ap (λ front. front ++ rest) (c.in_ok-extend_line-3.ensures ∙ ap (λ front. front ++ stayed_line name) c.in_ok-extend_line-2.ensures ∙ append_assoc text (write_line name) (stayed_line name))
    ∙ append_assoc text (write_line name ++ stayed_line name) rest
    ∙ ap (λ file. text ++ ((write_line file ++ stayed_line file) ++ rest)) (c.name_at-name.ensures ∙ ap (name_of names) c.change-item.is)
    ∙ sym step ∙ c.loop-change.invariant
