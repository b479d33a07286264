use Rattle.std.proofs.Common.{◌++◌, ◌+◌, drop, ap, sym, ◌∙◌, append_assoc}
use Rattle.std.proofs.lemmas.List.{at_drop_more}
use Rattle.std.specs.Prelude.{slice_get}
use Rattle.hr_files.specs.Replaced.{change_at, changes_from}
use Rattle.hr_files.proofs.replacing.changes.Goals as goal

pub loop-file-preserved : goal.loop-file-preserved
loop-file-preserved c =
    let done = c.loop-file.changes.items in
    let file = c.loop-file.file in
    let rest = changes_from c.args.news.now (file + 1) (drop (file + 1) c.args.olds.now) in
    let step = at_drop_more (λ left. done ++ changes_from c.args.news.now file left) c.args.olds.now file c.index-olds-file.result c.loop-file-test.true in
    ap (λ front. front ++ rest) (c.in_ok-add_change.ensures ∙ ap (λ new. done ++ change_at file c.index-olds-file.result new) c.text_at.ensures)
    ∙ append_assoc done (change_at file c.index-olds-file.result (slice_get c.args.news.now file)) rest
    ∙ ap (λ old. done ++ (change_at file old (slice_get c.args.news.now file) ++ rest)) c.index-olds-file.is
    ∙ sym step ∙ c.loop-file.invariant
