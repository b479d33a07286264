use Rattle.std.proofs.Common.{◌≡◌, ◌<◌, sym, ◌∙◌, map, [], length, get_or, subst}
use Rattle.std.proofs.lemmas.List.{length-map}
use Rattle.std.specs.String.{string_bytes}
use Rattle.hr_shelf.specs.Outside.{IsReady}
use Rattle.hr_files.specs.Replaced.{IsReadyChange}
use Rattle.hr_files.proofs.ReadMore.{named}
use Rattle.hr_files.proofs.Progress.{Replacing}
use Rattle.hr_files.proofs.ReplaceMore.{next_ready, replace_more}
use Rattle.hr_files.proofs.replacing.replace_files.Goals as goal

pub replace-requires : goal.replace-requires
replace-requires g c =
    let left = subst (Replacing (map string_bytes c.args.names.now) c.args.changes.items (g.S.Shelf.store c.args.shelf.now) (g.S.Shelf.store c.loop-change.shelf) c.loop-change.done) c.in-Some.ensures.steps.0 c.loop-change.invariant in
    let ready : IsReadyChange (g.S.Shelf.store c.loop-change.shelf).ready (map string_bytes c.args.names.now) c.in-Some.change = next_ready _ _ _ _ _ _ _ left in
    let within : c.in-Some.change.file < length c.args.names.now = subst (λ n. c.in-Some.change.file < n) (length-map c.args.names.now string_bytes) ready.0 in
    let is : c.as_str.result.now ≡ get_or (map string_bytes c.args.names.now) c.in-Some.change.file [] =
    c.as_str.ensures.value ∙ named string_bytes c.args.names.now c.in-Some.change.file c.index-names-file.result within c.index-names-file.is in
    subst (IsReady (g.S.Shelf.store c.loop-change.shelf).ready) (sym is) ready.1

pub loop-change-preserved : goal.loop-change-preserved
loop-change-preserved g c =
    let left = subst (Replacing (map string_bytes c.args.names.now) c.args.changes.items (g.S.Shelf.store c.args.shelf.now) (g.S.Shelf.store c.loop-change.shelf) c.loop-change.done) c.in-Some.ensures.steps.0 c.loop-change.invariant in
    let ready : IsReadyChange (g.S.Shelf.store c.loop-change.shelf).ready (map string_bytes c.args.names.now) c.in-Some.change = next_ready _ _ _ _ _ _ _ left in
    let within : c.in-Some.change.file < length c.args.names.now = subst (λ n. c.in-Some.change.file < n) (length-map c.args.names.now string_bytes) ready.0 in
    let is : c.as_str.result.now ≡ get_or (map string_bytes c.args.names.now) c.in-Some.change.file [] =
    c.as_str.ensures.value ∙ named string_bytes c.args.names.now c.in-Some.change.file c.index-names-file.result within c.index-names-file.is in
    let puts = rw (is, c.bytes.view_is) at c.in-Ok.ensures.puts in
    replace_more _ _ _ _ _ _ c.in-Some.change _ left puts c.in-Ok.ensures.stays_ready c.in-Ok.ensures.kept c.in-Ok.ensures.other_count c.in-Ok.ensures.counted
