use Rattle.std.proofs.Common.{Some, ap, sym, ◌∙◌}
use Rattle.std.specs.FinMap as map
use Rattle.hr_shelf.proofs.FileMap.{lacks, holds}
use Rattle.hr_shelf.proofs.Scan.{located}
use Rattle.hr_shelf.proofs.memory_shelf.MemoryShelf.bytes.Goals as goal

pub returns-in_err-place : goal.returns-in_err-place
returns-in_err-place c =
    let place = located _ _ _ _ _ c.as_bytes.ensures.value c.deref.ensures.value c.place_named.ensures in
    let held = lacks c.args.name.now c.self.inside.files.items (place ∙ c.in_err-place.was) in
    let files = ap (λ s. s.files) c.self.view_is in
    cc

pub returns : goal.returns
returns c =
    let place = located _ _ _ _ _ c.as_bytes.ensures.value c.deref.ensures.value c.place_named.ensures in
    let held = holds c.args.name.now c.self.inside.files.items c.in_ok-place.place c.index.result.now (place ∙ c.in_ok-place.was) c.index.ensures in
    ap Some c.as_slice.ensures ∙ sym held ∙ ap (λ s. map.get s.files c.args.name.now) c.self.view_is
