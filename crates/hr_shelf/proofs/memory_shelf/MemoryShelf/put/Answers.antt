use Rattle.std.proofs.Common.{◌∙◌}
use Rattle.hr_shelf.proofs.FileMap.{sets, adds}
use Rattle.hr_shelf.proofs.Scan.{located}
use Rattle.hr_shelf.proofs.memory_shelf.MemoryShelf.put.Goals as goal

pub returns-in-Some-clause-puts : goal.returns-in-Some-clause-puts
returns-in-Some-clause-puts c =
    let place = located _ _ _ _ _ c.as_bytes.ensures.value c.deref.ensures.value c.place_named.ensures in
    let put = sets c.args.name.now c.self.inside.files.items c.in-Some.place c.index_mut.result.now c.args.bytes.items (place ∙ c.in-Some.is) c.index_mut.ensures.value in
    rw (← c.self.view_is, put)

pub returns-clause-puts : goal.returns-clause-puts
returns-clause-puts c =
    let place = located _ _ _ _ _ c.as_bytes.ensures.value c.deref.ensures.value c.place_named.ensures in
    let put = adds c.args.name.now c.self.inside.files.items c.push.new.self.items c.in_ok-name.name c.args.bytes.items (place ∙ c.in_default.is)
    (c.in_ok-name.ensures ∙ c.as_bytes-2.ensures.value) c.in_ok-push.ensures.items in
    rw (← c.self.view_is, put)
