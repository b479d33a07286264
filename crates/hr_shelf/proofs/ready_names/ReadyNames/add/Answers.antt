use Rattle.std.proofs.Common.{◌∙◌}
use Rattle.hr_shelf.proofs.NameLists.{adds_known, adds_new, same_names}
use Rattle.hr_shelf.proofs.Scan.{located, named_is}
use Rattle.hr_shelf.proofs.ready_names.ReadyNames.add.Goals as goal

pub returns-in-Some-clause-added : goal.returns-in-Some-clause-added
returns-in-Some-clause-added c =
    let place = located _ _ _ _ _ c.as_bytes.ensures.value c.deref.ensures.value c.place_named.ensures in
    let known = named_is c.args.name.now c.self.inside.list.items _ (place ∙ c.in-Some.is) in
    let same = same_names c.self.inside.list.items c.in-Some.place c.index_mut.result.now _ c.index_mut.ensures.value in
    rw (← c.self.view_is) (same ∙ adds_known _ _ known)

pub returns-clause-added : goal.returns-clause-added
returns-clause-added c =
    let place = located _ _ _ _ _ c.as_bytes.ensures.value c.deref.ensures.value c.place_named.ensures in
    let known = named_is c.args.name.now c.self.inside.list.items _ (place ∙ c.in_default.is) in
    rw (← c.self.view_is) (adds_new _ _ _ _ _ known (c.in_ok-name.ensures ∙ c.as_bytes-2.ensures.value) c.in_ok-push.ensures.items)
