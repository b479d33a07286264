use Rattle.hr_shelf.proofs.NameLists.{same_names}
use Rattle.hr_shelf.proofs.ready_names.ReadyNames.see.Goals as goal

pub returns-in-Some : goal.returns-in-Some
returns-in-Some c = rw (← c.self.view_is) (same_names c.self.inside.list.items c.in-Some.place c.index_mut.result.now _ c.index_mut.ensures.value)
