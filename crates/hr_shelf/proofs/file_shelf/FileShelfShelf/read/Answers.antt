use Rattle.std.proofs.Common.{Contains, ap, sym, subst}
use Rattle.hr_shelf.proofs.NameLists.{with_name_has, with_name_keeps}
use Rattle.hr_shelf.proofs.file_shelf.FileShelfShelf.read.Goals as goal

pub returns-in-Ok-clause-gets_ready : goal.returns-in-Ok-clause-gets_ready
returns-in-Ok-clause-gets_ready g c = rw c.in-Ok.ensures.readied (with_name_has c.self.inside.ready c.args.name.now)

pub returns-in-Ok-clause-stays_ready : goal.returns-in-Ok-clause-stays_ready
returns-in-Ok-clause-stays_ready g c = λ name ready.
    rw c.in-Ok.ensures.readied
    (with_name_keeps c.self.inside.ready c.args.name.now name (subst (λ names. Contains names name) (ap (λ s. s.ready) (sym c.self.view_is)) ready))
