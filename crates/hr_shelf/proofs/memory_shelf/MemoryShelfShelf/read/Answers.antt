use Rattle.std.proofs.Common.{◌≡◌, true, is_some, Contains, ap, sym, ◌∙◌, rules}
use Rattle.std.specs.FinMap as map
use Rattle.std.specs.Option.{option_copied}
use Rattle.hr_shelf.proofs.FileMap.{key_of_has}
use Rattle.hr_shelf.proofs.memory_shelf.MemoryShelfShelf.read.Goals as goal

pub returns-clause-gets_ready : goal.returns-clause-gets_ready
returns-clause-gets_ready c =
    let has : is_some (map.get (map.from_entries c.self.inside.files.items) c.args.name.now) ≡ true =
    sym (ap is_some c.bytes.ensures) ∙ ap (λ o. is_some (option_copied o)) c.in_ok-bytes.ensures.ok_part in
    let ready : Contains (map.keys (map.from_entries c.self.inside.files.items)) c.args.name.now = key_of_has _ _ has in
    search (rules, ready)
