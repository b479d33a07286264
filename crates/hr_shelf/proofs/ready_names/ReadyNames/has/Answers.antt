use Rattle.std.proofs.Common.{ap, sym, ◌∙◌}
use Rattle.std.specs.List.{list_any}
use Rattle.std.specs.Str.{bytes_eq}
use Rattle.hr_shelf.proofs.Scan.{located, named_is}
use Rattle.hr_shelf.proofs.ready_names.ReadyNames.has.Goals as goal

pub returns : goal.returns
returns c =
    let place = located _ _ _ _ _ c.as_bytes.ensures.value c.deref.ensures.value c.place_named.ensures in
    let known = named_is c.args.name.now c.self.inside.list.items c.place_named.result place in
    c.is_some.ensures ∙ sym known ∙ ap (list_any (bytes_eq c.args.name.now)) c.self.view_is
