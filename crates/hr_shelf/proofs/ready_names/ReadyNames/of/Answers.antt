use Rattle.std.proofs.Common.{◌≡◌, ◌++◌, string_bytes, codes, ap, sym, ◌∙◌}
use Rattle.std.proofs.lemmas.List.Elements.{All-get_or}
use Rattle.std.specs.List.{list_any}
use Rattle.std.specs.Str.{bytes_eq}
use Rattle.hr_shelf.proofs.NameLists.{any_of_member}
use Rattle.hr_shelf.proofs.Scan.{located, named_is, first_of, name_at, within}
use Rattle.hr_shelf.proofs.ready_names.ReadyNames.of.Goals as goal

pub unwrap-place-requires : goal.unwrap-place-requires
unwrap-place-requires c =
    let place = located _ _ _ _ _ c.as_bytes.ensures.value c.deref.ensures.value c.place_named.ensures in
    let known = named_is c.args.name.now c.self.inside.list.items c.place_named.result place in
    sym known ∙ ap (list_any (bytes_eq c.args.name.now)) c.self.view_is ∙ any_of_member c.args.self.now c.args.name.now c.requires

pub returns : goal.returns
returns c =
    let place = located _ _ _ _ _ c.as_bytes.ensures.value c.deref.ensures.value c.place_named.ensures in
    let first = first_of c.args.name.now c.self.inside.list.items c.unwrap-place.result (place ∙ c.unwrap-place.ensures) in
    let named = name_at c.args.name.now c.self.inside.list.items c.unwrap-place.result c.index.result.now first in
    let below = within c.args.name.now c.self.inside.list.items c.unwrap-place.result first in
    let beside = All-get_or (λ e. string_bytes e.1.beside ≡ e.0 ++ codes ".hare") c.self.inside.list.items c.unwrap-place.result c.index.result.now below c.self.invariant in
    ap (λ e. string_bytes e.1.beside) c.index.ensures ∙ beside ∙ ap (λ n. n ++ codes ".hare") named
