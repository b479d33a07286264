use Rattle.std.proofs.Common.{◌≡◌, ◌<◌, ◌++◌, ◌∷◌, [], ◌∙◌, map, length, subst}
use Rattle.std.proofs.lemmas.List.{length-map}
use Rattle.std.specs.String.{string_bytes}
use Rattle.hr_files.specs.Replaced.{IsReadyChange, name_of}
use Rattle.hr_files.proofs.ReadMore.{named}
use Rattle.hr_files.proofs.RollMore.{ends_rolling, given_back, is_next, none_left, room_left, room_right, stayed_new}
use Rattle.hr_files.proofs.rolling.roll_back.Goals as goal

pub loop-file-preserved-in-Ok : goal.loop-file-preserved-in-Ok
loop-file-preserved-in-Ok g c =
    let change = c.in-Some.field-0 in
    let known = c.loop-file.invariant.0 in
    let left : c.loop-file.changes.items ≡ c.pop.new.self.items ++ change ∷ [] = rw c.in-Some.is at c.pop.ensures.items in
    let ready : IsReadyChange (g.S.Shelf.store c.loop-file.shelf).ready (map string_bytes c.args.names.now) change = is_next _ _ _ _ _ _ change _ known left in
    let within : change.file < length c.args.names.now = subst (λ n. change.file < n) (length-map c.args.names.now string_bytes) ready.0 in
    let is : c.as_str.result.now ≡ name_of (map string_bytes c.args.names.now) change =
    c.as_str.ensures.value ∙ named string_bytes c.args.names.now change.file c.index-names-file.result within c.index-names-file.is in
    let puts = rw (is, c.bytes.view_is) at c.in-Ok.ensures.puts in (
      given_back _ _ _ _ _ _ _ change _ known left puts c.in-Ok.ensures.stays_ready c.in-Ok.ensures.kept c.in-Ok.ensures.other_count c.in-Ok.ensures.counted,
      room_left _ _ _ change left c.loop-file.invariant.1,
    )

pub loop-file-preserved : goal.loop-file-preserved
loop-file-preserved g c =
    let change = c.in-Some.field-0 in
    let known = c.loop-file.invariant.0 in
    let left : c.loop-file.changes.items ≡ c.pop.new.self.items ++ change ∷ [] = rw c.in-Some.is at c.pop.ensures.items in
    let stayed : c.push_reserved.new.self.items ≡ c.loop-file.stayed.items ++ change.file ∷ [] = c.push_reserved.ensures.items in (
      rw stayed (stayed_new _ _ _ _ _ _ _ change _ known left c.in-Err.ensures.stays c.in-Err.ensures.stays_ready c.in-Err.ensures.cause c.in-Err.ensures.other_count c.in-Err.ensures.counted),
      room_right _ _ _ change _ _ _ left stayed c.push_reserved.ensures.capacity c.loop-file.invariant.1,
    )

pub returns-clause-puts : goal.returns-clause-puts
returns-clause-puts g c = ends_rolling _ _ _ _ _ _ c.loop-file.invariant.0 (none_left _ _ _ (rw c.in_default.is at c.pop.ensures.items) c.pop.ensures.rest (rw c.in_default.is at c.pop.ensures.cases).0)
