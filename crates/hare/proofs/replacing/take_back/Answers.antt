use Rattle.std.proofs.Common.{◌≡◌, ◌≤◌, ◌+◌, ◌++◌, ◌∙◌, [], ap, arith, get_or, length, map, subst, sym, vec_capacity, vec_len}
use Rattle.std.specs.String.{string_bytes}
use Rattle.hr_files.specs.RolledBack.{RollsBack}
use Rattle.hare.specs.Report.{write_fault}
use Rattle.hare.proofs.Ends.{calls_taken}
use Rattle.hare.proofs.Rooms.{room_enough}
use Rattle.hare.proofs.replacing.take_back.Goals as goal

pub add_fault-requires : goal.add_fault-requires
add_fault-requires g c =
    let names = map string_bytes c.args.files.now in
    let rolls = subst (λ list. RollsBack names (g.S.Shelf.store c.args.shelf.now).told list c.roll_back.new.stayed.items (g.S.Shelf.store c.roll_back.new.shelf).told) c.truncate.ensures.items c.roll_back.ensures.puts in
    let enough = room_enough names c.args.back.items c.args.refused _ _ _ c.requires.within rolls in
    let room = c.requires.room in
    let file : c.file_at-file.result ≡ get_or (map (λ change. change.file) c.args.back.items) c.args.refused 0 =
    c.file_at-file.ensures ∙ ap (λ list. get_or (map (λ change. change.file) list) c.args.refused 0) c.as_slice.ensures.value in
    subst (λ n. vec_len c.args.fault + length (write_fault (get_or names n []) (map (λ f. get_or names f []) c.as_slice-2.result.now)) ≤ vec_capacity c.args.fault) (sym file)
    (subst (λ list. vec_len c.args.fault + length (write_fault (get_or names (get_or (map (λ change. change.file) c.args.back.items) c.args.refused 0) []) (map (λ f. get_or names f []) list)) ≤ vec_capacity c.args.fault) (sym c.as_slice-2.ensures.value)
    (omega (arith, enough, room)))

pub returns : goal.returns
returns g c =
    let names = map string_bytes c.args.files.now in
    let file : c.file_at-file.result ≡ get_or (map (λ change. change.file) c.args.back.items) c.args.refused 0 =
    c.file_at-file.ensures ∙ ap (λ list. get_or (map (λ change. change.file) list) c.args.refused 0) c.as_slice.ensures.value in
    record {
      stayed = c.roll_back.new.stayed.items;
      told = subst (λ list. RollsBack names (g.S.Shelf.store c.args.shelf.now).told list c.roll_back.new.stayed.items (g.S.Shelf.store c.roll_back.new.shelf).told) c.truncate.ensures.items c.roll_back.ensures.puts;
      replaces = c.roll_back.ensures.cause;
      calls = calls_taken _ _ _ _ _ c.truncate.ensures.items c.roll_back.ensures.counted;
      text_is = c.add_fault.ensures ∙ ap (λ list. c.args.fault.items ++ write_fault (get_or names c.file_at-file.result []) (map (λ f. get_or names f []) list)) c.as_slice-2.ensures.value
          ∙ ap (λ n. c.args.fault.items ++ write_fault (get_or names n []) (map (λ f. get_or names f []) c.roll_back.new.stayed.items)) file;
    }
