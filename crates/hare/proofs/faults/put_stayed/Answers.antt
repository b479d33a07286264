use Rattle.std.proofs.Common.{◌++◌, ◌+◌, ◌∙◌, append_assoc, ap, arith, drop, get_or, [], length, map, sym}
use Rattle.std.specs.String.{string_bytes}
use Rattle.hare.specs.Report.{stayed_line, stayed_lines}
use Rattle.hare.proofs.Rooms.{next_length, next_line}
use Rattle.hare.proofs.faults.put_stayed.Goals as goal

pub put_line-requires : goal.put_line-requires
put_line-requires c =
    let names = map string_bytes c.args.files.now in
    let whole = next_length names c.args.stayed.now c.loop-index.index c.number_at.result c.loop-index-test.true c.number_at.ensures in
    let same = ap (λ name. length (stayed_line name)) c.name_at.ensures in
    let room = c.loop-index.invariant.1 in
    omega (arith, whole, same, room)

pub loop-index-preserved : goal.loop-index-preserved
loop-index-preserved c =
    let names = map string_bytes c.args.files.now in
    let text = c.loop-index.text.items in
    let rest = stayed_lines (map (λ file. get_or names file []) (drop (c.loop-index.index + 1) c.args.stayed.now)) in
    let step = next_line names c.args.stayed.now c.loop-index.index c.number_at.result c.loop-index-test.true c.number_at.ensures in
    let whole = next_length names c.args.stayed.now c.loop-index.index c.number_at.result c.loop-index-test.true c.number_at.ensures in
    let same = ap (λ name. length (stayed_line name)) c.name_at.ensures in
    let room = c.loop-index.invariant.1 in
    let len = c.put_line.ensures.len in
    let capacity = c.put_line.ensures.capacity in (
      ap (λ front. front ++ rest) c.put_line.ensures.items
          ∙ append_assoc text (stayed_line c.name_at.result.now) rest
          ∙ ap (λ name. text ++ (stayed_line name ++ rest)) c.name_at.ensures
          ∙ ap (λ lines. text ++ lines) (sym step)
          ∙ c.loop-index.invariant.0,
      omega (arith, whole, same, room, len, capacity),
    )
