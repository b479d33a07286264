use Rattle.std.proofs.Common.{◌∙◌, ◌++◌, ap, drop, arith}
use Rattle.hr_scan.specs.Characters.{cell_len, cells}
use Rattle.hr_scan.specs.Columns.{columns_from}
use Rattle.hr_scan.proofs.ColumnSteps.{columns_grow, columns_end}
use Rattle.hr_scan.proofs.Cells.{cell_len-pos}
use Rattle.hr_scan.proofs.column.columns.Goals as goal

pub loop-place-smaller : goal.loop-place-smaller
loop-place-smaller c =
    let long = c.cell_len-len.ensures ∙ ap cell_len c.character_at-cell.ensures.value in
    omega (arith, cell_len-pos (drop c.loop-place.place c.args.line.now), long)

pub loop-place-preserved : goal.loop-place-preserved
loop-place-preserved c =
    columns_grow c.args.line.now c.loop-place.columns.items c.push_times.new.columns.items _ c.loop-place.place c.in-Ok.column c.next_column-next.result c.cell_len-len.result c.character_at-cell.result
    c.loop-place-test.true
    (ap (λ n. c.loop-place.columns.items ++ columns_from n (cells (drop c.loop-place.place c.args.line.now))) c.in-Ok.ensures.1 ∙ c.loop-place.invariant)
    c.character_at-cell.ensures.value c.cell_len-len.ensures c.next_column-next.ensures c.in_ok-push_times.ensures

pub returns : goal.returns
returns c =
    columns_end c.args.line.now c.loop-place.columns.items _ c.loop-place.place c.loop-place.next c.loop-place-test.false c.loop-place.invariant
