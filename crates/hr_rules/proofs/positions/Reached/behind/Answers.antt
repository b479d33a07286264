use Rattle.std.proofs.Common.{◌∙◌, ap, drop, arith, rules}
use Rattle.hr_scan.specs.Characters.{cell_len}
use Rattle.hr_scan.proofs.Cells.{cell_len-pos}
use Rattle.hr_rules.specs.Counted.{counted, pos_of}
use Rattle.hr_rules.specs.Positions.{behind_front}
use Rattle.hr_rules.proofs.Behind.{behind_step, behind_end}
use Rattle.hr_rules.proofs.positions.Reached.behind.Goals as goal

pub loop-place-smaller : goal.loop-place-smaller
loop-place-smaller c =
    let long = c.cell_len-len.ensures ∙ ap cell_len c.character_at-cell.ensures.value in
    omega (arith, cell_len-pos (drop c.loop-place.place c.args.bytes.now), long)

pub loop-place-preserved : goal.loop-place-preserved
loop-place-preserved c = record {
  line_fits = search rules;
  col_fits = search rules;
  same = behind_step c.args.bytes.now c.loop-place.place c.cell_len-len.result c.loop-place.reached c.behind_cell-reached.result _ c.loop-place-test.true c.loop-place.invariant.same
      (c.cell_len-len.ensures ∙ ap cell_len c.character_at-cell.ensures.value)
      (c.behind_cell-reached.ensures ∙ ap (λ l. counted (behind_front (pos_of c.loop-place.reached) l)) c.split_at.ensures.back);
}

pub returns : goal.returns
returns c = behind_end c.args.bytes.now c.loop-place.place c.loop-place.reached _ c.loop-place-test.false c.loop-place.invariant.line_fits c.loop-place.invariant.col_fits c.loop-place.invariant.same
