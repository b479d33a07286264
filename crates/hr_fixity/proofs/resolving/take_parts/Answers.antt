use Rattle.std.proofs.Common.{◌≡◌, length, Some, List, subst, refl}
use Rattle.std.proofs.lemmas.Option.{slice_get_read}
use Rattle.std.specs.List.{slice_get}
use Rattle.hr_fixity.specs.declared.sequence.Part.{Part}
use Rattle.hr_fixity.proofs.Refusals.{run_more}
use Rattle.hr_fixity.proofs.resolving.take_parts.Goals as goal

pub loop-number-preserved : goal.loop-number-preserved
loop-number-preserved c =
    let items : List Part = c.as_slice-part-items.result.now in
    let there : slice_get items c.loop-number.number ≡ Some c.part-item.result = slice_get_read items (length items) c.loop-number.number c.part-item.result refl c.loop-number-test.true c.part-item.is in
    run_more c.args.seq.now.root c.args.seq.now.parts c.loop-number.number c.part-item.result c.loop-number.stack c.take_part.new.stack c.in_ok-take_part.field-0
    (subst (λ ps. slice_get ps c.loop-number.number ≡ Some c.part-item.result) c.as_slice-part-items.ensures there) c.loop-number.invariant c.in_ok-take_part.ensures c.if-not-branch.false
