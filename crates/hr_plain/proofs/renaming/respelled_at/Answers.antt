use Rattle.std.proofs.Common.{ap, sym, length, ◌∙◌}
use Rattle.hr_plain.proofs.Lengths.{length_marks}
use Rattle.hr_plain.proofs.renaming.respelled_at.Goals as goal

pub respelled-requires : goal.respelled-requires
respelled-requires c =
    ap length (c.as_slice.ensures.value ∙ c.in_ok-marks.ensures) ∙ length_marks _ _ _ _ ∙ ap (λ i. length i.list) (sym c.requires)
