use Rattle.std.proofs.Common.{◌≡◌, drop, replicate, false}
use Rattle.hr_step.specs.Kept.{marked_by}
use Rattle.hr_step.proofs.kept.kept_marks.Given as goal

abbrev pub invariant-loop-drafted : goal.invariant-loop-drafted
invariant-loop-drafted l = marked_by l.marks.items (drop l.drafted-index l.draft) ≡ marked_by (replicate l.lexemes false) l.draft
