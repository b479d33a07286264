use Rattle.std.proofs.Common.{◌≡◌, ◌++◌, drop, map}
use Rattle.hr_step.specs.Kept.{is_kept}
use Rattle.hr_step.proofs.kept.kept_before_new.Given as goal

abbrev pub invariant-loop-drafted : goal.invariant-loop-drafted
invariant-loop-drafted l = l.marks.items ++ map is_kept (drop l.drafted-index l.draft) ≡ map is_kept l.draft
