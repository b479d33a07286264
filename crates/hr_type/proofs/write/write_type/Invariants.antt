use Rattle.std.proofs.Common.{◌≡◌, ◌++◌}
use Rattle.hr_type.specs.Jobs.{load, pending}
use Rattle.hr_type.specs.Spelling as spec
use Rattle.hr_type.proofs.write.write_type.Given as goal

abbrev pub invariant-loop-job : goal.invariant-loop-job
invariant-loop-job l = l.out.items ++ pending l.scope l.jobs.items ≡ l.initial.out.items ++ spec.bytes_of (spec.written l.scope l.ty).pieces

abbrev pub decreases-loop-job : goal.decreases-loop-job
decreases-loop-job l = load l.jobs.items
