use Rattle.std.proofs.Common.{◌≡◌, ◌++◌, drop}
use Rattle.hr_files.specs.RolledBack.{backs}
use Rattle.hr_files.proofs.rolling.backs.Given as goal

abbrev pub invariant-loop-change : goal.invariant-loop-change
invariant-loop-change l = l.backs.items ++ backs l.olds (drop l.change-index l.changes) ≡ backs l.olds l.changes
