use Rattle.std.proofs.Common.{◌≡◌, [], Some, take}
use Rattle.hr_fixity.specs.Reader.{run}
use Rattle.hr_fixity.proofs.resolving.take_parts.Given as goal

abbrev pub invariant-loop-number : goal.invariant-loop-number
invariant-loop-number l = run l.seq.root 0 (take l.number l.seq.parts) [] ≡ Some l.stack
