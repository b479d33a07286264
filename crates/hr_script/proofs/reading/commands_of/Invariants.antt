use Rattle.std.proofs.Common.{length}
use Rattle.hr_script.specs.Progress.{Progress}
use Rattle.hr_script.proofs.reading.commands_of.Given as goal

abbrev pub invariant-loop-line : goal.invariant-loop-line
invariant-loop-line l = Progress l.fn.bytes l.rest l.number l.commands.items

abbrev pub decreases-loop-line : goal.decreases-loop-line
decreases-loop-line l = length l.rest
