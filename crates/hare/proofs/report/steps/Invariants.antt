use Rattle.std.proofs.Common.{◌≡◌, ◌++◌, ◌+◌, drop}
use Rattle.hare.specs.Report.{step_lines}
use Rattle.hare.proofs.report.steps.Given as goal

abbrev pub invariant-loop-index : goal.invariant-loop-index
invariant-loop-index l = l.text.items ++ step_lines (l.index + 1) (drop l.index l.commands) l.left ≡ step_lines 1 l.commands l.lines
