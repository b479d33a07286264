use Rattle.std.proofs.Common.{◌≡◌, ◌++◌, drop}
use Rattle.hr_step.specs.Names.{targets_from}
use Rattle.hr_step.proofs.names.targets_of.Given as goal

abbrev pub invariant-loop-module : goal.invariant-loop-module
invariant-loop-module l =
    l.targets.items ++ targets_from l.«module» l.left (drop l.«module» l.old.modules) ≡ targets_from 0 l.drafts l.old.modules
