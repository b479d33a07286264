use Rattle.std.proofs.Common.{◌≡◌, drop}
use Rattle.hr_rename_target.specs.Renamed.{are_read_from}
use Rattle.hr_rename_target.proofs.comparing.are_read.Given as goal

abbrev pub invariant-loop-module : goal.invariant-loop-module
invariant-loop-module l =
    are_read_from l.renamed.binder.now l.renamed.new.now l.before.bindings.now.modules l.«module» (drop l.«module» l.before.modules.now) l.left
    ≡ are_read_from l.renamed.binder.now l.renamed.new.now l.before.bindings.now.modules 0 l.before.modules.now l.fn.after
