use Rattle.std.proofs.Common.{◌≡◌, ◌++◌, drop}
use Rattle.hr_rename_target.specs.Target.{target_from}
use Rattle.hr_rename_target.proofs.target.target_of.Given as goal

abbrev pub invariant-loop-number : goal.invariant-loop-number
invariant-loop-number l =
    l.target.items ++ target_from l.renamed.binder.now l.renamed.new.now l.bindings.modules l.«module» l.number (drop l.number l.items)
    ≡ target_from l.renamed.binder.now l.renamed.new.now l.bindings.modules l.«module» 0 l.items
