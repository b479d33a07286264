use Rattle.std.proofs.Common.{◌≡◌, ◌++◌, drop}
use Rattle.hr_rename.specs.Edits.{lists_from}
use Rattle.hr_rename.proofs.edits.lists_of.Given as goal

abbrev pub invariant-loop-module : goal.invariant-loop-module
invariant-loop-module l =
    l.lists.items ++ lists_from l.«module» l.spots (drop l.«module» l.modules) ≡ lists_from 0 l.spots l.modules
