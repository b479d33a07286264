use Rattle.std.proofs.Common.{◌≡◌, ◌++◌, drop}
use Rattle.hr_tables.specs.Bindings.{module_spots}
use Rattle.hr_tables.proofs.bindings.add_spots.Given as goal

abbrev pub invariant-loop-item : goal.invariant-loop-item
invariant-loop-item l =
    l.spots.items ++ module_spots l.binder l.«module» l.item (drop l.item l.entries)
    ≡ l.initial.spots.items ++ module_spots l.binder l.«module» 0 l.entries
