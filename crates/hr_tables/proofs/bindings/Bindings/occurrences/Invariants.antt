use Rattle.std.proofs.Common.{◌≡◌, ◌++◌, drop}
use Rattle.hr_tables.specs.Bindings.{all_spots}
use Rattle.hr_tables.proofs.bindings.Bindings.occurrences.Given as goal

abbrev pub invariant-loop-module : goal.invariant-loop-module
invariant-loop-module l = l.spots.items ++ all_spots l.binder l.«module» (drop l.«module» l.self.modules) ≡ all_spots l.binder 0 l.self.modules
