use Rattle.std.proofs.Common.{◌≡◌, ◌++◌, drop}
use Rattle.hr_edit.specs.Footprint.{spots_of}
use Rattle.hr_edit.proofs.footprints.add_spots.Given as goal

abbrev pub invariant-loop-offset : goal.invariant-loop-offset
invariant-loop-offset l =
    l.spots.items ++ spots_of l.«module» l.next l.offset (drop l.offset l.gone) ≡ l.initial.spots.items ++ spots_of l.«module» l.next 0 l.gone
