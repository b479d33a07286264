use Rattle.std.proofs.Common.{◌≡◌, ◌++◌, drop, true}
use Rattle.hr_edit.specs.Footprint.{touched_from}
use Rattle.hr_edit.proofs.footprints.touched.Given as goal

abbrev pub invariant-loop-drafted : goal.invariant-loop-drafted
invariant-loop-drafted l =
    (l.«module» ≡ l.draft.«module»)
    × (l.spots.items ++ touched_from l.«module» l.passed.next l.passed.follows l.passed.left.now (drop l.drafted-index l.draft.lexemes)
    ≡ l.initial.spots.items ++ touched_from l.«module» 0 true l.items l.draft.lexemes)
