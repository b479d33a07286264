use Rattle.std.proofs.Common.{◌≡◌, drop, Some}
use Rattle.hr_step.specs.Trivia.{stays_from}
use Rattle.hr_step.proofs.trivia.does_trivia_stay.Given as goal

abbrev pub invariant-loop-drafted : goal.invariant-loop-drafted
invariant-loop-drafted l =
    stays_from l.old l.behind (drop l.drafted-index l.draft) l.left l.new.tail
    ≡ stays_from l.old (Some 0) l.draft l.new.list l.new.tail
