use Rattle.std.proofs.Common.{◌+◌, ◌*◌, map, take}
use Rattle.std.specs.List.{AllByRecursion, concat}
use Rattle.hr_type.specs.Types.{variables}
use Rattle.hr_unify.specs.Tasks.{pairs_of}
use Rattle.hr_unify.specs.Weights.{load, weight, total}
use Rattle.hr_unify.specs.Working.{Avoids}
use Rattle.hr_unify.proofs.find.+find.Given as goal

abbrev pub decreases-find : goal.decreases-find
decreases-find l = 2 * load (pairs_of l.known.now) l.ty.now + 1

abbrev pub decreases-find_among : goal.decreases-find_among
decreases-find_among l = 2 * total (map (load (pairs_of l.known.now)) l.types.now) + 2

abbrev pub decreases-find_variable : goal.decreases-find_variable
decreases-find_variable l = 2 * weight (pairs_of l.known.now) l.other

abbrev pub invariant-find_among-loop-i : goal.invariant-find_among-loop-i
invariant-find_among-loop-i l =
    AllByRecursion (Avoids (pairs_of l.known) l.variable) (concat (map variables (take l.i l.types))) × AllByRecursion (Avoids (pairs_of l.known) l.variable) l.seen.items
