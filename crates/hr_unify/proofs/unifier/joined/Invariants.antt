use Rattle.std.proofs.Common.{◌≡◌, ◌++◌, take, reverse, vec_len}
use Rattle.hr_unify.proofs.unifier.joined.Given as goal

abbrev pub invariant-loop-variable : goal.invariant-loop-variable
invariant-loop-variable l = l.pairs.items ≡ take l.variable-index l.given

abbrev pub invariant-loop-pair : goal.invariant-loop-pair
invariant-loop-pair l = l.pairs.items ++ reverse l.fresh.items ≡ l.initial.pairs.items ++ reverse l.initial.fresh.items

abbrev pub decreases-loop-pair : goal.decreases-loop-pair
decreases-loop-pair l = vec_len l.fresh
