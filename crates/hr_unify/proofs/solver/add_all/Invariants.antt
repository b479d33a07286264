use Rattle.std.proofs.Common.{◌≡◌, ◌++◌, ℕ, List, reverse, vec_len}
use Rattle.hr_type.specs.declared.mono.Mono.{Mono}
use Rattle.hr_unify.proofs.solver.add_all.Given as goal

abbrev pub invariant-loop-variable : goal.invariant-loop-variable
invariant-loop-variable l =
    (l.bindings.entries ++ reverse l.fresh.items ≡ l.initial.bindings.entries ++ reverse l.initial.fresh.items)
    × ((done : List (ℕ × Mono)) × (l.bindings.entries ≡ l.initial.bindings.entries ++ done))

abbrev pub decreases-loop-variable : goal.decreases-loop-variable
decreases-loop-variable l = vec_len l.fresh
