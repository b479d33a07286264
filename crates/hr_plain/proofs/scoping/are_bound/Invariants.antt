use Rattle.std.proofs.Common.{◌≡◌, drop}
use Rattle.std.specs.List.{list_all}
use Rattle.hr_plain.specs.Sets.{has, is_scoped_by}
use Rattle.hr_plain.proofs.scoping.are_bound.Given as goal

-- all equations are scoped where those that are left are
abbrev pub invariant-loop-equation : goal.invariant-loop-equation
invariant-loop-equation l = list_all (is_scoped_by (has l.top)) (drop l.equation-index l.equations) ≡ list_all (is_scoped_by (has l.top)) l.equations
