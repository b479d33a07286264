-- What is behind the operators that are left is what is behind all.
use Rattle.std.proofs.Common.{◌≡◌, fold, drop}
use Rattle.std.specs.List.{flat_map}
use Rattle.hr_tree.specs.Names.{operator_items}
use Rattle.hr_tree.specs.Lists.{listed_items}
use Rattle.hr_tree.proofs.walk.declarations.walk_operators.Given as goal

abbrev pub invariant-loop-operator : goal.invariant-loop-operator
invariant-loop-operator g l = fold g.V.Visitor.behind l.visitor (flat_map (listed_items operator_items) (drop l.operator-index l.operators)) ≡ fold g.V.Visitor.behind l.initial.visitor (flat_map (listed_items operator_items) l.operators)
