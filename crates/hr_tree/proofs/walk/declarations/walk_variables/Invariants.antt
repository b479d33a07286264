-- What is behind the variables that are left is what is behind all.
use Rattle.std.proofs.Common.{◌≡◌, fold, drop}
use Rattle.std.specs.List.{flat_map}
use Rattle.hr_tree.specs.Names.{variable_items}
use Rattle.hr_tree.specs.Lists.{listed_items}
use Rattle.hr_tree.proofs.walk.declarations.walk_variables.Given as goal

abbrev pub invariant-loop-variable : goal.invariant-loop-variable
invariant-loop-variable g l = fold g.V.Visitor.behind l.visitor (flat_map (listed_items variable_items) (drop l.variable-index l.variables)) ≡ fold g.V.Visitor.behind l.initial.visitor (flat_map (listed_items variable_items) l.variables)
