-- What is behind the members that are left is what is behind all.
use Rattle.std.proofs.Common.{◌≡◌, fold, drop}
use Rattle.std.specs.List.{flat_map}
use Rattle.hr_tree.specs.Lists.{listed_items}
use Rattle.hr_tree.specs.Yields.{member_items}
use Rattle.hr_tree.proofs.walk.modules.walk_members.Given as goal

abbrev pub invariant-loop-member : goal.invariant-loop-member
invariant-loop-member g l = fold g.V.Visitor.behind l.visitor (flat_map (listed_items member_items) (drop l.member-index l.members)) ≡ fold g.V.Visitor.behind l.initial.visitor (flat_map (listed_items member_items) l.members)
