use Rattle.std.proofs.Common.{◌≡◌, ◌+◌, ◌-◌, ◌≤◌, length, take, get_or}
use Rattle.hr_graph.proofs.LevelSteps.{IsLevels, IsLooking, nones}
use Rattle.hr_graph.proofs.levels.distances.Given as goal

abbrev pub invariant-loop-next : goal.invariant-loop-next
invariant-loop-next l = record {
  levels : IsLevels l.edges l.goal l.levels.steps.items l.levels.queue.items l.next (get_or l.levels.queue.items l.next (l.goal, length l.levels.queue.items)).1;
  long : length l.levels.steps.items ≡ l.nodes;
  past : l.next ≤ length l.levels.queue.items;
}

abbrev pub decreases-loop-next : goal.decreases-loop-next
decreases-loop-next l = nones l.levels.steps.items + length l.levels.queue.items - l.next

abbrev pub invariant-loop-before : goal.invariant-loop-before
invariant-loop-before l =
    IsLooking l.nodes l.edges l.goal l.levels.steps.items l.levels.queue.items l.next l.node l.count (nones l.initial.levels.steps.items + length l.initial.levels.queue.items) (take l.before-index l.before-items)
