use Rattle.std.proofs.Common.{◌+◌, ◌-◌, ◌*◌, ◌≤◌, max, length}
use Rattle.hr_layout.specs.Standing.{Standing}
use Rattle.hr_parse_pattern.specs.Patterns.{ReadsArguments, ReadsOperands, ReadsPatterns}
use Rattle.hr_parse_pattern.proofs.reading.+patterns.Given as goal

abbrev pub decreases-closed_parts : goal.decreases-closed_parts
decreases-closed_parts l = 16 * (257 - l.depth) + 8

abbrev pub decreases-closed_list : goal.decreases-closed_list
decreases-closed_list l = 16 * (257 - l.depth) + 8

abbrev pub decreases-parts : goal.decreases-parts
decreases-parts l = 16 * (257 - l.depth) + 7

abbrev pub decreases-pattern : goal.decreases-pattern
decreases-pattern l = 16 * (257 - l.depth) + 6

abbrev pub decreases-pattern_behind : goal.decreases-pattern_behind
decreases-pattern_behind l = 16 * (257 - l.depth) + 5

abbrev pub decreases-operand : goal.decreases-operand
decreases-operand l = 16 * (257 - l.depth) + 4

abbrev pub decreases-arguments : goal.decreases-arguments
decreases-arguments l = 16 * (257 - l.depth) + 3

abbrev pub decreases-head : goal.decreases-head
decreases-head l = 16 * (257 - l.depth) + 2

abbrev pub decreases-behind_start : goal.decreases-behind_start
decreases-behind_start l = 16 * (257 - l.depth) + 1

abbrev pub decreases-in_brackets : goal.decreases-in_brackets
decreases-in_brackets l = 16 * (257 - l.depth)

abbrev pub invariant-pattern_behind-loop-alloc : goal.invariant-pattern_behind-loop-alloc
invariant-pattern_behind-loop-alloc l = (before : Standing) → ReadsOperands l.fn.operands l.fn.first before l.fn.cursor → ReadsOperands l.operands l.last before l.cursor

abbrev pub decreases-pattern_behind-loop-alloc : goal.decreases-pattern_behind-loop-alloc
decreases-pattern_behind-loop-alloc l = length l.cursor.rest

abbrev pub invariant-arguments-loop-alloc : goal.invariant-arguments-loop-alloc
invariant-arguments-loop-alloc l = record {
  reads : (before : Standing) → ReadsArguments l.fn.many before l.fn.cursor → ReadsArguments l.many before l.cursor;
  fits : l.many.height ≤ max l.fn.many.height (256 - l.depth);
}

abbrev pub decreases-arguments-loop-alloc : goal.decreases-arguments-loop-alloc
decreases-arguments-loop-alloc l = length l.cursor.rest

abbrev pub invariant-parts-loop-alloc : goal.invariant-parts-loop-alloc
invariant-parts-loop-alloc l = (begin : Standing) → ReadsPatterns l.fn.before l.fn.first begin l.fn.cursor → ReadsPatterns l.others l.last begin l.cursor

abbrev pub decreases-parts-loop-alloc : goal.decreases-parts-loop-alloc
decreases-parts-loop-alloc l = length l.cursor.rest
