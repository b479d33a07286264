use Rattle.std.proofs.Common.{◌+◌, ◌-◌, ◌*◌, ◌≤◌, length}
use Rattle.hr_grammar.specs.Words.{IsComma}
use Rattle.hr_grammar.specs.Nodes.{TyPlace}
use Rattle.hr_parse_lexeme.specs.Reads.{ReadsEach, ReadsParts}
use Rattle.hr_parse_type.proofs.reading.+types.Given as goal

abbrev pub decreases-parts : goal.decreases-parts
decreases-parts l = 8 * (257 - l.depth) + 6

abbrev pub decreases-whole_type : goal.decreases-whole_type
decreases-whole_type l = 8 * (257 - l.depth) + 5

abbrev pub decreases-applied_type : goal.decreases-applied_type
decreases-applied_type l = 8 * (257 - l.depth) + 4

abbrev pub decreases-arguments : goal.decreases-arguments
decreases-arguments l = 8 * (257 - l.depth) + 3

abbrev pub decreases-head : goal.decreases-head
decreases-head l = 8 * (257 - l.depth) + 2

abbrev pub decreases-in_parentheses : goal.decreases-in_parentheses
decreases-in_parentheses l = 8 * (257 - l.depth) + 1

abbrev pub decreases-in_square : goal.decreases-in_square
decreases-in_square l = 8 * (257 - l.depth) + 1

abbrev pub invariant-arguments-loop-alloc : goal.invariant-arguments-loop-alloc
invariant-arguments-loop-alloc l = record {
  reads : ReadsEach l.height (λ below n. below.ty n TyPlace.Atomic) l.tree l.fn.cursor l.cursor;
  fits : l.depth + l.height ≤ 256;
}

abbrev pub decreases-arguments-loop-alloc : goal.decreases-arguments-loop-alloc
decreases-arguments-loop-alloc l = length l.cursor.rest

abbrev pub invariant-parts-loop-alloc : goal.invariant-parts-loop-alloc
invariant-parts-loop-alloc l = record {
  reads : ReadsParts l.height IsComma (λ below n. below.ty n TyPlace.Whole) l.others l.last l.fn.cursor l.cursor;
  few : length l.others ≤ 14;
  fits : l.depth + l.height ≤ 256;
}

abbrev pub decreases-parts-loop-alloc : goal.decreases-parts-loop-alloc
decreases-parts-loop-alloc l = 14 - length l.others
