use Rattle.std.proofs.Common.{◌+◌, ◌≤◌, length}
use Rattle.hr_grammar.specs.Nodes.{TyPlace}
use Rattle.hr_parse_lexeme.specs.Reads.{ReadsEach}
use Rattle.hr_parse_declaration.proofs.constructions.types.Given as goal

abbrev pub invariant-loop-alloc : goal.invariant-loop-alloc
invariant-loop-alloc l = record {
  reads : ReadsEach l.height (λ below n. below.ty n TyPlace.Atomic) l.tree l.fn.cursor l.cursor;
  fits : l.depth + l.height ≤ 256;
}

abbrev pub decreases-loop-alloc : goal.decreases-loop-alloc
decreases-loop-alloc l = length l.cursor.rest
