use Rattle.std.proofs.Common.{sym, subst, arith}
use Rattle.hr_tree.specs.Names.{constructor_items}
use Rattle.hr_grammar.specs.Spelled.{IsTypeConstructor}
use Rattle.hr_parse_lexeme.specs.declared.mark.Mark.{Mark}
use Rattle.hr_parse_lexeme.specs.Reads.{Spells}
use Rattle.hr_parse_type.proofs.Heads.{behind, named_at, open_at}
use Rattle.hr_parse_type.proofs.Types.{made_name, parts_stay, as_applied, as_whole, made, function_read, applied_read, closed_read, list_read, atom_read, no_arguments, one_argument, first_type, next_type, ty_shrinks, more_fits, head_fits, none_few, more_few, one_fewer}
use Rattle.hr_parse_type.proofs.reading.+types.Goals as goal

pub whole_type-returns-then-not-is_next-clause-reads : goal.whole_type-returns-then-not-is_next-clause-reads
whole_type-returns-then-not-is_next-clause-reads t c = as_whole c.in_ok-from.ensures.reads

pub whole_type-returns-clause-reads : goal.whole_type-returns-clause-reads
whole_type-returns-clause-reads t c = made c.in_ok-function.ensures (function_read c.in_ok-from.ensures.reads c.in_ok-arrow.ensures c.in_ok-to.ensures.reads)

pub applied_type-returns-in_ok-arguments-in-Named-clause-reads : goal.applied_type-returns-in_ok-arguments-in-Named-clause-reads
applied_type-returns-in_ok-arguments-in-Named-clause-reads t c = made c.applied.ensures (applied_read (rw c.in-Named.is at c.in_ok-named.ensures.reads) c.in_ok-arguments-in-Named.ensures.reads)

pub applied_type-returns-after-is_variable-clause-reads : goal.applied_type-returns-after-is_variable-clause-reads
applied_type-returns-after-is_variable-clause-reads t c = as_applied (rw c.in-Atom.is at c.in_ok-named.ensures.reads)

pub arguments-loop-alloc-init : goal.arguments-loop-alloc-init
arguments-loop-alloc-init t c = record { reads = no_arguments _ c.new-tree.ensures; fits = omega arith }

pub arguments-loop-alloc-smaller : goal.arguments-loop-alloc-smaller
arguments-loop-alloc-smaller t c = ty_shrinks (atom_read c.in_ok-head.field-0 c.in_ok-head.ensures.reads)

pub arguments-loop-alloc-preserved : goal.arguments-loop-alloc-preserved
arguments-loop-alloc-preserved t c = record {
  reads = one_argument c.loop-alloc.invariant.reads (made c.atom-argument.ensures (atom_read c.in_ok-head.field-0 c.in_ok-head.ensures.reads)) c.take.ensures c.in_ok-push.ensures.ok c.max-height.ensures;
  fits = head_fits c.args.depth c.loop-alloc.height c.max-height.result c.in_ok-head.field-0 c.atom-argument.result c.atom-argument.ensures c.loop-alloc.invariant.fits c.in_ok-head.ensures.fits c.max-height.ensures;
}

pub in_parentheses-returns-in-Constructor-clause-reads : goal.in_parentheses-returns-in-Constructor-clause-reads
in_parentheses-returns-in-Constructor-clause-reads t c = λ before h. made_name c.new.ensures (named_at Mark.LeftParen c.in-Constructor.is h)

pub in_parentheses-returns-in_ok-closed-in-Open-clause-reads : goal.in_parentheses-returns-in_ok-closed-in-Open-clause-reads
in_parentheses-returns-in_ok-closed-in-Open-clause-reads t c =
    λ before h. made c.in_ok-closed-in-Open.ensures
    (closed_read (open_at Mark.LeftParen c.in-Open.is h) c.in_ok-parts-in-Open.ensures.reads c.in_ok-parts-in-Open.ensures.some c.in_ok-right-in-Open.ensures)

pub in_square-returns-in-Constructor-clause-reads : goal.in_square-returns-in-Constructor-clause-reads
in_square-returns-in-Constructor-clause-reads t c = λ before h. made_name c.new.ensures (named_at Mark.LeftSquare c.in-Constructor.is h)

pub in_square-returns-in_ok-list-in-Open-clause-reads : goal.in_square-returns-in_ok-list-in-Open-clause-reads
in_square-returns-in_ok-list-in-Open-clause-reads t c =
    λ before h. made c.in_ok-list-in-Open.ensures
    (list_read (open_at Mark.LeftSquare c.in-Open.is h) c.in_ok-part-in-Open.ensures.reads c.in_ok-right-in-Open.ensures)

pub head-returns-in_ok-bracket-in-LeftParen-clause-reads : goal.head-returns-in_ok-bracket-in-LeftParen-clause-reads
head-returns-in_ok-bracket-in-LeftParen-clause-reads t c = behind Mark.LeftParen _ _ _ _ _ c.in_parentheses.ensures.reads c.in_ok-bracket-in-LeftParen.ensures

pub head-returns-in_ok-bracket-in-LeftSquare-clause-reads : goal.head-returns-in_ok-bracket-in-LeftSquare-clause-reads
head-returns-in_ok-bracket-in-LeftSquare-clause-reads t c = behind Mark.LeftSquare _ _ _ _ _ c.in_square.ensures.reads c.in_ok-bracket-in-LeftSquare.ensures

pub parts-loop-alloc-init : goal.parts-loop-alloc-init
parts-loop-alloc-init t c = record {
  reads = first_type c.in_ok-first.ensures.reads c.new-others.ensures;
  few = none_few _ c.new-others.ensures;
  fits = c.in_ok-first.ensures.fits;
}

pub parts-loop-alloc-preserved : goal.parts-loop-alloc-preserved
parts-loop-alloc-preserved t c = record {
  reads = next_type c.loop-alloc.invariant.reads c.in-Some.ensures c.in_ok-next.ensures.reads c.take.ensures c.in_ok-push.ensures.ok c.max-height.ensures;
  few = more_few c.loop-alloc.others _ _ c.in_ok-push.ensures.ok (omega arith);
  fits = more_fits c.args.depth c.loop-alloc.height c.in_ok-next.field-0.height c.max-height.result c.loop-alloc.invariant.fits c.in_ok-next.ensures.fits c.max-height.ensures;
}

pub parts-loop-alloc-smaller : goal.parts-loop-alloc-smaller
parts-loop-alloc-smaller t c = one_fewer c.loop-alloc.others _ _ c.in_ok-push.ensures.ok (omega arith)

pub parts-returns-clause-reads : goal.parts-returns-clause-reads
parts-returns-clause-reads t c = c.loop-alloc.invariant.reads

pub parts-returns-in_default-clause-reads : goal.parts-returns-in_default-clause-reads
parts-returns-in_default-clause-reads t c = parts_stay c.in_default.ensures c.loop-alloc.invariant.reads

pub head-returns-in-Variable-clause-reads : goal.head-returns-in-Variable-clause-reads
head-returns-in-Variable-clause-reads t c = c.variable.ensures.reads
