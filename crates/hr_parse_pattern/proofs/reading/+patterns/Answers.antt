use Rattle.std.proofs.Common.{◌+◌, arith}
use Rattle.hr_parse_pattern.proofs.Behind.{further}
use Rattle.hr_parse_pattern.proofs.Lists.{no_arguments, one_argument, only_pattern, next_pattern, only_operand, next_operand, patterns_stay}
use Rattle.hr_parse_pattern.proofs.Names.{same_name}
use Rattle.hr_parse_pattern.proofs.Patterns.{fits_below, made, atom_read, as_read, lazy_read, applied_read, infix_read, closed_read, square_read, as_operand, pat_shrinks, height_of, height_below, atom_fits, node_fits, argument_fits, many_fits, operand_fits, named_fits}
use Rattle.hr_parse_pattern.proofs.Shorter.{behind_lexeme, behind_name}
use Rattle.hr_parse_pattern.proofs.Openings.{at_start, at_bracket, at_head}
use Rattle.hr_parse_pattern.proofs.reading.+patterns.Goals as goal

pub pattern-returns-clause-reads : goal.pattern-returns-clause-reads
pattern-returns-clause-reads t c = c.in_ok-pattern_behind.ensures.reads _ (only_operand c.new-none.ensures c.in_ok-first.ensures.reads)

pub pattern_behind-loop-alloc-init : goal.pattern_behind-loop-alloc-init
pattern_behind-loop-alloc-init t c = λ before h. h

pub pattern_behind-loop-alloc-smaller : goal.pattern_behind-loop-alloc-smaller
pattern_behind-loop-alloc-smaller t c = behind_name _ c.in_ok-operator.ensures (pat_shrinks c.in_ok-last.ensures.reads)

pub pattern_behind-loop-alloc-preserved : goal.pattern_behind-loop-alloc-preserved
pattern_behind-loop-alloc-preserved t c = λ before h. next_operand (c.loop-alloc.invariant before h) c.in_ok-operator.ensures c.in_ok-push.ensures c.in_ok-last.ensures.reads

pub pattern_behind-returns-clause-reads : goal.pattern_behind-returns-clause-reads
pattern_behind-returns-clause-reads t c =
    λ before h. made c.in_ok-part.ensures (infix_read (height_below c.args.depth c.in_ok-part.ensures c.in_ok-nest-2.ensures) (c.loop-alloc.invariant before h))

pub operand-returns-in-Atom-clause-reads : goal.operand-returns-in-Atom-clause-reads
operand-returns-in-Atom-clause-reads t c = as_operand (at_head c.args.cursor.now c.head.new.cursor c.in-Atom.is c.in_ok-part.ensures.reads)

pub operand-returns-in_ok-applied-in-Named-clause-reads : goal.operand-returns-in_ok-applied-in-Named-clause-reads
operand-returns-in_ok-applied-in-Named-clause-reads t c =
    made c.in_ok-applied-in-Named.ensures
    (applied_read (many_fits c.in_ok-arguments-in-Named.arguments.height _ c.new-none.ensures c.in_ok-arguments-in-Named.ensures.fits) (same_name c.take.ensures (at_head c.args.cursor.now c.head.new.cursor c.in-Named.is c.in_ok-part.ensures.reads)) (c.in_ok-arguments-in-Named.ensures.reads _ (no_arguments _ c.new-none.ensures)))

pub operand-returns-in_ok-applied-in-Named-clause-fits : goal.operand-returns-in_ok-applied-in-Named-clause-fits
operand-returns-in_ok-applied-in-Named-clause-fits t c =
    operand_fits c.take.result c.in_ok-arguments-in-Named.arguments c.args.depth _ c.in_ok-applied-in-Named.ensures c.new-none.ensures c.below.ensures c.in_ok-arguments-in-Named.ensures.fits
    (named_fits c.args.depth c.in-Named.is c.in_ok-part.ensures.fits)

pub arguments-loop-alloc-init : goal.arguments-loop-alloc-init
arguments-loop-alloc-init t c = record { reads = λ before h. h; fits = omega arith }

pub arguments-loop-alloc-smaller : goal.arguments-loop-alloc-smaller
arguments-loop-alloc-smaller t c = pat_shrinks (atom_read c.in_ok-head.head c.in_ok-head.ensures.reads)

pub arguments-loop-alloc-preserved : goal.arguments-loop-alloc-preserved
arguments-loop-alloc-preserved t c = record {
  reads = λ before h. one_argument (c.loop-alloc.invariant.reads before h) (made c.in_ok-atom.ensures (atom_read c.in_ok-head.head c.in_ok-head.ensures.reads)) c.in_ok-push.ensures;
  fits = argument_fits c.loop-alloc.many c.in_ok-head.head c.args.depth _ c.loop-alloc.invariant.fits c.in_ok-atom.ensures c.in_ok-head.ensures.fits c.in_ok-push.ensures;
}

pub head-returns-clause-reads : goal.head-returns-clause-reads
head-returns-clause-reads t c = c.in_ok-head.ensures.reads _ c.in_ok-start.ensures.reads

pub head-returns-clause-fits : goal.head-returns-clause-fits
head-returns-clause-fits t c = c.in_ok-head.ensures.fits c.in_ok-start.ensures.height

pub behind_start-returns-in-Atom-clause-reads : goal.behind_start-returns-in-Atom-clause-reads
behind_start-returns-in-Atom-clause-reads t c = λ before h. at_start before c.args.cursor.now c.in-Atom.is h

pub behind_start-returns-in-Named-clause-reads : goal.behind_start-returns-in-Named-clause-reads
behind_start-returns-in-Named-clause-reads t c = λ before h. at_start before c.args.cursor.now c.in-Named.is h

pub behind_start-returns-in_ok-bound_as-in-As-clause-reads : goal.behind_start-returns-in_ok-bound_as-in-As-clause-reads
behind_start-returns-in_ok-bound_as-in-As-clause-reads t c =
    λ before h. made c.in_ok-bound_as-in-As.ensures
    (as_read (atom_fits c.in_ok-head-in-As.head (c.args.depth + 1) c.in_ok-atom-in-As.ensures c.in_ok-head-in-As.ensures.fits) (at_start before c.args.cursor.now c.in-As.is h).1 (at_start before c.args.cursor.now c.in-As.is h).2
    (made c.in_ok-atom-in-As.ensures (atom_read c.in_ok-head-in-As.head c.in_ok-head-in-As.ensures.reads)))

pub behind_start-returns-in_ok-bound_as-in-As-clause-fits : goal.behind_start-returns-in_ok-bound_as-in-As-clause-fits
behind_start-returns-in_ok-bound_as-in-As-clause-fits t c = λ one. node_fits c.in_ok-head-in-As.head c.args.depth c.in_ok-atom-in-As.ensures c.in_ok-head-in-As.ensures.fits c.in_ok-bound_as-in-As.ensures

pub behind_start-returns-in_ok-lazy-in-Lazy-clause-fits : goal.behind_start-returns-in_ok-lazy-in-Lazy-clause-fits
behind_start-returns-in_ok-lazy-in-Lazy-clause-fits t c = λ one. node_fits c.in_ok-head-in-Lazy.head c.args.depth c.in_ok-atom-in-Lazy.ensures c.in_ok-head-in-Lazy.ensures.fits c.in_ok-lazy-in-Lazy.ensures

pub behind_start-returns-in_ok-lazy-in-Lazy-clause-reads : goal.behind_start-returns-in_ok-lazy-in-Lazy-clause-reads
behind_start-returns-in_ok-lazy-in-Lazy-clause-reads t c =
    λ before h. made c.in_ok-lazy-in-Lazy.ensures
    (lazy_read (atom_fits c.in_ok-head-in-Lazy.head (c.args.depth + 1) c.in_ok-atom-in-Lazy.ensures c.in_ok-head-in-Lazy.ensures.fits) (at_start before c.args.cursor.now c.in-Lazy.is h) (made c.in_ok-atom-in-Lazy.ensures (atom_read c.in_ok-head-in-Lazy.head c.in_ok-head-in-Lazy.ensures.reads)))

pub behind_start-returns-in_ok-in_brackets-in-Bracketed-clause-reads : goal.behind_start-returns-in_ok-in_brackets-in-Bracketed-clause-reads
behind_start-returns-in_ok-in_brackets-in-Bracketed-clause-reads t c = λ before h. c.in_ok-in_brackets-in-Bracketed.ensures.reads before (at_start before c.args.cursor.now c.in-Bracketed.is h)

pub in_brackets-returns-in_ok-first-in-Parenthesis-clause-reads : goal.in_brackets-returns-in_ok-first-in-Parenthesis-clause-reads
in_brackets-returns-in_ok-first-in-Parenthesis-clause-reads t c =
    further _ _ _ _ _ c.closed_parts.ensures.reads
    (λ before h. record {
      behind = _;
      left = at_bracket before c.args.cursor.now c.in-Parenthesis.is h;
      parts = only_pattern c.new.ensures c.in_ok-first-in-Parenthesis.ensures.reads;
    })
    (λ part before h. h)

pub in_brackets-returns-in_ok-first-in-Parenthesis-clause-fits : goal.in_brackets-returns-in_ok-first-in-Parenthesis-clause-fits
in_brackets-returns-in_ok-first-in-Parenthesis-clause-fits t c = fits_below c.args.depth c.closed_parts.result c.closed_parts.ensures.fits

pub in_brackets-returns-in_ok-first-in-Number-clause-reads : goal.in_brackets-returns-in_ok-first-in-Number-clause-reads
in_brackets-returns-in_ok-first-in-Number-clause-reads t c =
    further _ _ _ _ _ c.closed_parts-in-Number.ensures.reads
    (λ before h. record {
      behind = (at_bracket before c.args.cursor.now c.in-Number.is h).0;
      left = (at_bracket before c.args.cursor.now c.in-Number.is h).1;
      parts = only_pattern c.new-in-Number.ensures (c.in_ok-first-in-Number.ensures.reads _ (only_operand c.new-none.ensures (at_bracket before c.args.cursor.now c.in-Number.is h).2));
    })
    (λ part before h. h)

pub in_brackets-returns-in_ok-first-in-Number-clause-fits : goal.in_brackets-returns-in_ok-first-in-Number-clause-fits
in_brackets-returns-in_ok-first-in-Number-clause-fits t c = fits_below c.args.depth c.closed_parts-in-Number.result c.closed_parts-in-Number.ensures.fits

pub in_brackets-returns-in_ok-first-in-Square-clause-reads : goal.in_brackets-returns-in_ok-first-in-Square-clause-reads
in_brackets-returns-in_ok-first-in-Square-clause-reads t c =
    further _ _ _ _ _ c.closed_list.ensures.reads
    (λ before h. record {
      behind = _;
      left = at_bracket before c.args.cursor.now c.in-Square.is h;
      parts = only_pattern c.new-in-Square.ensures c.in_ok-first-in-Square.ensures.reads;
    })
    (λ part before h. h)

pub in_brackets-returns-in_ok-first-in-Square-clause-fits : goal.in_brackets-returns-in_ok-first-in-Square-clause-fits
in_brackets-returns-in_ok-first-in-Square-clause-fits t c = fits_below c.args.depth c.closed_list.result c.closed_list.ensures.fits

pub closed_parts-returns-clause-reads : goal.closed_parts-returns-clause-reads
closed_parts-returns-clause-reads t c =
    λ begin h. made c.in_ok-closed.ensures.made
    (closed_read (height_of c.args.depth c.in_ok-closed.ensures.made c.in_ok-closed.ensures.fits) c.in_ok-closed.ensures.few h.left (c.in_ok-separated.ensures h.behind h.parts) c.in_ok-right.ensures)

pub closed_list-returns-clause-reads : goal.closed_list-returns-clause-reads
closed_list-returns-clause-reads t c =
    λ begin h. made c.in_ok-closed_square.ensures.made
    (square_read (height_of c.args.depth c.in_ok-closed_square.ensures.made c.in_ok-closed_square.ensures.fits) h.left (c.in_ok-separated.ensures h.behind h.parts) c.in_ok-right.ensures)

pub parts-loop-alloc-init : goal.parts-loop-alloc-init
parts-loop-alloc-init t c = λ begin h. h

pub parts-loop-alloc-smaller : goal.parts-loop-alloc-smaller
parts-loop-alloc-smaller t c = behind_lexeme _ c.in-Some.ensures (pat_shrinks c.in_ok-last.ensures.reads)

pub parts-loop-alloc-preserved : goal.parts-loop-alloc-preserved
parts-loop-alloc-preserved t c = λ begin h. next_pattern (c.loop-alloc.invariant begin h) c.in-Some.ensures c.in_ok-push.ensures c.in_ok-last.ensures.reads

pub parts-returns : goal.parts-returns
parts-returns t c = λ begin h. c.loop-alloc.invariant begin h

pub parts-returns-in_default : goal.parts-returns-in_default
parts-returns-in_default t c = λ begin h. patterns_stay c.in_default.ensures (c.loop-alloc.invariant begin h)
