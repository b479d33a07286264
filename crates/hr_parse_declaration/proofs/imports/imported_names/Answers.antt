use Rattle.hr_grammar_cases.specs.Imports.{imported_reading}
use Rattle.hr_parse_declaration.proofs.Listing.{no_names, some_names, first_part, next_part, comma_at, end_at}
use Rattle.hr_parse_declaration.proofs.NoLonger.{shrinks_imported}
use Rattle.hr_parse_declaration.proofs.imports.imported_names.Goals as goal

pub loop-comma-init : goal.loop-comma-init
loop-comma-init c = (c.expect.new.cursor, c.in_ok-left.ensures, first_part imported_reading c.in_ok-first.first c.new-list.ensures.items c.new-last.ensures c.in_ok-first.ensures)

pub loop-comma-preserved : goal.loop-comma-preserved
loop-comma-preserved c = (
  c.loop-comma.invariant.0,
  c.loop-comma.invariant.1,
  next_part imported_reading c.in_ok-part-in-Name.part c.loop-comma.invariant.2 (comma_at c.in-Name.is c.next_name-goes_on.ensures) c.in_ok-part-in-Name.ensures c.take.ensures c.new-next.ensures c.in_ok-push-in-Name.ensures.items,
)

pub loop-comma-smaller : goal.loop-comma-smaller
loop-comma-smaller c = shrinks_imported c.in_ok-part-in-Name.part (comma_at c.in-Name.is c.next_name-goes_on.ensures) c.in_ok-part-in-Name.ensures

pub returns-in-End : goal.returns-in-End
returns-in-End c =
    some_names imported_reading c.in-End.last_comma c.loop-comma.invariant.1 c.loop-comma.invariant.2 c.take-in-End.ensures c.in_ok-push-in-End.ensures.items (end_at _ _ c.in-End.is c.next_name-goes_on.ensures) c.in_ok-right-in-End.ensures

pub returns-then-has_no_names : goal.returns-then-has_no_names
returns-then-has_no_names c = no_names imported_reading c.accept-last_comma.result c.new-list.ensures.items c.in_ok-left.ensures c.accept-last_comma.ensures c.in_ok-right.ensures
