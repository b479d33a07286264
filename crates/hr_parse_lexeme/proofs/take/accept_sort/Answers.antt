use Rattle.hr_parse_lexeme.proofs.Taking.{took_sort}
use Rattle.hr_parse_lexeme.proofs.take.accept_sort.Goals as goal

pub returns-then-is_sort_next : goal.returns-then-is_sort_next
returns-then-is_sort_next c = took_sort c.args.sort c.take.result c.args.cursor.now c.take.new.self (c.is_sort_next.ensures c.if-is_sort_next.true) c.take.ensures.item c.take.ensures.goes_on
