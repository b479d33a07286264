use Rattle.hr_parse_lexeme.proofs.Taking.{took_mark}
use Rattle.hr_parse_lexeme.proofs.take.accept.Goals as goal

pub returns-then-is_next : goal.returns-then-is_next
returns-then-is_next c = took_mark c.args.mark c.take.result c.args.cursor.now c.take.new.self (c.is_next.ensures c.if-is_next.true) c.take.ensures.item c.take.ensures.goes_on
