use Rattle.hr_parse_declaration.proofs.Declared.{infix_read}
use Rattle.hr_parse_declaration.proofs.constructions.infix.Goals as goal

pub returns-clause-reads : goal.returns-clause-reads
returns-clause-reads c = λ before h. infix_read {first = c.args.first} {second = c.in_ok-second.second} c.joined.ensures c.max-height.ensures c.new-operator.ensures h c.in_ok-read.ensures c.in_ok-second.ensures.reads
