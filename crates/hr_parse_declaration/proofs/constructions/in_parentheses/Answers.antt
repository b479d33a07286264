use Rattle.hr_parse_lexeme.proofs.Phrases.{takes_stay}
use Rattle.hr_parse_declaration.proofs.Declared.{symbol_read, behind}
use Rattle.hr_parse_declaration.proofs.constructions.in_parentheses.Goals as goal

pub returns-in-Some-clause-reads : goal.returns-in-Some-clause-reads
returns-in-Some-clause-reads c = λ before h.
    symbol_read {types = c.in_ok-types.types} c.prefix.ensures c.new-constructor.ensures h c.in-Some.ensures c.in_ok-right.ensures c.in_ok-types.ensures.reads

pub returns-clause-reads : goal.returns-clause-reads
returns-clause-reads c = behind c.infix.result _ _ c.infix.new.cursor c.infix.ensures.reads (λ before h. c.in_ok-first.ensures.reads before (takes_stay c.in_default.ensures h))
