use Rattle.hr_parse_declaration.proofs.Declared.{named_read, first_read, first_fits, behind}
use Rattle.hr_parse_declaration.proofs.constructions.prefix_or_infix.Goals as goal

pub infix-requires-clause-first : goal.infix-requires-clause-first
infix-requires-clause-first c = first_fits c.new-constructor.result c.in_ok-types.types c.args.depth c.applied-first.ensures c.in_ok-nest.ensures

pub returns-then-not-matches-clause-reads : goal.returns-then-not-matches-clause-reads
returns-then-not-matches-clause-reads c = λ before h. named_read {types = c.in_ok-types.types} c.prefix.ensures c.new-constructor.ensures h c.in_ok-types.ensures.reads

pub returns-clause-reads : goal.returns-clause-reads
returns-clause-reads c =
    behind c.infix.result _ _ c.infix.new.cursor c.infix.ensures.reads (λ before h. first_read {types = c.in_ok-types.types} c.applied-first.ensures c.new-constructor.ensures h c.in_ok-types.ensures.reads)
