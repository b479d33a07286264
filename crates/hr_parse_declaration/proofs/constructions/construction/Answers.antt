use Rattle.hr_parse_lexeme.proofs.Phrases.{unmoved}
use Rattle.hr_parse_declaration.proofs.Listing.{takes_unmoved}
use Rattle.hr_parse_declaration.proofs.Declared.{behind_at}
use Rattle.hr_parse_declaration.proofs.constructions.construction.Goals as goal

pub returns-in-Some-clause-reads : goal.returns-in-Some-clause-reads
returns-in-Some-clause-reads c = behind_at c.prefix_or_infix.result _ c.args.cursor.now c.prefix_or_infix.new.cursor c.prefix_or_infix.ensures.reads c.in-Some.ensures

pub returns-in-Some-accept-clause-reads : goal.returns-in-Some-accept-clause-reads
returns-in-Some-accept-clause-reads c =
    behind_at c.in_parentheses.result _ c.args.cursor.now c.in_parentheses.new.cursor c.in_parentheses.ensures.reads (takes_unmoved c.in_default.ensures c.in-Some-accept.ensures)

pub returns-in_ok-first-in-None-clause-reads : goal.returns-in_ok-first-in-None-clause-reads
returns-in_ok-first-in-None-clause-reads c =
    behind_at c.infix.result _ c.args.cursor.now c.infix.new.cursor c.infix.ensures.reads (unmoved c.in_default.ensures (unmoved c.in-None.ensures c.in_ok-first-in-None.ensures.reads))
