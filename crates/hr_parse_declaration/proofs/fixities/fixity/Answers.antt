use Rattle.hr_parse_declaration.proofs.Declared.{fixity_read}
use Rattle.hr_parse_declaration.proofs.fixities.fixity.Goals as goal

pub returns-clause-reads : goal.returns-clause-reads
returns-clause-reads c = fixity_read c.in_ok-state.ensures c.in_ok-word.ensures c.accept_digit-level.ensures c.in_ok-operators.ensures
