use Rattle.hr_parse_pattern.proofs.Patterns.{made, literal_read}
use Rattle.hr_parse_pattern.proofs.brackets.literal.Goals as goal

pub returns-clause-reads : goal.returns-clause-reads
returns-clause-reads c = made c.in_ok-leaf.ensures (literal_read c.in_ok-literal.ensures)
