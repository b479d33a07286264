use Rattle.hr_parse_pattern.proofs.Patterns.{made, wildcard_read}
use Rattle.hr_parse_pattern.proofs.brackets.wildcard.Goals as goal

pub returns-clause-reads : goal.returns-clause-reads
returns-clause-reads c = made c.in_ok-leaf.ensures (wildcard_read c.in_ok-word.ensures)
