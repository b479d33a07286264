use Rattle.hr_parse_pattern.proofs.Patterns.{made, negative_read}
use Rattle.hr_parse_pattern.proofs.reading.negative.Goals as goal

pub returns-clause-reads : goal.returns-clause-reads
returns-clause-reads c = λ before h. made c.in_ok-leaf.ensures (negative_read h c.in_ok-number.ensures)
