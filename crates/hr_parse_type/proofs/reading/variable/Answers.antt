use Rattle.hr_parse_type.proofs.Types.{variable_read, made_tree}
use Rattle.hr_parse_type.proofs.reading.variable.Goals as goal

pub returns-clause-reads : goal.returns-clause-reads
returns-clause-reads c = made_tree c.new.ensures (variable_read c.in_ok-name.ensures)
