use Rattle.hr_parse_declaration.proofs.Declared.{import_read}
use Rattle.hr_parse_declaration.proofs.imports.import.Goals as goal

pub returns-clause-reads : goal.returns-clause-reads
returns-clause-reads c = import_read c.in_ok-state.ensures c.in_ok-import.ensures
