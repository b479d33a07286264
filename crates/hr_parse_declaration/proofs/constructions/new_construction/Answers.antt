use Rattle.hr_parse_declaration.proofs.Declared.{new_read}
use Rattle.hr_parse_declaration.proofs.constructions.new_construction.Goals as goal

pub returns-clause-reads : goal.returns-clause-reads
returns-clause-reads c = new_read {ty = c.in_ok-ty.ty} c.prefix.ensures c.new-constructor.ensures c.in_ok-types.ensures c.in_ok-read.ensures c.in_ok-ty.ensures.reads
