use Rattle.hr_parse_pattern.proofs.Patterns.{made, atom_read, atom_within}
use Rattle.hr_parse_pattern.proofs.reading.atomic.Goals as goal

pub returns-clause-reads : goal.returns-clause-reads
returns-clause-reads c = made c.in_ok-atom.ensures (atom_read c.in_ok-head.head c.in_ok-head.ensures.reads)

pub returns-clause-fits : goal.returns-clause-fits
returns-clause-fits c = atom_within c.in_ok-head.head c.args.depth c.in_ok-atom.ensures c.in_ok-head.ensures.fits
