use Rattle.hr_parse_declaration.proofs.Declared.{data_read, fits_below}
use Rattle.hr_parse_declaration.proofs.types.data.Goals as goal

pub returns-clause-reads : goal.returns-clause-reads
returns-clause-reads c =
    data_read c.in_ok-state.ensures (fits_below c.args.depth _ c.in_ok-tree.ensures.fits) c.take.ensures c.in_ok-word.ensures c.in_ok-head.ensures c.in_ok-equals.ensures c.in_ok-tree.ensures.reads
