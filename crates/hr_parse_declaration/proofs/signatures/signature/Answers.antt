use Rattle.hr_parse_declaration.proofs.Declared.{signature_read, fits_below}
use Rattle.hr_parse_declaration.proofs.signatures.signature.Goals as goal

pub returns-clause-reads : goal.returns-clause-reads
returns-clause-reads c = λ before h.
    signature_read {ty = c.in_ok-tree.field-0} c.in_ok-state.ensures (fits_below c.args.depth _ c.in_ok-tree.ensures.fits) c.take.ensures (c.in_ok-names.ensures before h) c.in_ok-colons.ensures c.in_ok-tree.ensures.reads
