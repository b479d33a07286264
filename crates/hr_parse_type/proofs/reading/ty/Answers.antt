use Rattle.hr_parse_type.proofs.Types.{within_depth}
use Rattle.hr_parse_type.proofs.reading.ty.Goals as goal

pub returns-in-Ok : goal.returns-in-Ok
returns-in-Ok c = within_depth c.args.depth c.take.ensures c.in-Ok.ensures.reads c.in-Ok.ensures.fits
