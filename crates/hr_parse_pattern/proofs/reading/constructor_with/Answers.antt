use Rattle.std.proofs.Common.{arith}
use Rattle.hr_parse_pattern.proofs.Lists.{no_arguments}
use Rattle.hr_parse_pattern.proofs.Names.{same_name}
use Rattle.hr_parse_pattern.proofs.Patterns.{made, applied_read, applied_fits, many_fits}
use Rattle.hr_parse_pattern.proofs.reading.constructor_with.Goals as goal

pub returns-clause-reads : goal.returns-clause-reads
returns-clause-reads c =
    λ before h. made c.in_ok-applied.ensures
    (applied_read (many_fits c.in_ok-arguments.arguments.height _ c.new-none.ensures c.in_ok-arguments.ensures.fits) (same_name c.take.ensures h) (c.in_ok-arguments.ensures.reads _ (no_arguments _ c.new-none.ensures)))

pub returns-clause-fits : goal.returns-clause-fits
returns-clause-fits c = applied_fits c.take.result c.in_ok-arguments.arguments c.args.depth _ c.in_ok-applied.ensures c.new-none.ensures c.below.ensures c.in_ok-arguments.ensures.fits
