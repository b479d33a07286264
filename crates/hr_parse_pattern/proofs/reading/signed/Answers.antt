use Rattle.hr_parse_pattern.proofs.reading.signed.Goals as goal

pub returns-clause-reads : goal.returns-clause-reads
returns-clause-reads c = c.in_ok-negative.ensures.reads _ c.in_ok-minus.ensures
